-- A join has one answer: every tracker holds histories, and which of them are taken makes no difference.
use mathlib.Core.Path.{◌≡◌, refl, ap, sym, ◌∙◌}
use mathlib.Core.List.{[]}
use mathlib.Core.Bool.{Bool, true, false, not, cond}
use lib.Dec.{eqb}
use Rattle.std.specs.Prelude.{Ok, Err}
use Rattle.wire.specs.Answer.{Answer, accepted, refused, guard}
use Rattle.wire.specs.Refusal.{table_full, malformed, set_ups_differ}
use Rattle.gaps.proofs.Record.{told, told_record}
use Rattle.seats.specs.Arrays.{Arrays}
use Rattle.seats.specs.Channels.{channel_in}
use Rattle.seats.specs.Rules.{sound}
use Rattle.seats.proofs.Heads.{sound_kept, sound-least}
use Rattle.joins.specs.Join.{Histories, Holds, same_set_up, overfull, Outcome, settled, join, Joins, JoinVerdict, join_said, answered}
use Rattle.joins.specs.Meet.{met_runs, joined_all}
use Rattle.joins.specs.declared.Refusal.TheVariants.{TableFull, Malformed, SetUpsDiffer}
use Rattle.joins.proofs.Both.{join_10, join_10_other, join_11, join_9, join-joined}

-- ---- every tracker holds histories

abbrev pub told_in : Arrays → Histories
told_in a i = told (channel_in a i)

pub holds_told : (a : Arrays) → Holds a (told_in a)
holds_told a p i h =
    let k = sound_kept a p i h in
    told_record (channel_in a i) (sound-least a p i h) k.start k.order

-- ---- and the choice of them makes no difference

-- by four tests in their order, the arrays joined
abbrev tested : Bool → Bool → Bool → Bool → Arrays → Answer Arrays
tested p q s f joined =
    guard (not p) (refused malformed []) (guard (not q) (refused malformed []) (guard (not s) (refused set_ups_differ []) (guard f (refused table_full []) (accepted joined))))

-- the join by the walk over the stored runs
abbrev pub walked : Arrays → Arrays → Outcome
walked a b = settled a (tested (sound a) (sound b) (same_set_up a b) (overfull (met_runs a b) 0 a.count) (joined_all a.count a b))

pub join-walked : (a b : Arrays) (g h : Histories) → Holds a g → Holds b h → walked a b ≡ join a b g h
unfolding guard
join-walked a b g h x y = go (sound a) refl (sound b) refl (same_set_up a b) refl (overfull (met_runs a b) 0 a.count) refl
  where
    go : (p : Bool) → sound a ≡ p → (q : Bool) → sound b ≡ q → (s : Bool) → same_set_up a b ≡ s → (f : Bool) → overfull (met_runs a b) 0 a.count ≡ f →
        settled a (tested p q s f (joined_all a.count a b)) ≡ join a b g h
    go false p q d s e f i = join_10 a b g h p
    go true p false q s e f i = join_10_other a b g h p q
    go true p true q false s f i = join_11 a b g h p q s
    go true p true q true s true f = join_9 (record { mine = p; other = q; same = s }) g h x y f
    go true p true q true s false f = join-joined (record { mine = p; other = q; same = s }) g h x y f

-- ---- so there is an answer, and only one

pub some-join : (a b : Arrays) → Joins a b (walked a b)
some-join a b g h x y = join-walked a b g h x y

one_outcome : (a b : Arrays) (r s : Outcome) → Joins a b r → Joins a b s → r ≡ s
one_outcome a b r s p q = p (told_in a) (told_in b) (holds_told a) (holds_told b) ∙ sym (q (told_in a) (told_in b) (holds_told a) (holds_told b))

-- the code's answer that a refusal's number names
unfoldable pub named : Answer Unit → JoinVerdict
named (accepted x) = Ok x
named (refused n v) = Err (cond (eqb n table_full) TableFull (cond (eqb n set_ups_differ) SetUpsDiffer Malformed))

named-said : (v : JoinVerdict) → named (join_said v) ≡ v
unfolding named
named-said (Ok x) = refl
named-said (Err TableFull) = refl
named-said (Err Malformed) = refl
named-said (Err SetUpsDiffer) = refl

-- every outcome is one of the code's
pub said-walked : (a b : Arrays) → join_said (named (walked a b).said) ≡ (walked a b).said
unfolding named guard
said-walked a b = go (sound a) (sound b) (same_set_up a b) (overfull (met_runs a b) 0 a.count)
  where
    go : (p q s f : Bool) → join_said (named (settled a (tested p q s f (joined_all a.count a b))).said) ≡ (settled a (tested p q s f (joined_all a.count a b))).said
    go false q s f = refl
    go true false s f = refl
    go true true false f = refl
    go true true true true = refl
    go true true true false = refl

-- a join leaves one answer and one content of the arrays
pub one-join : (a b c d : Arrays) (v w : JoinVerdict) → Joins a b (answered v c) → Joins a b (answered w d) → (v ≡ w) × (c ≡ d)
one-join a b c d v w p q =
    let e = one_outcome a b (answered v c) (answered w d) p q in
    (sym (named-said v) ∙ ap (λ (o : Outcome). named o.said) e ∙ named-said w, ap (λ (o : Outcome). o.next) e)
