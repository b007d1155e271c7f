-- Demand 2: acceptance, what is written reads back, what is read and written again is the same bytes.
-- Assumes nothing.
use Prim.Native.Nat.{ℕ, zero, suc, ◌+◌, ◌-◌, ◌*◌}
use mathlib.Core.Path.{◌≡◌, refl, ap, sym, subst, ◌∙◌}
use mathlib.Core.Logic.{◌↔◌}
use mathlib.Core.Bool.{Bool, true, false}
use lib.Dec.{eqb}
use mathlib.Core.List.{List, [], ◌∷◌, ◌++◌}
use native.Mathlib.Omega.{arith}
use lib.IntN.{ℤ}
use lib.ListN.{length, take, length-append}
use lib.Seq.{take-append_seam}
use Rattle.wire.specs.Answer.{Answer, accepted, refused, RefusedBy, with_values, guard, and_then}
use Rattle.wire.specs.Refusal.{not_its_layout, out_of_range}
use Rattle.wire.proofs.Be.{part-behind}
use Rattle.wire.specs.Bytes.{splice}
use Rattle.wire.proofs.Digits.{length_digits}
use Rattle.frame.specs.Framing.{read, body_of, header_width, body_limit}
use Rattle.frame.specs.declared.Frame.{Frame}
use Rattle.frame.proofs.Framing as frame_laws
use Rattle.layout.specs.Layout.{Message, heartbeat, channel_heartbeat, resend, statistics, security_status, snapshot, index, volume_index, order, trade, streams, switches, index_entries, snapshot_entries, Behind, nothing, groups, entries, behind, Entries, entry_group, fields, type_number, Listed, listed, unlisted as no_type, named, size, values, texts}
use Rattle.layout.specs.Group.{next_offset, group_offset, count, needs, judge_body, judge_groups}
use Rattle.layout.proofs.Walk.{offset-next, offset_flat}
use Rattle.record.specs.Asked.{WithTexts, with_texts, once_accepted, Asked, found, no_such_entry, judge_listed as judged_body}
use Rattle.record.specs.Record.{Reading, known, unknown, read_as, read_listed, read_body, read_body_of, read_frame, group_as, group_listed, group_of, groups_as, groups_listed, groups_of}
use Rattle.record.proofs.Choice.{named_as}
use Rattle.entries.specs.Paper.{means_cursor, means_step}
use Rattle.entries.specs.declared.cursor.Cursor.{Cursor}
use Rattle.entries.specs.Paper.{Step}
use Rattle.entries.proofs.Steps.{on_from, step_after, step-is-entry}
use Rattle.entries.specs.Entry.{Entry, At, Stepped, entry_at, start, step_in, step, entry_listed, entry_of, quantity_listed, quantity_of, entry_found}
use Rattle.record.specs.Paper.{means_record, means_frame_reading}
use Rattle.bodies.specs.Body.{encode, body, body_length, exact}
use Rattle.writer.specs.Write.{header, with_sum, frame_of, write_known, write_judged, output_written, write, write_leaves}
use Rattle.bodies.proofs.Bodies.{exactly}
use Rattle.writer.proofs.Judging.{known_of}
use Rattle.bodies.proofs.Round.{length-encode}
use Rattle.demands.specs.Demand2.{ByTheRules, StepsTo, last_step, then_on, SameEntries, Reader, Accepted, with_value, Unlisted, shown_sum, bytes_of, Column, Tail, Leaves, frame_first, as_it_stood, Writer, Output, Held, Reads, ReadsBack, NoTail, SameBytes}
use Rattle.demands.specs.Rules.{◌if◌, Judged, success, here, later}
use Rattle.demands.proofs.Calls.{frame_read_as, frame_body_as, frame_walk_as, frame_wanting_as, frame_reach_as, stream_new_as, stream_push_as, stream_end_as, groups_of_as, read_frame_as, read_as_lem, judge_as, group_of_as, entry_of_as, quantity_of_as, start_as, step_as, write_as}
use Rattle.demands.proofs.Tail.{judged-tail, same-entry, read-tail, groups-tail, group_as_tail, entry_in_tail, quantity_in_tail, start-tail}
use Rattle.demands.proofs.Rules.{not-both, accepted_where}
use Rattle.demands.proofs.Demand1.{demand1}
use Rattle.demands.proofs.Back.{ReadsAs, back_known, judged_again, bytes_again}

-- ---- what is read

pub by_the_rules : ByTheRules
by_the_rules =
    record {
      frame_read = λ s a h. frame_read_as h;
      frame_body = λ s b h. frame_body_as h;
      frame_walk = λ s w h. frame_walk_as h;
      frame_wanting = λ s n h. frame_wanting_as h;
      frame_reach = λ s n h. frame_reach_as h;
      stream_new = λ st h. stream_new_as h;
      stream_push = λ st buffer c left r h. stream_push_as h;
      stream_end = λ st buffer r h. stream_end_as h;
      read_frame_call = λ s x h. read_frame_as h;
      read = λ type b x h. read_as_lem h;
      judge = λ type b v h. judge_as h;
      group_of_call = λ type b i x h. group_of_as h;
      groups_of_call = λ type b gs h. groups_of_as h;
      entry_of_call = λ type b i x h. entry_of_as h;
      quantity_of_call = λ type b i j x h. quantity_of_as h;
      start = λ type b c h. start_as h;
      step = λ c type b x h. step_as h;
    }

-- ---- entries by a cursor and by position

unit_judged : (v : Answer Unit) → Accepted v → v ≡ accepted tt
unit_judged (accepted u) k = refl
unit_judged (refused n vs) k = not-both k

follows : {type : ℕ} {b : List ℕ} {i : ℕ} {c : Cursor} {x : Step} → StepsTo type b i c x → means_step x ≡ step_after (named type) b i (means_cursor c)
unfolding step_after
follows (last_step h) = step_as h
follows {type} {b = b} (then_on {i = i} z h e f p) =
    follows p ∙ ap (step_after (named type) b i) f ∙ sym (ap (λ (w : Answer (Asked Stepped)). on_from w (step_after (named type) b i)) (sym (step_as h) ∙ e))

pub same_entries : SameEntries
same_entries type i b v c x a h k s p q =
    ap entry_found (follows p ∙ ap (step_after (named type) b i) (start_as s))
    ∙ step-is-entry type b i (unit_judged (judged_body (named type) b) (subst Accepted (judge_as h) k))
    ∙ sym (entry_of_as q)

-- ---- acceptance

pub reader : Reader
reader s x e = accepted_where (demand1.read_frame_call s x e)

pub writer : Writer
writer r ts gs out after a c = accepted_where (demand1.write r ts gs out after a c).judged

-- ---- a type that is not listed

pub unlisted : Unlisted
unfolding read_frame read_body
unlisted s b f x h c p q =
    let e = sym (frame_read_as h) in
    record { type = ap (λ (t : WithTexts Reading). t.answer) (read_frame_as p) ∙ rw (e, c); body = frame_body_as q ∙ rw e }

-- ---- the bytes that each type's body takes

shown-ends : (b : List ℕ) (k : ℕ) → group_offset snapshot_entries b 69 k ≡ 69 + 32 * k + 8 * shown_sum b k
unfolding group_offset size
shown-ends b zero = refl
shown-ends b (suc k) = omega (arith, offset-next snapshot_entries b 69 k, shown-ends b k)

needs-bytes : (m : Message) (b : List ℕ) → needs m b ≡ bytes_of m b
unfolding group_offset size
needs-bytes heartbeat b = refl
needs-bytes channel_heartbeat b = refl
needs-bytes resend b = refl
needs-bytes statistics b = offset_flat streams b refl 14 (count statistics b)
needs-bytes security_status b = offset_flat switches b refl 34 (count security_status b)
needs-bytes snapshot b = shown-ends b (count snapshot b)
needs-bytes index b = offset_flat index_entries b refl 69 (count index b)
needs-bytes volume_index b = refl
needs-bytes order b = refl
needs-bytes trade b = refl

refused_twice : {A : Type 0} {n m : ℕ} {vs : List ℕ} {a : Answer A} → RefusedBy n a → a ≡ refused m vs → n ≡ m
refused_twice (with_values ws) e = cc

accepted_too : {A C : Type 0} {n : ℕ} {x : A} → RefusedBy n (accepted x) → C
accepted_too = elim [ ]

-- the first of two rules
by_first : {A C D : Type 0} {a : Answer A} → Judged (not_its_layout if C ∷ out_of_range if D ∷ []) a → RefusedBy not_its_layout a ↔ C
by_first (here w) = (λ x. w, λ x. with_values _)
by_first (later n (here w)) = (λ x. absurd (omega (arith, refused_twice x refl)), λ x. absurd (n x))
by_first (later n (later m success)) = (accepted_too, λ x. absurd (n x))

pub column : Column
column m b r c = rw (named_as m {t = type_number m} refl, needs-bytes m b) at (by_first (demand1.read (type_number m) b r c))

-- ---- the tail

once_judged : {A : Type 0} (v : Answer Unit) (a : A) (ts : List ℕ) → Accepted (once_accepted v a ts).answer → v ≡ accepted tt
once_judged (accepted u) a ts k = refl
once_judged (refused n vs) a ts k = not-both k

then_judged : {A : Type 0} (v : Answer Unit) (a : A) → Accepted (and_then v (λ (u : Unit). accepted a)) → v ≡ accepted tt
unfolding and_then
then_judged (accepted u) a k = refl
then_judged (refused n vs) a k = not-both k

read_longer : (l : Listed) (type : ℕ) (b t : List ℕ) → Accepted (read_listed l type b).answer → read_listed l type (b ++ t) ≡ read_listed l type b
unfolding read_as
read_longer (listed m) type b t k = read-tail m b t (once_judged (judge_body m b) _ _ k)
read_longer no_type type b t k = refl

group_longer : (l : Listed) (b t : List ℕ) (i : ℕ) → Accepted (group_listed l b i).answer → group_listed l (b ++ t) i ≡ group_listed l b i
unfolding group_as
group_longer (listed m) b t i k = group_as_tail m b t (once_judged (judge_body m b) _ _ k) i
group_longer no_type b t i k = refl

entry_longer :
    (l : Listed) (b t : List ℕ) (i : ℕ) → Accepted (and_then (judged_body l b) (λ (u : Unit). accepted (entry_listed l b i))) →
    and_then (judged_body l (b ++ t)) (λ (u : Unit). accepted (entry_listed l (b ++ t) i)) ≡ and_then (judged_body l b) (λ (u : Unit). accepted (entry_listed l b i))
unfolding and_then
entry_longer (listed m) b t i k = let a = then_judged (judge_body m b) _ k in rw (judged-tail m b t a, a, entry_in_tail m b t a i)
entry_longer no_type b t i k = refl

quantity_longer :
    (l : Listed) (b t : List ℕ) (i j : ℕ) → Accepted (and_then (judged_body l b) (λ (u : Unit). accepted (quantity_listed l b i j))) →
    and_then (judged_body l (b ++ t)) (λ (u : Unit). accepted (quantity_listed l (b ++ t) i j)) ≡ and_then (judged_body l b) (λ (u : Unit). accepted (quantity_listed l b i j))
unfolding and_then
quantity_longer (listed m) b t i j k = let a = then_judged (judge_body m b) _ k in rw (judged-tail m b t a, a, quantity_in_tail m b t a i j)
quantity_longer no_type b t i j k = refl

judge_longer : (l : Listed) (b t : List ℕ) → Accepted (judged_body l b) → judged_body l (b ++ t) ≡ judged_body l b
judge_longer (listed m) b t k = let a = unit_judged (judge_body m b) k in judged-tail m b t a ∙ sym a
judge_longer no_type b t k = refl

-- a step where an entry is left
abbrev step_at : Entries → List ℕ → At → Answer (Asked Stepped)
step_at e s c =
    and_then (judge_groups (entry_group e) s c.offset 1)
    (λ (u : Unit). accepted (found (record { entry = entry_at e s c.offset; onward = record { offset = next_offset (entry_group e) s c.offset; left = c.left - 1 } })))

entry-step : (e : Entries) (b t : List ℕ) (c : At) → Accepted (step_at e b c) → step_at e (b ++ t) c ≡ step_at e b c
unfolding and_then
entry-step e b t c k =
    let a = then_judged (judge_groups (entry_group e) b c.offset 1) _ k in
    let n = same-entry e b t c.offset a in
    rw (n.judged, a, n.entry, n.behind)

step-behind : (h : Behind) (b t : List ℕ) (c : At) → Accepted (step_in h b c) → step_in h (b ++ t) c ≡ step_in h b c
unfolding guard
step-behind nothing b t c k = refl
step-behind (groups g) b t c k = refl
step-behind (entries e) b t c k = by (eqb c.left 0) k
  where
    by : (x : Bool) → Accepted (guard x (accepted no_such_entry) (step_at e b c)) → guard x (accepted no_such_entry) (step_at e (b ++ t) c) ≡ guard x (accepted no_such_entry) (step_at e b c)
    by true j = refl
    by false j = entry-step e b t c j

step_longer : (l : Listed) (b t : List ℕ) (c : At) → Accepted (step l b c) → step l (b ++ t) c ≡ step l b c
unfolding step
step_longer (listed m) b t c k = step-behind (behind m) b t c k
step_longer no_type b t c k = refl

frame_longer : (s t : List ℕ) (a : Answer Frame) → read header_width body_limit s ≡ a → Accepted (read_body_of a s).answer → read_frame (s ++ t) ≡ read_frame s
unfolding read_frame
frame_longer s t (accepted f) e k =
    let n = frame_laws.known_of header_width body_limit s f e in
    let u = frame_laws.unchanged_behind header_width body_limit s t (omega arith) (λ x. accepted_too (rw e at x)) ∙ e in
    rw (u, e, part-behind 8 (8 + f.len) s t (omega arith) (omega arith))
frame_longer s t (refused n vs) e k = not-both k

not-refused : {A : Type 0} {a : Answer A} {n : ℕ} → Accepted a → RefusedBy n a → ⊥
not-refused (with_value x) r = accepted_too r

frame_same : (s t : List ℕ) → Accepted (read header_width body_limit s) → read header_width body_limit (s ++ t) ≡ read header_width body_limit s
frame_same s t k = frame_laws.unchanged_behind header_width body_limit s t (omega arith) (λ x. not-refused k x)

body_longer :
    (s t : List ℕ) (a : Answer Frame) → read header_width body_limit s ≡ a → Accepted a →
    body_of header_width (read header_width body_limit (s ++ t)) (s ++ t) ≡ body_of header_width (read header_width body_limit s) s
body_longer s t (accepted f) e k =
    let n = frame_laws.known_of header_width body_limit s f e in
    let u = frame_laws.unchanged_behind header_width body_limit s t (omega arith) (λ x. accepted_too (rw e at x)) ∙ e in
    rw (u, e, part-behind 8 (8 + f.len) s t (omega arith) (omega arith))
body_longer s t (refused n vs) e k = not-both k

groups_longer : (l : Listed) (b t : List ℕ) → Accepted (judged_body l b) → groups_listed l (b ++ t) ≡ groups_listed l b
groups_longer (listed m) b t k = groups-tail m b t (unit_judged (judge_body m b) k)
groups_longer no_type b t k = refl

start_longer : (l : Listed) (b t : List ℕ) → Accepted (judged_body l b) → start l (b ++ t) ≡ start l b
unfolding start
start_longer (listed m) b t k = start-tail m b t (unit_judged (judge_body m b) k)
start_longer no_type b t k = refl

-- what holds of the definition is told of the answers that meet it
longer :
    {A B : Type 0} (answer : A → Answer B) {p q d e : A} → p ≡ d → q ≡ e → (Accepted (answer d) → e ≡ d) → Accepted (answer p) → q ≡ p
longer answer {p} g h more k = h ∙ more (subst (λ x. Accepted (answer x)) g k) ∙ sym g

pub tail : (b t : List ℕ) → Tail b t
unfolding read_frame read_body group_of groups_of entry_of quantity_of
tail b t =
    record {
      frame_read = λ r u p q k. longer (λ (x : Answer Frame). x) (frame_read_as p) (frame_read_as q) (frame_same b t) k;
      frame_body = λ a x y h k p q. frame_body_as q ∙ body_longer b t (read header_width body_limit b) refl (subst Accepted (frame_read_as h) k) ∙ sym (frame_body_as p);
      groups_of_call = λ type v x y h k p q. groups_of_as q ∙ groups_longer (named type) b t (subst Accepted (judge_as h) k) ∙ sym (groups_of_as p);
      start = λ type v c d h k p q. start_as q ∙ start_longer (named type) b t (subst Accepted (judge_as h) k) ∙ sym (start_as p);
      read_frame_call = λ r u p q k. longer (λ (x : WithTexts Reading). x.answer) (read_frame_as p) (read_frame_as q) (λ j. frame_longer b t (read header_width body_limit b) refl j) k;
      read = λ type r u p q k. longer (λ (x : WithTexts Reading). x.answer) (read_as_lem p) (read_as_lem q) (read_longer (named type) type b t) k;
      judge = λ type r u p q k. longer (λ (x : Answer Unit). x) (judge_as p) (judge_as q) (judge_longer (named type) b t) k;
      group_of_call = λ type i r u p q k. longer (λ (x : WithTexts (Asked (List ℤ))). x.answer) (group_of_as p) (group_of_as q) (group_longer (named type) b t i) k;
      entry_of_call = λ type i r u p q k. longer (λ (x : Answer (Asked Entry)). x) (entry_of_as p) (entry_of_as q) (entry_longer (named type) b t i) k;
      quantity_of_call = λ type i j r u p q k. longer (λ (x : Answer (Asked ℤ)). x) (quantity_of_as p) (quantity_of_as q) (quantity_longer (named type) b t i j) k;
      step = λ c type r u p q k. longer (λ (x : Answer (Asked Stepped)). x) (step_as p) (step_as q) (step_longer (named type) b t (means_cursor c)) k;
    }

-- ---- the output
length-frame : (t : ℕ) (b : List ℕ) → length (frame_of t b) ≡ 12 + length b
unfolding with_sum header
length-frame t b = simp (length-append, length_digits) (omega arith)

length-body : (m : Message) (zs : List ℤ) (ts gs : List ℕ) → exact m zs ts gs ≡ true → length (body m zs ts gs) ≡ body_length m gs
unfolding body
length-body m zs ts gs e =
    length-append (encode (fields m) zs ts) gs ∙ rw (length-encode (fields m) zs ts (exactly m zs ts gs e).texts)

holds_by : (x : Reading) (ts gs out : List ℕ) (a : Answer ℕ) → write_judged x ts gs (length out) ≡ a → Leaves out a x ts gs (output_written a x ts gs out)
unfolding splice
holds_by (known m zs) ts gs out (accepted n) e =
    let k = known_of m zs ts gs (length out) n e in
    let t : ℕ = type_number m in
    let b : List ℕ = body m zs ts gs in
    let i : n ≡ 12 + body_length m gs = omega (arith, k.total) in
    let l : 0 + length (frame_of t b) ≡ n = omega (arith, length-frame t b, length-body m zs ts gs k.exacts) in
    rw l (frame_first i)
holds_by (unknown type) ts gs out (accepted n) e = let z : ◌≡◌ {A = ℕ} 0 1 = cc in absurd (omega arith)
holds_by x ts gs out (refused n vs) e = as_it_stood

pub output : Output
unfolding write write_leaves
output r ts gs out after a c =
    rw ((write_as c).answers, (write_as c).leaves) (holds_by (means_record r) ts gs out (write_judged (means_record r) ts gs (length out)) refl)

-- ---- what is written reads back

pub back_by : (x : Reading) → Held x → (ts gs out : List ℕ) (n : ℕ) → write_judged x ts gs (length out) ≡ accepted n → ReadsAs x ts gs n (write_leaves x ts gs out)
unfolding write_leaves
back_by (known m zs) h ts gs out n e = rw e (back_known m h ts gs out n e)
back_by (unknown type) h ts gs out n e = let z : ◌≡◌ {A = ℕ} 0 1 = cc in absurd (omega arith)

-- what the definitions say, every answer of the reader says
reads_by : {x : Reading} {ts gs : List ℕ} {n : ℕ} {s : List ℕ} → ReadsAs x ts gs n s → Reads x ts gs n s
reads_by {s = s} r =
    record {
      frame = r.frame;
      framed = λ a p. frame_read_as p ∙ r.framed;
      total = r.total;
      fields = λ y p. read_frame_as p ∙ r.fields;
      groups = λ b g p q. groups_of_as q ∙ ap (groups_of r.frame.kind) (frame_body_as p ∙ ap (λ (a : Answer Frame). body_of header_width a s) r.framed) ∙ r.groups;
    }

pub reads_back : ReadsBack
unfolding write
reads_back r ts gs out after a n h c e =
    rw (write_as c).leaves (reads_by (back_by (means_record r) h ts gs out n (sym (write_as c).answers ∙ e)))

-- ---- what is read and written again

-- what a listed body tells, by how it was judged
record Listened (m : Message) (b : List ℕ) (t : WithTexts Reading) (x : Reading) : Type 0 where
  pub good : judge_body m b ≡ accepted tt
  pub is : x ≡ known m (values (fields m) b 0)
  pub words : take t.used t.texts ≡ texts (fields m) b 0

listened :
    (m : Message) (b : List ℕ) (t : WithTexts Reading) (x : Reading) (v : Answer Unit) → judge_body m b ≡ v → t ≡ read_as m b → t.answer ≡ accepted x → Listened m b t x
unfolding read_as
listened m b t x (accepted u) e f g =
    let h : t ≡ with_texts (accepted (known m (values (fields m) b 0))) (texts (fields m) b 0) = f ∙ rw e in
    let i : accepted x ≡ accepted (known m (values (fields m) b 0)) = sym g ∙ ap (λ (y : WithTexts Reading). y.answer) h in
    record { good = e; is = cc; words = rw h (take-append_seam (texts (fields m) b 0) _) }
listened m b t x (refused n vs) e f g =
    let h : t ≡ with_texts (refused n vs) [] = f ∙ rw e in
    let i : ◌≡◌ {A = Answer Reading} (accepted x) (refused n vs) = sym g ∙ ap (λ (y : WithTexts Reading). y.answer) h in
    let z : ◌≡◌ {A = ℕ} 0 1 = cc in
    absurd (omega arith)

listed_reading : (s : List ℕ) (f : Frame) (m : Message) → read header_width body_limit s ≡ accepted f → named f.kind ≡ listed m → read_frame s ≡ read_as m (body_of header_width (accepted f) s)
unfolding read_frame read_body
listed_reading s f m e c = rw (e, c)

pub listed-groups : (t : ℕ) (m : Message) (b : List ℕ) → named t ≡ listed m → groups_of t b ≡ groups_as m b
unfolding groups_of
listed-groups t m b c = rw c

pub same_bytes : SameBytes
unfolding write write_leaves
same_bytes s b g out after f m x r a bytes h d c n p q v room w =
    let e = sym (frame_read_as h) in
    let o : List ℕ = body_of header_width (accepted f) s in
    let is : b ≡ o = frame_body_as d ∙ ap (λ (y : Answer Frame). body_of header_width y s) e in
    let t : NoTail m o = rw is at n in
    let l = listened m o (means_frame_reading x) (means_record r) (judge_body m o) refl (read_frame_as p ∙ listed_reading s f m e c) q in
    let zs : List ℤ = values (fields m) o 0 in
    let ts : List ℕ = texts (fields m) o 0 in
    let gs : List ℕ = groups_as m o in
    let k : g ≡ gs = groups_of_as v ∙ ap (groups_of f.kind) is ∙ listed-groups f.kind m o c in
    let j : write_known m zs ts gs (length out) ≡ accepted f.total = judged_again s f m bytes e c l.good t out room in (
      (write_as w).answers ∙ rw (l.is, l.words, k, j),
      (write_as w).leaves ∙ rw (l.is, l.words, k, j) (bytes_again s f m bytes e c l.good t out room),
    )
