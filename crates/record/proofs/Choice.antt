-- Which layout a type number chooses, and what that says of each call.
-- Assumes nothing.
use Prim.Native.Nat.{ℕ}
use mathlib.Core.Path.{◌≡◌, refl}
use mathlib.Core.Bool.{Bool, true, false, cond}
use mathlib.Core.List.{List, [], ◌∷◌}
use native.Mathlib.Omega.{arith}
use borrow.Author.Tests.{ne_eqb, eqb-true}
use lib.Dec.{eqb}
use Rattle.wire.specs.Answer.{accepted}
use Rattle.layout.specs.Layout.{Message, heartbeat, channel_heartbeat, resend, statistics, security_status, snapshot, index, volume_index, order, trade, type_number, listed, unlisted, chosen, messages, named}
use Rattle.layout.specs.Group.{judge_body}
use Rattle.record.specs.Asked.{with_texts, judge}
use Rattle.record.specs.Paper.{layout_of}
use Rattle.record.specs.declared.kind.Kind.{Kind}
use Rattle.record.specs.Record.{unknown, read_as, read_body, groups_as, groups_of}

-- the number of a listed type chooses it
pub named_as : (m : Message) {t : ℕ} → t ≡ type_number m → named t ≡ listed m
unfolding named
named_as heartbeat e = rw e
named_as channel_heartbeat e = rw e
named_as resend e = rw e
named_as statistics e = rw e
named_as security_status e = rw e
named_as snapshot e = rw e
named_as index e = rw e
named_as volume_index e = rw e
named_as order e = rw e
named_as trade e = rw e

-- no other number does
chosen_by : (b : Bool) (m x : Message) (ms : List Message) (t : ℕ) → eqb t (type_number x) ≡ b → (chosen ms t ≡ listed m → t ≡ type_number m) → cond b (listed x) (chosen ms t) ≡ listed m → t ≡ type_number m
chosen_by true m x ms t e rest h = let p : x ≡ m = cc in rw (← p) (eqb-true _ _ e)
chosen_by false m x ms t e rest h = rest h

chosen_back : (m : Message) (ms : List Message) (t : ℕ) → chosen ms t ≡ listed m → t ≡ type_number m
chosen_back m [] t h = let z : ◌≡◌ {A = ℕ} 0 1 = cc in absurd (omega arith)
chosen_back m (x ∷ ms) t h = chosen_by (eqb t (type_number x)) m x ms t refl (chosen_back m ms t) h

pub named_back : (m : Message) (t : ℕ) → named t ≡ listed m → t ≡ type_number m
unfolding named
named_back m t h = chosen_back m messages t h

-- a number that is no listed type's
abbrev pub No : Message → ℕ → Type 0
No m t = t ≡ type_number m → ⊥

abbrev pub None : ℕ → Type 0
None t =
    (((((((((Unit {0} × No heartbeat t) × No channel_heartbeat t) × No resend t) × No statistics t) × No security_status t) × No snapshot t) × No index t) × No volume_index t) × No order t)
    × No trade t

pub named_none : {t : ℕ} → None t → named t ≡ unlisted
unfolding named
named_none {t} n =
    rw (
      ne_eqb t 3 n.0.0.0.0.0.0.0.0.0.1,
      ne_eqb t 390095 n.0.0.0.0.0.0.0.0.1,
      ne_eqb t 390094 n.0.0.0.0.0.0.0.1,
      ne_eqb t 390090 n.0.0.0.0.0.0.1,
      ne_eqb t 390013 n.0.0.0.0.0.1,
      ne_eqb t 300111 n.0.0.0.0.1,
      ne_eqb t 309011 n.0.0.0.1,
      ne_eqb t 309111 n.0.0.1,
      ne_eqb t 300192 n.0.1,
      ne_eqb t 300191 n.1,
    )

-- ---- by the type, what is read, judged and listed

module _ (s : List ℕ) where
  pub reads_as : (m : Message) {t : ℕ} → t ≡ type_number m → read_as m s ≡ read_body t s
  unfolding read_body
  reads_as m e = rw (named_as m e)

  -- by the kind that the code found
  pub reads_by : (t : ℕ) (x k : Kind) → k ≡ x → listed (layout_of k) ≡ named t → read_as (layout_of x) s ≡ read_body t s
  unfolding read_body
  reads_by t x k p e = rw (← p, ← e)

  pub reads_unlisted : {t : ℕ} → unlisted ≡ named t → with_texts (accepted (unknown t)) [] ≡ read_body t s
  unfolding read_body
  reads_unlisted e = rw (← e)

  pub judges_as : (m : Message) {t : ℕ} → t ≡ type_number m → judge_body m s ≡ judge t s
  judges_as m e = rw (named_as m e)

  pub judges_by : (t : ℕ) (x k : Kind) → k ≡ x → listed (layout_of k) ≡ named t → judge_body (layout_of x) s ≡ judge t s
  judges_by t x k p e = rw (← p, ← e)

  pub judges_unlisted : (t : ℕ) → unlisted ≡ named t → accepted tt ≡ judge t s
  judges_unlisted t e = rw (← e)

  pub parts_by : (t : ℕ) (x k : Kind) → k ≡ x → listed (layout_of k) ≡ named t → groups_as (layout_of x) s ≡ groups_of t s
  unfolding groups_of
  parts_by t x k p e = rw (← p, ← e)

  pub parts_unlisted : (t : ℕ) → unlisted ≡ named t → [] ≡ groups_of t s
  unfolding groups_of
  parts_unlisted t e = rw (← e)
