-- Two answers of the writer that meet its promise are equal, and two contents of the output are.
-- Assumes nothing.
use Rattle.std.specs.Prelude.{Ok, Err}
use Prim.Native.Nat.{ℕ, zero, suc}
use mathlib.Core.Path.{◌≡◌, refl, sym, ◌∙◌}
use mathlib.Core.List.{List}
use Rattle.record.specs.Paper.{means_record}
use Rattle.record.specs.declared.Record.{Record}
use Rattle.writer.specs.Paper.{writer_refusal, Written, means_written}
use Rattle.writer.specs.Write.{write, write_leaves}
use Rattle.writer.specs.declared.Refusal.{Refusal}
use Rattle.writer.specs.declared.Refusal.TheVariants.{NotItsLayout, OutOfRange, TooLong, OutputShort}

named : ℕ → Refusal
named zero = TooLong
named (suc zero) = TooLong
named (suc (suc zero)) = TooLong
named (suc (suc (suc zero))) = TooLong
named (suc (suc (suc (suc zero)))) = NotItsLayout
named (suc (suc (suc (suc (suc zero))))) = OutOfRange
named (suc (suc (suc (suc (suc (suc n)))))) = OutputShort

named-number : (x : Refusal) → named (writer_refusal x) ≡ x
unfolding named
named-number NotItsLayout = refl
named-number OutOfRange = refl
named-number TooLong = refl
named-number OutputShort = refl

pub paper_one : (a b : Written) → means_written a ≡ means_written b → a ≡ b
paper_one (Ok m) (Ok n) e = cc
paper_one (Ok m) (Err y) e = cc
paper_one (Err x) (Ok n) e = cc
paper_one (Err x) (Err y) e = cc (named-number x, named-number y)

-- an answer and an output that meet the promise
pub record Meets (r : Record) (ts gs out : List ℕ) (a : Written) (after : List ℕ) : Type 0 where
  pub answers : means_written a ≡ write (means_record r) ts gs out
  pub leaves : after ≡ write_leaves (means_record r) ts gs out

pub one_answer : (r : Record) (ts gs out : List ℕ) (a b : Written) (s t : List ℕ) → Meets r ts gs out a s → Meets r ts gs out b t → (a ≡ b) × (s ≡ t)
one_answer r ts gs out a b s t p q = (paper_one a b (p.answers ∙ sym q.answers), p.leaves ∙ sym q.leaves)
