use native.Mathlib.Omega.{arith}
use mathlib.Core.Path.{◌≡◌, ◌∙◌, sym}
use mathlib.Core.Bool.{Bool, true, ◌&&◌}
use mathlib.Core.List.{List}
use Prim.Native.Nat.{ℕ, ◌+◌, ◌*◌, ◌-◌, ◌≤◌}
use lib.Bits.{bit_or}
use lib.Dec.{leb}
use lib.ListN.{get_or}
use Rattle.seats.specs.declared.Fields.{Fields}
use borrow.Author.Tests.{lt-leb, eq-eqb, ne_eqb}
use Rattle.gaps.specs.Gaps.{canon}
use Rattle.gaps.specs.Limits.{most_number}
use Rattle.seats.specs.Places.{span}
use Rattle.seats.specs.Rules.{all_zero, sound_row}
use Rattle.seats.proofs.Bits.{most_both, row-over, row_rest, row-none}
use Rattle.seats.proofs.rules.row.Goals as goal

-- the row's own rules, behind those of its numbers
left : (from highest count : ℕ) (first last : List ℕ) (b : ℕ) {good : Bool} → count ≤ 32 → bit_or from highest ≤ most_number →
    good ≡ (leb 1 from && leb from (highest + 1)) → good ≡ true →
    sound_row from highest count first last b ≡ (canon from highest (span first last b count) && all_zero (span first last (b + count) (32 - count)))
left from highest count first last b p q e g = row_rest from highest count first last b p q ∙ rw (sym e ∙ g)

-- the numbers of the channel at a place
record Numbers : Type 0 where
  from : ℕ
  highest : ℕ
  count : ℕ
  first : List ℕ
  last : List ℕ
  b : ℕ

abbrev numbers : Fields → ℕ → Numbers
numbers f i =
    record { from = get_or f.from.now i 0; highest = get_or f.highest.now i 0; count = get_or f.counts.now i 0; first = f.first.now; last = f.last.now; b = i * 32 }

pub returns-then-count-gt-LIMIT : goal.returns-then-count-gt-LIMIT
unfolding sound_row
returns-then-count-gt-LIMIT c = let s = numbers c.args.fields c.args.at in
    rw (lt-leb s.count 32 (omega arith))

pub returns-then-from-highest-gt-MOST : goal.returns-then-from-highest-gt-MOST
returns-then-from-highest-gt-MOST c = let s = numbers c.args.fields c.args.at in
    sym (row-over s.from s.highest s.count s.first s.last s.b (omega arith) (omega arith))

pub started-requires : goal.started-requires
started-requires c = let s = numbers c.args.fields c.args.at in
    (most_both s.from s.highest (omega arith)).1

pub returns-then-not-started : goal.returns-then-not-started
returns-then-not-started c = let s = numbers c.args.fields c.args.at in
    sym (row_rest s.from s.highest s.count s.first s.last s.b (omega arith) (omega arith)
    ∙ rw (sym c.started.ensures ∙ c.if-not-started.true))

pub returns-then-count-eq0 : goal.returns-then-count-eq0
returns-then-count-eq0 c = let s = numbers c.args.fields c.args.at in
    c.cleared.ensures
    ∙ sym (left s.from s.highest s.count s.first s.last s.b (omega arith) (omega arith) c.started.ensures c.if-not-started.false
    ∙ row-none s.from s.highest s.count s.first s.last s.b c.if-count-eq0.true)

pub ordered-requires : goal.ordered-requires
ordered-requires c = let s = numbers c.args.fields c.args.at in
    (omega arith, omega arith, (most_both s.from s.highest (omega arith)).1)

pub returns-then-ordered-end : goal.returns-then-ordered-end
returns-then-ordered-end c = let s = numbers c.args.fields c.args.at in
    let e : (s.b + s.count) - s.b ≡ s.count = omega arith in
    let g : (s.b + 32) - (s.b + s.count) ≡ 32 - s.count = omega arith in
    (rw g at c.cleared-then-ordered-end.ensures)
    ∙ sym (left s.from s.highest s.count s.first s.last s.b (omega arith) (omega arith) c.started.ensures c.if-not-started.false
    ∙ rw (sym (rw e at c.ordered.ensures) ∙ eq-eqb _ _ c.if-ordered-end.true))

pub returns : goal.returns
returns c = let s = numbers c.args.fields c.args.at in
    let e : (s.b + s.count) - s.b ≡ s.count = omega arith in
    sym (left s.from s.highest s.count s.first s.last s.b (omega arith) (omega arith) c.started.ensures c.if-not-started.false
    ∙ rw (sym (rw e at c.ordered.ensures) ∙ ne_eqb _ _ c.if-ordered-end.false))
