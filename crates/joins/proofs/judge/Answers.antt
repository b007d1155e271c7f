use mathlib.Core.Path.{◌≡◌, sym, ◌∙◌}
use mathlib.Core.Bool.{true, false}
use borrow.Author.Tests.{not-true, not-false}
use Rattle.seats.specs.Arrays.{held}
use Rattle.seats.specs.Rules.{sound}
use Rattle.joins.specs.Join.{same_set_up}
use Rattle.joins.specs.Meet.{judged}
use Rattle.joins.proofs.Both.{Agreed, counts_in}
use Rattle.joins.proofs.judge.Goals as goal
use Rattle.joins.proofs.judge.Goals.{then-not-sound-via-then-not-sound, then-not-sound-via-else-not-sound+then-not-sound-2}

pub returns-then-not-sound : goal.returns-then-not-sound
unfolding judged
returns-then-not-sound c = let s = c.args in
    elim c.then-not-sound.branch [
      | then-not-sound-via-then-not-sound w ↦ (let p : sound (held s.mine) ≡ false = sym c.sound.ensures ∙ w.if-not-sound.true in rw p)
      | then-not-sound-via-else-not-sound+then-not-sound-2 w ↦ (
          let p : sound (held s.mine) ≡ true = sym c.sound.ensures ∙ w.if-not-sound.false in
          let q : sound (held s.other) ≡ false = sym w.sound-else-not-sound.ensures ∙ w.if-not-sound-2.true in
          rw (p, q))
    ]

pub returns-then-not-same_set_up : goal.returns-then-not-same_set_up
unfolding judged
returns-then-not-same_set_up c = let s = c.args in
    let p : sound (held s.mine) ≡ true = sym c.sound.ensures ∙ c.if-not-sound.false in
    let q : sound (held s.other) ≡ true = sym c.sound-else-not-sound.ensures ∙ c.if-not-sound-2.false in
    let d : same_set_up (held s.mine) (held s.other) ≡ false = sym c.same_set_up.ensures ∙ c.if-not-same_set_up.true in
    rw (p, q, d)

pub fits-requires : goal.fits-requires
fits-requires c = let s = c.args in
    let k : Agreed (held s.mine) (held s.other) = record {
      mine = sym c.sound.ensures ∙ c.if-not-sound.false;
      other = sym c.sound-else-not-sound.ensures ∙ c.if-not-sound-2.false;
      same = sym c.same_set_up.ensures ∙ c.if-not-same_set_up.false;
    } in
    counts_in k

pub returns-then-not-fits : goal.returns-then-not-fits
unfolding judged
returns-then-not-fits c = let s = c.args in
    let p : sound (held s.mine) ≡ true = sym c.sound.ensures ∙ c.if-not-sound.false in
    let q : sound (held s.other) ≡ true = sym c.sound-else-not-sound.ensures ∙ c.if-not-sound-2.false in
    let d : same_set_up (held s.mine) (held s.other) ≡ true = sym c.same_set_up.ensures ∙ c.if-not-same_set_up.false in
    rw (p, q, d, not-false _ (sym c.fits.ensures ∙ c.if-not-fits.true))

pub returns : goal.returns
unfolding judged
returns c = let s = c.args in
    let p : sound (held s.mine) ≡ true = sym c.sound.ensures ∙ c.if-not-sound.false in
    let q : sound (held s.other) ≡ true = sym c.sound-else-not-sound.ensures ∙ c.if-not-sound-2.false in
    let d : same_set_up (held s.mine) (held s.other) ≡ true = sym c.same_set_up.ensures ∙ c.if-not-same_set_up.false in
    rw (p, q, d, not-true _ (sym c.fits.ensures ∙ c.if-not-fits.false))
