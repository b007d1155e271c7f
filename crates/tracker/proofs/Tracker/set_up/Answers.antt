use mathlib.Core.Path.{◌∙◌, sym}
use lib.Seq.{take_all}
use Rattle.tracker.proofs.Begin.{set_up_listed, set_up_refused, listed_most}
use Rattle.tracker.proofs.Lowered.{lowered_none}
use Rattle.tracker.proofs.Tracker.set_up.Goals as goal

pub returns-then-listed : goal.returns-then-listed
returns-then-listed c = let s = c.args in
    let e = sym c.listed.ensures ∙ c.if-listed.true in
    let m = listed_most s.numbers.now s.from.now e in
    rw (c.blank.ensures, c.padded.ensures, c.lowered.ensures, c.lowered-then-listed.ensures, take_all 8 s.numbers.now m.0, take_all 8 s.from.now m.1, lowered_none s.from.now)
    (sym (set_up_listed s.numbers.now s.from.now e))

pub returns : goal.returns
returns c = let s = c.args in
    rw c.blank-2.ensures (sym (set_up_refused s.numbers.now s.from.now (sym c.listed.ensures ∙ c.if-listed.false)))
