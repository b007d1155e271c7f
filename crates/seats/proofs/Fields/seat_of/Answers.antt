use mathlib.Core.Path.{◌∙◌, sym}
use Rattle.seats.specs.Arrays.{held}
use Rattle.seats.specs.Seat.{seat_of}
use Rattle.seats.proofs.Heads.{sound-count}
use Rattle.seats.proofs.Fields.seat_of.Goals as goal

pub find-requires : goal.find-requires
find-requires c = sound-count (held c.args.self) (sym c.sound.ensures ∙ c.if-sound.true)

pub returns-then-sound : goal.returns-then-sound
unfolding seat_of
returns-then-sound c = rw (sym c.sound.ensures ∙ c.if-sound.true, c.find.ensures)

pub returns : goal.returns
unfolding seat_of
returns c = rw (sym c.sound.ensures ∙ c.if-sound.false)
