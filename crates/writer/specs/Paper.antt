-- The code's answers in the specs' terms.
-- Assumes nothing.
use Rattle.std.specs.Prelude.{ℕ, [], Result, Ok, Err}
use Rattle.wire.specs.Answer.{Answer, accepted, refused}
use Rattle.wire.specs.Refusal.{too_long, not_its_layout, out_of_range, output_short}
use Rattle.layout.specs.declared.group.Refusal as layout_refusal
use Rattle.writer.specs.declared.Refusal.{Refusal}
use Rattle.writer.specs.declared.Refusal.TheVariants.{NotItsLayout, OutOfRange, TooLong, OutputShort}

-- the number of a refusal
abbrev pub writer_refusal : Refusal → ℕ
writer_refusal NotItsLayout = not_its_layout
writer_refusal OutOfRange = out_of_range
writer_refusal TooLong = too_long
writer_refusal OutputShort = output_short

-- the writer's refusal for that of a body
abbrev pub body_refused : layout_refusal.Refusal → Refusal
body_refused layout_refusal.TheVariants.NotItsLayout = NotItsLayout
body_refused layout_refusal.TheVariants.OutOfRange = OutOfRange

-- what the code answers: how many bytes were written, or the refusal
abbrev pub Written : Type 0
Written = Result ℕ Refusal

-- the answer
abbrev pub means_written : Written → Answer ℕ
means_written (Ok n) = accepted n
means_written (Err x) = refused (writer_refusal x) []
