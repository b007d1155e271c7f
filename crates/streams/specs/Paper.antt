-- The code's answers in the terms of Stream.
-- Assumes nothing.
use Rattle.std.specs.Prelude.{[], ◌∷◌}
use Rattle.wire.specs.Answer.{Answer, accepted, refused}
use Rattle.wire.specs.Refusal.{malformed}
use Rattle.frame.specs.Framing.{frame_refusal, refusal_values}
use Rattle.streams.specs.Stream.{Said, frame, more, end, in_cut, in_buffer, Told}
use Rattle.streams.specs.declared.Says.{Says}
use Rattle.streams.specs.declared.Says.TheVariants as says
use Rattle.streams.specs.declared.Pushed.{Pushed}

abbrev pub means_says : Says → Answer Said
means_says (says.InCut f) = accepted (frame in_cut f)
means_says (says.InBuffer f) = accepted (frame in_buffer f)
means_says (says.More n) = accepted (more (n ∷ []))
means_says says.End = accepted end
means_says (says.Refused x) = refused (frame_refusal x) (refusal_values x)
means_says says.Malformed = refused malformed []

abbrev pub means_pushed : Pushed → Told
means_pushed r = record { said = means_says r.says; took = r.took; next = r.next }
