use Rattle.std.proofs.Common.{Err, refl, ap, ◌≡◌, ◌∙◌}
use Rattle.wire.specs.Number.{answer_number}
use Rattle.tracker.specs.Request.{means_requested}
use Rattle.tracker.specs.declared.RequestRefusal.{RequestRefusal}
use Rattle.tracker.specs.declared.RequestRefusal.TheVariants.{Malformed, NoSuchChannel, OutputShort}
use Rattle.orizhgum.specs.Requested.{request_answer}
use Rattle.orizhgum.specs.declared.written.WriteAnswer.{WriteAnswer}
use Rattle.orizhgum.proofs.requested.orizhgum_request_in.Goals as goal

-- a refusal by its number
numbered : (why : RequestRefusal) → ◌≡◌ {A = WriteAnswer} (record { answer = answer_number (means_requested (Err why)); written = 0 }) (request_answer (means_requested (Err why)))
unfolding request_answer
numbered Malformed = refl
numbered NoSuchChannel = refl
numbered OutputShort = refl

pub returns-in-Ok-Some-clause-value : goal.returns-in-Ok-Some-clause-value
unfolding request_answer
returns-in-Ok-Some-clause-value c =
    let r = c.in-Ok-Some.ensures in
    ap request_answer (rw c.in-Ok-Some.field-0-is at r.result_value)

pub returns-in-Ok-None-clause-value : goal.returns-in-Ok-None-clause-value
unfolding request_answer
returns-in-Ok-None-clause-value c =
    let r = c.in-Ok-None.ensures in
    ap request_answer (rw c.in-Ok-None.field-0-is at r.result_value)

pub returns-in-Err-clause-value : goal.returns-in-Err-clause-value
returns-in-Err-clause-value c =
    let r = c.in-Err.ensures in
    rw c.from.ensures (numbered c.in-Err.why ∙ ap request_answer r.result_value)
