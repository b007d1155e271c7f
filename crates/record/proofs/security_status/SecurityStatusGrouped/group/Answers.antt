use Rattle.std.proofs.Common.{[], ◌∷◌, pos}
use Rattle.wire.specs.Answer.{accepted}
use Rattle.layout.specs.Layout.{values, texts}
use Rattle.record.specs.Asked.{found}
use Rattle.record.proofs.security_status.SecurityStatusGrouped.group.Goals as goal

pub returns : goal.returns
unfolding values texts
returns c =
    λ i.
    record {
      answer = accepted (found (pos (c.at.ensures i) ∷ pos (c.at-2.ensures i) ∷ []));
      texts = c.no_texts.ensures.0 i;
      used = c.no_texts.ensures.1 i;
    }
