use Rattle.std.proofs.Common.{ℕ, ◌+◌, ◌*◌, length, [], ◌∷◌, pos, ap, ◌∙◌}
use Rattle.wire.specs.Answer.{accepted}
use Rattle.layout.specs.Layout.{values}
use Rattle.record.specs.Asked.{filled, found}
use Rattle.record.proofs.Gathered.{stream-texts}
use Rattle.record.proofs.statistics.StatisticsGrouped.group.Goals as goal

pub returns : goal.returns
unfolding values
returns c =
    let e = stream-texts c.args.body.now (14 + 15 * c.args.i) in
    λ i.
    record {
      answer = accepted (found (pos (c.at.ensures i) ∷ []));
      texts = (c.gather.ensures.0 ∙ ap filled e) i;
      used = (c.gather.ensures.1 ∙ ap (length {A = ℕ}) e) i;
    }
