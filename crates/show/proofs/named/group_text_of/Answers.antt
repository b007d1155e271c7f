use Rattle.std.proofs.Common.{◌∙◌, arith}
use Rattle.layout.specs.Layout.{statistics}
use Rattle.show.specs.Named.{meant}
use Rattle.show.proofs.Names.{group_texts_as, group_texts_rest}
use Rattle.show.proofs.named.group_text_of.Goals as goal

pub returns-in-390090 : goal.returns-in-390090
returns-in-390090 c = c.stream_text.ensures ∙ group_texts_as statistics _ _ c.in-390090.is

pub returns-in_default : goal.returns-in_default
returns-in_default c = group_texts_rest c.args.kind (meant c.args.which) c.args.texts.now (λ e. omega arith)
