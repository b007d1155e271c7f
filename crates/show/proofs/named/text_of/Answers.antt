use Rattle.std.proofs.Common.{◌∙◌, arith}
use Rattle.layout.specs.Layout.{resend, security_status, snapshot, index, volume_index, order, trade, text_in}
use Rattle.show.specs.Named.{meant}
use Rattle.show.proofs.Names.{texts_as, texts_rest}
use Rattle.show.proofs.named.text_of.Goals as goal

pub returns-in-390094 : goal.returns-in-390094
returns-in-390094 c = c.resend_text.ensures ∙ texts_as resend _ _ c.in-390094.is

pub returns-in-390013 : goal.returns-in-390013
returns-in-390013 c = c.status_text.ensures ∙ texts_as security_status _ _ c.in-390013.is

pub returns-in-300111 : goal.returns-in-300111
returns-in-300111 c = c.common_text.ensures ∙ texts_as snapshot _ _ c.in-300111.is

pub returns-in-309011 : goal.returns-in-309011
returns-in-309011 c = c.common_text-in-309011.ensures ∙ texts_as index _ _ c.in-309011.is

pub returns-in-309111 : goal.returns-in-309111
unfolding text_in
returns-in-309111 c = c.common_text-in-309111.ensures ∙ texts_as volume_index _ _ c.in-309111.is

pub returns-in-300192 : goal.returns-in-300192
returns-in-300192 c = c.order_text.ensures ∙ texts_as order _ _ c.in-300192.is

pub returns-in-300191 : goal.returns-in-300191
unfolding text_in
returns-in-300191 c = c.order_text-in-300191.ensures ∙ texts_as trade _ _ c.in-300191.is

pub returns-in_default : goal.returns-in_default
returns-in_default c = texts_rest c.args.kind (meant c.args.which) c.args.texts.now
    (((((((tt, λ e. omega arith), λ e. omega arith), λ e. omega arith), λ e. omega arith), λ e. omega arith), λ e. omega arith), λ e. omega arith)
