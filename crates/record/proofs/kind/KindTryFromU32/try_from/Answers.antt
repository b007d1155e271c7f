use Rattle.std.proofs.Common.{sym, arith}
use Rattle.layout.specs.Layout.{heartbeat, channel_heartbeat, resend, statistics, security_status, snapshot, index, volume_index, order, trade}
use Rattle.record.proofs.Choice.{None, named_as, named_none}
use Rattle.record.proofs.kind.KindTryFromU32.try_from.Goals as goal

pub returns-in-3 : goal.returns-in-3
returns-in-3 c = sym (named_as heartbeat c.in-3.is)

pub returns-in-390095 : goal.returns-in-390095
returns-in-390095 c = sym (named_as channel_heartbeat c.in-390095.is)

pub returns-in-390094 : goal.returns-in-390094
returns-in-390094 c = sym (named_as resend c.in-390094.is)

pub returns-in-390090 : goal.returns-in-390090
returns-in-390090 c = sym (named_as statistics c.in-390090.is)

pub returns-in-390013 : goal.returns-in-390013
returns-in-390013 c = sym (named_as security_status c.in-390013.is)

pub returns-in-300111 : goal.returns-in-300111
returns-in-300111 c = sym (named_as snapshot c.in-300111.is)

pub returns-in-309011 : goal.returns-in-309011
returns-in-309011 c = sym (named_as index c.in-309011.is)

pub returns-in-309111 : goal.returns-in-309111
returns-in-309111 c = sym (named_as volume_index c.in-309111.is)

pub returns-in-300192 : goal.returns-in-300192
returns-in-300192 c = sym (named_as order c.in-300192.is)

pub returns-in-300191 : goal.returns-in-300191
returns-in-300191 c = sym (named_as trade c.in-300191.is)

pub returns-in_default : goal.returns-in_default
returns-in_default c =
    let none : None c.args.kind = ((((((((((tt, λ e. omega arith), λ e. omega arith), λ e. omega arith), λ e. omega arith), λ e. omega arith), λ e. omega arith), λ e. omega arith), λ e. omega arith), λ e. omega arith), λ e. omega arith) in
    sym (named_none none)
