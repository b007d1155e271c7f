use Rattle.std.proofs.Common.{arith}
use Rattle.frame.specs.Framing.{header_width, body_limit}
use Rattle.streams.proofs.States.{no_calls, is_told}
use Rattle.streams.proofs.Readings.{by_2, by_3, is_stopped}
use Rattle.streams.proofs.Stream.lacks.Goals as goal
use Rattle.streams.proofs.Stream.lacks.Goals.{then-buffer-lt-LIMIT-via-then-buffer-lt-LIMIT, then-buffer-lt-LIMIT-via-else-buffer-lt-LIMIT+then-buffer-self}

pub returns-then-buffer-lt-LIMIT-clause-err : goal.returns-then-buffer-lt-LIMIT-clause-err
returns-then-buffer-lt-LIMIT-clause-err c = no_calls header_width body_limit c.args.buffer.now c.args.self
    (λ p. elim c.then-buffer-lt-LIMIT.branch [
      | then-buffer-lt-LIMIT-via-then-buffer-lt-LIMIT w ↦ omega (arith, w.if-buffer-lt-LIMIT.true, p.room)
      | then-buffer-lt-LIMIT-via-else-buffer-lt-LIMIT+then-buffer-self w ↦ omega (arith, w.if-buffer-self.true, p.within)
    ])

pub returns-in-1-clause-err : goal.returns-in-1-clause-err
returns-in-1-clause-err c = is_told header_width body_limit c.args.buffer.now c.args.self
    (record { room = omega arith; within = omega arith; lacks = omega arith }) c.in-1.is c.wanting-missing.ensures c.at_end.ensures

pub returns-in_default-clause-err : goal.returns-in_default-clause-err
returns-in_default-clause-err c = no_calls header_width body_limit c.args.buffer.now c.args.self (λ p. omega (arith, p.goes))

pub returns-in_default-2-clause-err : goal.returns-in_default-2-clause-err
returns-in_default-2-clause-err c = no_calls header_width body_limit c.args.buffer.now c.args.self (λ p. omega (arith, p.told))

pub returns-in_default-3-clause-err : goal.returns-in_default-3-clause-err
returns-in_default-3-clause-err c = no_calls header_width body_limit c.args.buffer.now c.args.self (λ p. omega (arith, p.stopped))

pub returns-in_default-4-clause-err : goal.returns-in_default-4-clause-err
returns-in_default-4-clause-err c = no_calls header_width body_limit c.args.buffer.now c.args.self (λ p. omega (arith, p.stopped))

pub returns-in_default-5-clause-err : goal.returns-in_default-5-clause-err
returns-in_default-5-clause-err c = no_calls header_width body_limit c.args.buffer.now c.args.self (λ p. omega (arith, p))

pub returns-in-2-clause-err : goal.returns-in-2-clause-err
returns-in-2-clause-err c = is_stopped header_width body_limit c.args.buffer.now c.args.self by_2 c.in-2.is c.if-self-eq0.true c.if-buffer-lt-LIMIT.false

pub returns-in-3-clause-err : goal.returns-in-3-clause-err
returns-in-3-clause-err c = is_stopped header_width body_limit c.args.buffer.now c.args.self by_3 c.in-3.is c.if-self-eq0-2.true c.if-buffer-lt-LIMIT.false
