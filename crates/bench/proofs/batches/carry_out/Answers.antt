-- `batches::carry_out` meets its contract: no room, or the event is made or refused. Assumes nothing.
use native.Mathlib.Omega.{arith}
use mathlib.Core.Path.{refl}
use Rattle.bench.specs.State.{state_of}
use Rattle.bench.proofs.EventSteps.{network-ok, full-leaves, made-leaves, refused-leaves}
use Rattle.bench.proofs.QueueRanges.{network-told}
use Rattle.bench.proofs.Replies.{some_number}
use Rattle.bench.proofs.batches.carry_out.Goals as goal

pub overflow_cast-net : goal.overflow_cast-net
overflow_cast-net c = omega (arith, (network-told _ _ _ _ (network-ok (state_of c.args.net.now c.args.flight.now) c.requires.in_range)).few_bridges)

pub returns-then-answers-size-clause-batch : goal.returns-then-answers-size-clause-batch
returns-then-answers-size-clause-batch c =
    full-leaves (state_of c.args.net.now c.args.flight.now) c.requires.in_range c.typed.ensures c.args.event c.args.answers.now (rw (← c.answer_size-size.ensures) c.if-answers-size.true)

pub returns-in-Ok-clause-batch : goal.returns-in-Ok-clause-batch
returns-in-Ok-clause-batch c =
    made-leaves (state_of c.args.net.now c.args.flight.now) c.requires.in_range c.typed.ensures c.args.event c.args.answers.now
    (rw (← c.answer_size-size.ensures) c.if-answers-size.false) c.in-Ok.ensures.makes refl c.answer_size-size.ensures

pub returns-in-Err-clause-batch : goal.returns-in-Err-clause-batch
returns-in-Err-clause-batch c =
    refused-leaves (state_of c.args.net.now c.args.flight.now) c.requires.in_range c.typed.ensures c.args.event c.args.answers.now
    (rw (← c.answer_size-size.ensures) c.if-answers-size.false) c.in-Err.ensures.makes (some_number c.in-Err.refusal)
