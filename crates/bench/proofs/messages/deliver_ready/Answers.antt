-- `messages::deliver_ready` meets its contract: turned down as a repeat is, or the message that it takes goes. Assumes nothing.
use native.Mathlib.Omega.{arith}
use borrow.Author.Rules.{rules}
use Rattle.bench.specs.State.{state_of}
use Rattle.bench.proofs.DeliveryCalls.{deliver-refused, deliver-done, repeat-there}
use Rattle.bench.proofs.messages.deliver_ready.Goals as goal

pub returns-in_err-answer-clause-outcome : goal.returns-in_err-answer-clause-outcome
returns-in_err-answer-clause-outcome c =
    let refused = deliver-refused (state_of c.args.net.now c.args.messages.now) c.requires.in_range c.args.place c.in_err-answer.field-0.0 c.in_err-answer.ensures.outcome in
    search rules

pub take_out-requires : goal.take_out-requires
take_out-requires c =
    repeat-there (state_of c.args.net.now c.args.messages.now) c.requires.in_range c.args.place c.typed.ensures c.in_ok-answer.ensures.outcome c.in_ok-answer.ensures.numbers

pub overflow_sub-net : goal.overflow_sub-net
overflow_sub-net c =
    omega (arith, (repeat-there (state_of c.args.net.now c.args.messages.now) c.requires.in_range c.args.place c.typed.ensures c.in_ok-answer.ensures.outcome c.in_ok-answer.ensures.numbers).0)

pub returns-clause-outcome : goal.returns-clause-outcome
returns-clause-outcome c =
    rw c.take_out.ensures
    (deliver-done (state_of c.args.net.now c.args.messages.now) c.requires.in_range c.args.place c.typed.ensures c.in_ok-answer.ensures.outcome c.in_ok-answer.ensures.numbers)
