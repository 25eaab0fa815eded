-- The events so far, and what is ahead of them.
use Rattle.plan.proofs.EventLoop.{Underway}
use Rattle.plan.proofs.events.read_events.Given as goal

abbrev pub invariant-loop : goal.invariant-loop
invariant-loop l = Underway l.rest l.p l.room l.read l.left l.at l.counter
