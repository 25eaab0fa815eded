-- `refusals::lose` meets its contract. Assumes nothing.
use borrow.Author.Tests.{lt-ltb, le-ltb}
use Rattle.protocol.specs.Calls.{refusal, refuse, checks, no_message}
use Rattle.bench.proofs.TieQueue.{messages-length}
use Rattle.bench.proofs.refusals.lose.Goals as goal

pub returns-then-bench-place : goal.returns-then-bench-place
unfolding checks no_message refuse refusal
returns-then-bench-place c = rw (messages-length, le-ltb _ _ c.if-bench-place.true)

pub returns : goal.returns
unfolding checks no_message refuse refusal
returns c = rw (messages-length, lt-ltb _ _ c.if-bench-place.false)
