-- `steps::buffers_long` meets its contract. Assumes nothing.
use borrow.Author.Rules.{rules}
use Rattle.runner.specs.Buffers.{buffers_long}
use Rattle.runner.proofs.Numbers.{messages_test}
use Rattle.runner.proofs.steps.buffers_long.Goals as goal

pub returns-then-memory-ge-MOST_MESSAGES : goal.returns-then-memory-ge-MOST_MESSAGES
unfolding buffers_long
returns-then-memory-ge-MOST_MESSAGES c = rw (messages_test c.args.memory.now.messages.now) (search rules)

pub returns-else-memory-ge-MOST_MESSAGES : goal.returns-else-memory-ge-MOST_MESSAGES
unfolding buffers_long
returns-else-memory-ge-MOST_MESSAGES c = rw (messages_test c.args.memory.now.messages.now) (search rules)
