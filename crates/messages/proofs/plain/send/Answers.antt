-- `plain::send` meets its contract: the numbers are the messages' before and after. Assumes nothing.
use Rattle.messages.proofs.plain.send.Goals as goal

pub returns : goal.returns
returns c = rw (c.read.ensures, c.write.ensures.in_flight) c.send-done.ensures.by_index
