-- `plain::lose` meets its contract: the numbers are the messages' before and after. Assumes nothing.
use Rattle.messages.proofs.plain.lose.Goals as goal

pub returns : goal.returns
returns c = rw (c.read.ensures, c.write.ensures.in_flight) c.lose-done.ensures.by_index
