-- `queue::take_out` meets its contract. Assumes nothing.
use native.Mathlib.Omega.{arith}
use mathlib.Core.Path.{◌∙◌}
use Rattle.bench.proofs.QueueTaken.{taken-moved}
use Rattle.bench.proofs.queue.take_out.Goals as goal

pub returns : goal.returns
returns c = let a = c.args in c.copy_within.ensures.after ∙ taken-moved a.count a.place a.messages.now (omega arith) (omega arith)
