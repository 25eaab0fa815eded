-- `steps::ended` meets its contract: the last line and its count. Assumes nothing.
use mathlib.Core.List.{[]}
use mathlib.Core.Bool.{false}
use mathlib.Core.Path.{ap}
use Rattle.distances.specs.Refusal.{reply_number}
use Rattle.runner.specs.Steps.{step_outcome, last_step}
use Rattle.runner.specs.Events.{Line}
use Rattle.runner.specs.Buffers.{buffers}
use Rattle.runner.proofs.steps.ended.Goals as goal

pub returns : goal.returns
unfolding last_step
returns c = ap (λ (l : Line). step_outcome (reply_number c.args.end) false 0 l.count c.args.r.now (buffers [] [] [] [] l.out)) c.last_line.ensures
