-- `stops::last_line` meets its contract: one of two texts. Assumes nothing.
use mathlib.Core.Path.{refl}
use borrow.Author.Tests.{ne_eqb}
use Rattle.bench.proofs.Replies.{some_number}
use Rattle.runner.specs.Steps.{last_text}
use Rattle.runner.proofs.EventSteps.{counted}
use Rattle.runner.proofs.stops.last_line.Goals as goal

pub returns-in-Ok : goal.returns-in-Ok
unfolding last_text
returns-in-Ok c = rw (c.unwrap_or.ensures, c.in-Ok.is) (counted c.end.result _ _ _ _ refl c.requires c.end.ensures)

pub returns-in-Err : goal.returns-in-Err
unfolding last_text
returns-in-Err c =
    rw (c.unwrap_or-in-Err.ensures, c.in-Err.is, ne_eqb _ 0 (some_number c.in-Err.refusal))
    (counted c.refused.result _ _ _ _ refl c.requires (rw c.number.ensures at c.refused.ensures))
