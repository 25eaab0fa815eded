-- `events::path_text` meets its contract. Assumes nothing.
use Rattle.runner.proofs.EventSteps.{counted}
use Rattle.runner.specs.Events.{path_text}
use borrow.Author.Tests.{eq-eqb, ne_eqb}
use mathlib.Core.Path.{refl}
use Rattle.runner.proofs.events.path_text.Goals as goal

pub returns-then-answers-eq0 : goal.returns-then-answers-eq0
unfolding path_text
returns-then-answers-eq0 c = rw (c.unwrap_or.ensures, eq-eqb _ 0 c.if-answers-eq0.true) (counted c.path_delivered.result _ _ _ _ refl c.requires.1 c.path_delivered.ensures)

pub returns : goal.returns
unfolding path_text
returns c = rw (c.unwrap_or-2.ensures, ne_eqb _ 0 c.if-answers-eq0.false) (counted c.path_stops.result _ _ _ _ refl c.requires.1 c.path_stops.ensures)
