-- `events::event_text` meets its contract. Assumes nothing.
use Rattle.runner.proofs.EventSteps.{counted, no_text}
use Rattle.runner.specs.Events.{event_text}
use Rattle.bench.specs.Batches.{answer_size}
use Rattle.distances.proofs.Booleans.{true-both}
use borrow.Author.Tests.{le-leb}
use Rattle.runner.proofs.events.event_text.Goals as goal

pub path_text-requires : goal.path_text-requires
unfolding answer_size
path_text-requires c = (rw c.in-Path.is at c.requires.1, c.requires.2)

pub returns-in_default : goal.returns-in_default
returns-in_default c = rw (no_text c.args.event c.in_default.not-Report c.in_default.not-Path c.args.bridges c.args.answers.now)

pub returns-in-Report : goal.returns-in-Report
unfolding answer_size event_text
returns-in-Report c =
    rw (c.unwrap_or.ensures, c.in-Report.is)
    (counted c.report.result _ _ _ _ (true-both (le-leb _ 16 c.requires.0) (le-leb _ _ (rw c.in-Report.is at c.requires.1))) c.requires.2 c.report.ensures)

pub returns-in-Path : goal.returns-in-Path
unfolding event_text
returns-in-Path c = rw c.in-Path.is c.path_text.ensures
