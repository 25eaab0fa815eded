-- `lists::put_texts` meets its contract. Assumes nothing.
use Rattle.runner.proofs.ListTexts.{Telling}
use Rattle.runner.proofs.lists.put_texts.Given as goal

abbrev pub invariant-loop-event : goal.invariant-loop-event
invariant-loop-event l = Telling l.bridges 0 l.events l.answers l.initial.out l.out l.end l.at l.event-index
