-- `events::has_text` meets its contract. Assumes nothing.
use Rattle.runner.proofs.EventSteps.{no_text}
use Rattle.runner.proofs.events.has_text.Goals as goal

pub returns-in_default : goal.returns-in_default
returns-in_default c = λ none. no_text c.args.event c.in_default.not-Report c.in_default.not-Path
