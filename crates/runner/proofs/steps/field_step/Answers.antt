-- `steps::field_step` meets its contract: each setup on all of the buffers, or an event. Assumes nothing.
use Rattle.runner.specs.Steps.{field_step, setup_step}
use Rattle.runner.proofs.steps.field_step.Goals as goal

pub returns-in-Bridges-clause-step : goal.returns-in-Bridges-clause-step
unfolding field_step setup_step
returns-in-Bridges-clause-step c = rw (c.in-Bridges.is, c.set_up.ensures.going, c.set_up.ensures.runner)

pub returns-in-Link-clause-step : goal.returns-in-Link-clause-step
unfolding field_step setup_step
returns-in-Link-clause-step c = rw (c.in-Link.is, c.set_up-in-Link.ensures.going, c.set_up-in-Link.ensures.runner, c.add_link.ensures)

pub returns-in-Event-clause-step : goal.returns-in-Event-clause-step
unfolding field_step
returns-in-Event-clause-step c = rw c.in-Event.is c.event_step.ensures.step
