-- `messages::lose` meets its contract. Assumes nothing.
use mathlib.Core.Path.{sym, ◌∙◌}
use Rattle.protocol.specs.Calls.{lose}
use Rattle.bench.specs.State.{state}
use Rattle.bench.specs.Outcomes.{ready_for}
use Rattle.bench.proofs.OutcomeLaws.{range-refused}
use Rattle.bench.proofs.messages.lose.Goals as goal

pub returns-then-not-flight_in_range : goal.returns-then-not-flight_in_range
unfolding ready_for
returns-then-not-flight_in_range c =
    λ costs sent held.
    let a = c.args in
    range-refused (state a.bench.now costs sent held a.messages.now) (lose a.place) (λ n. tt) (sym c.flight_in_range.ensures ∙ c.if-not-flight_in_range.true)
