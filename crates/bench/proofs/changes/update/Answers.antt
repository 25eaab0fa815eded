-- `changes::update` meets its contract: out of range, or `update_ready`. Assumes nothing.
use mathlib.Core.Path.{sym, ap, ◌∙◌}
use mathlib.Core.List.{[]}
use Rattle.protocol.specs.Calls.{change, update}
use Rattle.bench.specs.State.{state_of}
use Rattle.bench.specs.Ranges.{network_in_range}
use Rattle.bench.specs.Outcomes.{ready_for}
use Rattle.bench.proofs.ChainSteps.{ends-told}
use Rattle.bench.proofs.OutcomeLaws.{range-refused}
use Rattle.bench.proofs.changes.update.Goals as goal

pub returns-then-not-network_in_range-clause-outcome :
    goal.returns-then-not-network_in_range-clause-outcome
unfolding ready_for
returns-then-not-network_in_range-clause-outcome c =
    λ messages.
    let a = c.args in
    range-refused (state_of a.net.now messages) (change (update a.bridge a.view)) (λ n. tt)
    (ap network_in_range (sym (c.shared.ensures [])) ∙ sym c.network_in_range.ensures ∙ c.if-not-network_in_range.true)

pub of-prepared-requires : goal.of-prepared-requires
of-prepared-requires c =
    ends-told _ _ _ _ (ap network_in_range (sym (c.shared.ensures [])) ∙ sym c.network_in_range.ensures ∙ c.if-not-network_in_range.false)

pub update_ready-requires-clause-in_range : goal.update_ready-requires-clause-in_range
update_ready-requires-clause-in_range c = ap network_in_range (sym (c.shared.ensures [])) ∙ sym c.network_in_range.ensures ∙ c.if-not-network_in_range.false

pub update_ready-requires-clause-prepared : goal.update_ready-requires-clause-prepared
update_ready-requires-clause-prepared c = record { tables = c.none-prepared.ensures c.args.net.now.bench.now c.args.net.now.costs.now; chained = c.of-prepared.ensures }
