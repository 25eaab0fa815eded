-- `answers::path` meets its contract: out of range, or `path_ready`. Assumes nothing.
use mathlib.Core.Path.{sym, ◌∙◌}
use Rattle.protocol.specs.Calls.{path}
use Rattle.protocol.specs.Paths as paths
use Rattle.bench.specs.State.{lent_state}
use Rattle.bench.specs.Outcomes.{ready_for}
use Rattle.bench.proofs.ChainSteps.{ends-told}
use Rattle.bench.proofs.OutcomeLaws.{reply-out}
use Rattle.bench.proofs.answers.path.Goals as goal

pub returns-then-not-network_in_range : goal.returns-then-not-network_in_range
unfolding ready_for
returns-then-not-network_in_range c =
    λ messages.
    let a = c.args in
    reply-out (lent_state a.net.now messages) (path a.start a.dest) (λ n. paths.path n a.start a.dest)
    (sym c.network_in_range.ensures ∙ c.if-not-network_in_range.true)

pub of-prepared-requires : goal.of-prepared-requires
of-prepared-requires c = ends-told _ _ _ _ (sym c.network_in_range.ensures ∙ c.if-not-network_in_range.false)

pub path_ready-requires-clause-prepared : goal.path_ready-requires-clause-prepared
path_ready-requires-clause-prepared c = record { tables = c.none-prepared.ensures c.args.net.now.bench.now c.args.net.now.costs.now; chained = c.of-prepared.ensures }
