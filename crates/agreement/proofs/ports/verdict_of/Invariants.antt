-- The loop: the choice is that of the ends below `e`. Assumes nothing.
use mathlib.Core.Path.{◌≡◌}
use Rattle.distances.specs.View.{costs_of}
use Rattle.distances.specs.Table.{cell}
use Rattle.agreement.specs.Call.{lent, lent_graph, known}
use Rattle.agreement.specs.Choice.{choice_below}
use Rattle.agreement.proofs.ports.verdict_of.Given as goal

abbrev pub invariant-loop-e : goal.invariant-loop-e
invariant-loop-e l =
    l.choice
    ≡ choice_below (lent_graph (lent l.view)) (costs_of l.view.costs.now) (cell l.view.table.now)
    (known l.records) l.bridge l.dest l.e
