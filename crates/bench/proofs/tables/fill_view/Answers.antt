-- `tables::fill_view` meets its contract. The block that was lent from inside the tables comes back in its place. Assumes nothing.
use native.Mathlib.Nat.{add-sub_cancel_left}
use mathlib.Core.Path.{ap}
use Rattle.distances.specs.Call.{Outcome}
use Rattle.bench.specs.Private.Steps.{filled_view}
use Rattle.bench.proofs.tables.fill_view.Goals as goal

pub returns : goal.returns
unfolding filled_view
returns c =
    let g = c.graph.ensures in
    rw (ap (λ (o : Outcome). o.table) c.distances.ensures, g.bridges, g.links, g.ends) (simp add-sub_cancel_left)
