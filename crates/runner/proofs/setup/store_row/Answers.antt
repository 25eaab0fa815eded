-- `setup::store_row` meets its contract. The row that was lent from inside the costs comes back in its place. Assumes nothing.
use native.Mathlib.Nat.{add-sub_cancel_left}
use mathlib.Core.Path.{ap}
use Rattle.plan.specs.Reading.{Stored}
use Rattle.runner.specs.Steps.{with_row}
use Rattle.runner.proofs.setup.store_row.Goals as goal

pub returns : goal.returns
unfolding with_row
returns c = rw (ap (λ (o : Stored). o.row) c.read_costs.ensures, add-sub_cancel_left _ 32)
