-- `ready::each_cost_passes` meets its contract. The loop's invariant: the costs below `l` joined are in the range if and only if each is.
-- Assumes nothing.
use mathlib.Core.Path.{◌≡◌}
use lib.ListN.{get_or}
use lib.Dec.{leb}
use Rattle.distances.specs.View.{max_cost}
use Rattle.distances.specs.Call.{all_below}
use Rattle.distances.proofs.ready.each_cost_passes.Given as goal

abbrev pub invariant-loop-cost : goal.invariant-loop-cost
invariant-loop-cost l = leb l.joined max_cost ≡ all_below l.cost-index (λ k. leb (get_or l.costs k 0) max_cost)
