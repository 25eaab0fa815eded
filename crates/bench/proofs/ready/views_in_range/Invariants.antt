-- `ready::views_in_range` meets its contract. The loop's invariant: `ok` says whether every bridge below `y` is on one of the views. Assumes nothing.
use mathlib.Core.Path.{◌≡◌}
use lib.Dec.{ltb}
use lib.ListN.{get_or}
use Rattle.distances.specs.Call.{all_below}
use Rattle.bench.proofs.ready.views_in_range.Given as goal

abbrev pub invariant-loop-y : goal.invariant-loop-y
invariant-loop-y l = l.ok ≡ all_below l.y (λ k. ltb (get_or l.bench.view k 0) l.bench.views)
