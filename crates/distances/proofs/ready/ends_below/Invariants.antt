-- `ready::ends_below` meets its contract. The loop's invariant: `ok` says whether every end below `e` is at a bridge. Assumes nothing.
use mathlib.Core.Path.{◌≡◌}
use lib.ListN.{get_or}
use lib.Dec.{ltb}
use Rattle.distances.specs.Call.{all_below}
use Rattle.distances.proofs.ready.ends_below.Given as goal

abbrev pub invariant-loop-end : goal.invariant-loop-end
invariant-loop-end l = l.ok ≡ all_below l.end-index (λ k. ltb (get_or l.ends k 0) l.bridges)
