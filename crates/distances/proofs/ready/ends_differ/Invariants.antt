-- `ready::ends_differ` meets its contract. The loop's invariant: the ends of every link below `l` differ. Assumes nothing.
use Prim.Native.Nat.{◌+◌, ◌*◌}
use mathlib.Core.Path.{◌≡◌}
use mathlib.Core.Bool.{true, not}
use lib.ListN.{get_or}
use lib.Dec.{eqb}
use Rattle.distances.specs.Call.{all_below}
use Rattle.distances.proofs.ready.ends_differ.Given as goal

abbrev pub invariant-loop-l : goal.invariant-loop-l
invariant-loop-l l = true ≡ all_below l.l (λ k. not (eqb (get_or l.ends (2 * k) 0) (get_or l.ends (2 * k + 1) 0)))
