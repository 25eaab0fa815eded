-- The loop: `ok` says whether every record below `e` fits. Assumes nothing.
use Prim.Native.Nat.{◌*◌}
use mathlib.Core.Path.{◌≡◌}
use Rattle.distances.specs.Call.{all_below}
use Rattle.encoding.specs.Numbers.{record_fits}
use Rattle.encoding.proofs.holds_records.Given as goal

abbrev pub invariant-loop-e : goal.invariant-loop-e
invariant-loop-e l = l.ok ≡ all_below l.e (λ k. record_fits l.numbers (4 * k))
