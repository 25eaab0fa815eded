-- `Distances::need_all` meets its contract. The loop's invariant: the views of the bridges below `y` are known. Assumes nothing.
use Prim.Native.Nat.{ℕ, ◌<◌}
use mathlib.Core.Path.{◌≡◌}
use mathlib.Core.Bool.{true, false}
use lib.ListN.{get_or}
use Rattle.bench.specs.Private.Steps.{Tables}
use Rattle.bench.proofs.tables.Distances.need_all.Given as goal

abbrev pub invariant-loop-y : goal.invariant-loop-y
invariant-loop-y l =
    record {
      tables : Tables l.bench l.costs l.self;
      known : (k : ℕ) → k < l.y → get_or l.self.known (get_or l.bench.view k 0) false ≡ true;
    }
