-- `ready::costs_in_range` meets its contract. The loop's invariant: `ok` says whether the row of every view below `t` passes. Assumes nothing.
use mathlib.Core.Path.{◌≡◌}
use Rattle.distances.specs.Call.{costs_pass, all_below}
use Rattle.bench.specs.State.{part}
use Rattle.bench.proofs.ready.costs_in_range.Given as goal

abbrev pub invariant-loop-t : goal.invariant-loop-t
invariant-loop-t l = l.ok ≡ all_below l.t (λ k. costs_pass l.bench.links (part 32 k l.costs))
