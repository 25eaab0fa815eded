-- `relax::passes` meets its contract. The loop's invariant: each pair holds what is least by way of the bridges below `k`.
-- Assumes nothing.
use mathlib.Core.Path.{◌≡◌}
use Rattle.distances.specs.Table.{cell, with_pairs}
use Rattle.distances.specs.Distance.{relaxed_below}
use Rattle.distances.proofs.relax.passes.Given as goal

abbrev pub invariant-loop-k : goal.invariant-loop-k
invariant-loop-k l = l.table ≡ with_pairs l.n (relaxed_below (cell l.initial.table) l.k) l.initial.table
