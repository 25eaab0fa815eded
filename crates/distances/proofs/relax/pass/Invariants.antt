-- `relax::pass` meets its contract. The loop's invariant: the rows below `i` are rewritten. Assumes nothing.
use Prim.Native.Nat.{◌/◌, ◌%◌}
use mathlib.Core.Path.{◌≡◌}
use Rattle.distances.specs.Table.{cell, rewritten}
use Rattle.distances.specs.Distance.{relaxed}
use Rattle.distances.proofs.Steps.{rows_below}
use Rattle.distances.proofs.relax.pass.Given as goal

abbrev pub invariant-loop-i : goal.invariant-loop-i
invariant-loop-i l = l.table ≡ rewritten (rows_below l.n l.i) (λ p. relaxed (cell l.initial.table) l.k (p / 16) (p % 16)) l.initial.table
