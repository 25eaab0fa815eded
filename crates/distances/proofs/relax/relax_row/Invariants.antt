-- `relax::relax_row` meets its contract. The loop's invariant: row `i` is rewritten in the columns below `j`. Assumes nothing.
use Prim.Native.Nat.{◌%◌}
use mathlib.Core.Path.{◌≡◌}
use Rattle.distances.specs.Table.{is_in_row, cell, rewritten}
use Rattle.distances.specs.Distance.{relaxed}
use Rattle.distances.proofs.relax.relax_row.Given as goal

abbrev pub invariant-loop-j : goal.invariant-loop-j
invariant-loop-j l = l.table ≡ rewritten (is_in_row l.j l.i) (λ p. relaxed (cell l.initial.table) l.k l.i (p % 16)) l.initial.table
