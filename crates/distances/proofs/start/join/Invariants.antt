-- `start::join` meets its contract. The loop's invariant: the links below `l` are joined into the table. Assumes nothing.
use mathlib.Core.Path.{◌≡◌}
use Rattle.distances.specs.Steps.{with_links}
use Rattle.distances.proofs.start.join.Given as goal

abbrev pub invariant-loop-l : goal.invariant-loop-l
invariant-loop-l l = l.table ≡ with_links l.ends l.costs l.l l.initial.table
