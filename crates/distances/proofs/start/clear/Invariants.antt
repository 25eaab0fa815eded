-- `start::clear` meets its contract. The loop's invariant: the pairs at places below `p` are rewritten. Assumes nothing.
use Prim.Native.Nat.{◌/◌, ◌%◌}
use mathlib.Core.Path.{◌≡◌}
use Rattle.distances.specs.Table.{rewritten}
use Rattle.distances.specs.Distance.{unjoined}
use Rattle.distances.proofs.Steps.{pairs_below}
use Rattle.distances.proofs.start.clear.Given as goal

abbrev pub invariant-loop-p : goal.invariant-loop-p
invariant-loop-p l = l.table ≡ rewritten (pairs_below l.bridges l.p) (λ q. unjoined (q / 16) (q % 16)) l.initial.table
