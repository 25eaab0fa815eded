-- The numbers at places below `k` are rewritten.
use mathlib.Core.Path.{◌≡◌}
use lib.Dec.{ltb}
use Rattle.exports_network.specs.Network.{number_at}
use Rattle.distances.specs.Table.{rewritten}
use Rattle.exports_network.proofs.benches.store.Given as goal

abbrev pub invariant-loop-k : goal.invariant-loop-k
invariant-loop-k l = l.numbers ≡ rewritten (λ q. ltb q l.k) (number_at l.bench) l.initial.numbers
