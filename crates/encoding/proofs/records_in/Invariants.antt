-- The loop: the records before place `e` are read. Assumes nothing.
use Prim.Native.Nat.{◌*◌}
use Rattle.encoding.specs.Numbers.{record_at}
use Rattle.encoding.proofs.Lists.{Filled}
use Rattle.encoding.proofs.records_in.Given as goal

abbrev pub invariant-loop-e : goal.invariant-loop-e
invariant-loop-e l = Filled (λ k. record_at l.numbers (4 * k)) l.e 64 l.records
