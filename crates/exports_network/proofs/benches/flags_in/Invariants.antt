-- The loop: the flags before place `e` are read. Assumes nothing.
use Prim.Native.Nat.{◌+◌}
use lib.ListN.{get_or}
use Rattle.encoding.specs.Numbers.{is_set}
use Rattle.encoding.proofs.Lists.{Filled}
use Rattle.exports_network.proofs.benches.flags_in.Given as goal

abbrev pub invariant-loop-e : goal.invariant-loop-e
invariant-loop-e l = Filled (λ k. is_set (get_or l.numbers (356 + k) 0)) l.e 64 l.flags
