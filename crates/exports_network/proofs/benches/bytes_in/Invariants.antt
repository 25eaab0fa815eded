-- The loop: the numbers before place `first + k` are read. Assumes nothing.
use Prim.Native.Nat.{◌+◌, ◌%◌}
use lib.ListN.{get_or}
use Rattle.encoding.proofs.Lists.{Filled}
use Rattle.exports_network.proofs.benches.bytes_in.Given as goal

abbrev pub invariant-loop-k : goal.invariant-loop-k
invariant-loop-k g l = Filled (λ k. get_or l.numbers (l.first + k) 0 % 256) l.k g.row.N l.bytes
