-- The loop's invariant: `ok` says whether each number before place `first + k` is below the limit. Assumes nothing.
use mathlib.Core.Path.{◌≡◌}
use Rattle.exports_network.specs.Network.{each_below}
use Rattle.exports_network.proofs.benches.each_below.Given as goal

abbrev pub invariant-loop-k : goal.invariant-loop-k
invariant-loop-k l = l.ok ≡ each_below l.k l.first l.limit l.numbers
