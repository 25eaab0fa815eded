-- `benches::bytes_in` meets its contract: one number more.
use native.Mathlib.Omega.{arith}
use mathlib.Core.Path.{refl}
use lib.ListN.{length-replicate}
use Rattle.encoding.proofs.Lists.{filled-none, filled-more, filled-all}
use Rattle.exports_network.proofs.benches.bytes_in.Goals as goal

pub loop-k-init : goal.loop-k-init
loop-k-init g c = filled-none _ _ _ (length-replicate g.row.N 0)

pub loop-k-preserved : goal.loop-k-preserved
loop-k-preserved g c = filled-more _ _ _ _ _ c.loop-k-test.true c.loop-k.invariant refl

pub returns : goal.returns
returns g c = filled-all _ _ _ _ (omega arith) c.loop-k.invariant
