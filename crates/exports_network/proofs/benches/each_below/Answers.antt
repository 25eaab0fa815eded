-- `benches::each_below` meets its contract: one number more.
use native.Mathlib.Numerals.{add-one}
use mathlib.Core.Path.{refl}
use Rattle.distances.specs.Call.{all_below}
use Rattle.exports_network.proofs.benches.each_below.Goals as goal

pub loop-k-init : goal.loop-k-init
unfolding all_below
loop-k-init c = refl

pub loop-k-preserved : goal.loop-k-preserved
unfolding all_below
loop-k-preserved c = rw add-one cc
