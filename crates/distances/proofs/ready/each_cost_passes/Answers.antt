use native.Mathlib.Numerals.{add-one}
use native.Mathlib.Omega.{arith}
use lib.Seq.{get_or-take}
use lib.ListN.{length-take}
use Prim.Native.Nat.{ℕ, ◌<◌}
use mathlib.Core.Path.{◌≡◌, refl}
use Rattle.distances.specs.Call.{all_below}
use Rattle.distances.proofs.Ranges.{joined-passes}
use Rattle.distances.proofs.ready.each_cost_passes.Goals as goal

pub loop-cost-init : goal.loop-cost-init
unfolding all_below
loop-cost-init c = refl

pub loop-cost-preserved : goal.loop-cost-preserved
unfolding all_below
loop-cost-preserved c =
    let within : c.loop-cost.cost-index < c.args.links = omega (arith, length-take {A = ℕ}) in
    rw (add-one, joined-passes, get_or-take c.args.links c.args.costs.now c.loop-cost.cost-index 0 within) (cc)

pub returns : goal.returns
returns c =
    let all : c.loop-cost.cost-index ≡ c.args.links = omega (arith, length-take {A = ℕ}) in
    rw all at c.loop-cost.invariant
