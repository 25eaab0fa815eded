use native.Mathlib.Numerals.{add-one}
use native.Mathlib.Omega.{arith}
use Prim.Native.Nat.{◌<◌, ◌*◌}
use lib.Seq.{get_or-take}
use lib.ListN.{length-take}
use Prim.Native.Nat.{ℕ}
use mathlib.Core.Path.{refl}
use Rattle.distances.specs.Call.{all_below}
use Rattle.distances.proofs.ready.ends_below.Goals as goal

pub loop-end-init : goal.loop-end-init
unfolding all_below
loop-end-init c = refl

pub loop-end-preserved : goal.loop-end-preserved
unfolding all_below
loop-end-preserved c =
    let within : c.loop-end.end-index < 2 * c.args.links = omega (arith, length-take {A = ℕ}) in
    rw (add-one, get_or-take (2 * c.args.links) c.args.ends.now c.loop-end.end-index 0 within) (cc)
