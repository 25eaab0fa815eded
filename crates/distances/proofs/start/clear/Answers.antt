use Prim.Native.Nat.{◌*◌}
use native.Mathlib.Omega.{arith}
use mathlib.Core.Path.{◌∙◌, ◌≡◌}
use Rattle.distances.specs.Table.{with_pairs}
use Rattle.distances.proofs.Steps.{clear_none, clear-more, clear-all}
use Rattle.distances.proofs.start.clear.Goals as goal

pub loop-p-init : goal.loop-p-init
loop-p-init c = clear_none _ _ _

pub loop-p-preserved : goal.loop-p-preserved
loop-p-preserved c = clear-more _ _ _ _ _ _ c.loop-p.invariant (omega arith) c.cleared.ensures

pub returns : goal.returns
unfolding with_pairs
returns c =
    let e : c.loop-p.p ≡ 16 * c.args.bridges = omega arith in
    (rw e at c.loop-p.invariant) ∙ clear-all _ _ _ (omega arith)
