use native.Mathlib.Omega.{arith}
use mathlib.Core.Path.{◌≡◌}
use Rattle.distances.specs.Steps.{with_row}
use Rattle.distances.proofs.Steps.{row-none, row_more}
use Rattle.distances.proofs.relax.relax_row.Goals as goal

pub loop-j-init : goal.loop-j-init
loop-j-init c = row-none _ _ _

pub loop-j-preserved : goal.loop-j-preserved
loop-j-preserved c =
    let h = c.requires in
    row_more _ _ _ _ h.0 h.1 h.2 h.3 _ _ _ c.loop-j.invariant (omega arith) c.shorter.ensures

pub returns : goal.returns
unfolding with_row
returns c = let e : c.loop-j.j ≡ c.args.n = omega arith in rw e at c.loop-j.invariant
