use native.Mathlib.Omega.{arith}
use mathlib.Core.Path.{◌∙◌, ◌≡◌}
use Rattle.distances.specs.Table.{is_pair, with_pairs}
use Rattle.distances.proofs.Steps.{rows_none, rows_more}
use Rattle.distances.proofs.relax.pass.Goals as goal

pub loop-i-init : goal.loop-i-init
loop-i-init c = rows_none _ _ _

pub loop-i-preserved : goal.loop-i-preserved
loop-i-preserved c =
    c.relax_row.ensures ∙ rows_more _ _ _ (omega arith) (omega arith) (omega arith) _ _ c.loop-i.invariant (omega arith)

pub returns : goal.returns
unfolding is_pair with_pairs
returns c = let e : c.loop-i.i ≡ c.args.n = omega arith in rw e at c.loop-i.invariant
