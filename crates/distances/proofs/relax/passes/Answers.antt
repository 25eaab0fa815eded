use native.Mathlib.Omega.{arith}
use mathlib.Core.Path.{◌∙◌}
use Rattle.distances.proofs.Steps.{passes_none, passes-more}
use Rattle.distances.proofs.relax.passes.Goals as goal

pub loop-k-init : goal.loop-k-init
loop-k-init c = passes_none _ _

pub loop-k-preserved : goal.loop-k-preserved
loop-k-preserved c = c.pass.ensures ∙ passes-more _ _ (omega arith) (omega arith) _ _ c.loop-k.invariant (omega arith)
