use native.Mathlib.Omega.{arith}
use mathlib.Core.Path.{◌∙◌}
use lib.ListN.{length-set}
use Rattle.agreement.proofs.LimitLaws.{front-none, front-more}
use Rattle.agreement.proofs.rows.rewrite_row.Goals as goal

pub loop-d-init : goal.loop-d-init
loop-d-init c = (c.requires.row_long, front-none _ _ _)

pub loop-d-preserved : goal.loop-d-preserved
loop-d-preserved c =
    let at = c.loop-d in (
      simp length-set at.invariant.0,
      front-more _ _ c.args.row.now _ _ _ at.invariant.1 (omega arith) (c.limit_after.ensures ∙ rw c.offer_at.ensures),
    )
