-- The row that was lent from inside the table comes back in its place (`row_back`). Assumes nothing.
use native.Mathlib.Omega.{arith}
use Rattle.agreement.proofs.LimitLaws.{row_back}
use Rattle.agreement.proofs.rows.rewrite_limits.Goals as goal

pub returns : goal.returns
returns c = row_back c.args.across.now.bridges c.args.end _ _ c.args.limits.now c.requires.sides_ready.few_bridges (omega arith) _ c.rewrite_row.ensures
