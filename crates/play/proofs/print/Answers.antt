-- The definition of the output takes the same decision.
use Rattle.play.specs.Output.{Handed}
use Rattle.play.proofs.Moved.{of_same}
use Rattle.runner.proofs.RunWhole.{output-carried, output-refused}
use mathlib.Core.Path.{sym, subst}
use native.Mathlib.Omega.{arith}
use Rattle.play.proofs.print.Goals as goal

pub returns-then-plan-gt-LONGEST_PLAN : goal.returns-then-plan-gt-LONGEST_PLAN
returns-then-plan-gt-LONGEST_PLAN g c =
    let same = sym (output-refused c.args.plan.now (omega (arith, c.if-plan-gt-LONGEST_PLAN.true))) in
    record { handed = subst (Handed c.too_long.result) same c.too_long.ensures.handed; wrote = of_same _ _ _ _ _ same c.too_long.ensures.wrote }

pub returns : goal.returns
returns g c =
    let same = sym (output-carried c.args.plan.now (omega (arith, c.if-plan-gt-LONGEST_PLAN.false))) in
    record { handed = subst (Handed c.run_plan.result) same c.run_plan.ensures.handed; wrote = of_same _ _ _ _ _ same c.run_plan.ensures.wrote }
