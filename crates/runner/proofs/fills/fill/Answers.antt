-- `fills::fill` meets its contract: a list of events, or a step. Assumes nothing.
use Rattle.runner.proofs.ListResults.{fill_one, fields-one}
use Rattle.runner.specs.Buffers.{Buffers, buffers_of}
use mathlib.Core.Path.{sym, ◌∙◌}
use native.Mathlib.Omega.{arith}
use Rattle.runner.proofs.fills.fill.Goals as goal
use Rattle.runner.proofs.fills.fill.Goals.{Start}

abbrev LentOf : Start → Buffers
LentOf s = buffers_of s.args.memory.now s.args.out.now

pub returns-clause-fill : goal.returns-clause-fill
returns-clause-fill c =
    let k = LentOf (goal.at.returns-clause-fill c).Start in
    c.step.ensures.step
    ∙ sym (fill_one c.args.r.now k c.args.rest.now (omega (arith, fields-one c.args.r.now k c.args.rest.now (sym c.may_list.ensures ∙ c.if-may_list.false))))
