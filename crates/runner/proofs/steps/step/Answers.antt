-- `steps::step` meets its contract: refused, or the field that was read or the plan's end. Assumes nothing.
use native.Mathlib.Omega.{arith}
use mathlib.Core.Path.{sym, ◌∙◌}
use Prim.Native.Nat.{◌<◌}
use Rattle.plan.specs.Fields.{byte}
use Rattle.runner.specs.Buffers.{Buffers, buffers_of}
use Rattle.runner.proofs.FieldSteps.{step-told, ended-on, field_fits_lem, field-used, step-out, step-end, step-field}
use Rattle.runner.proofs.steps.step.Goals as goal
use Rattle.runner.proofs.steps.step.Goals.{Start}

-- what is handed over
abbrev LentOf : Start → Buffers
LentOf s = buffers_of s.args.memory.now s.args.out.now

pub returns-then-not-may_step-clause-step : goal.returns-then-not-may_step-clause-step
returns-then-not-may_step-clause-step c = step-out _ _ _ (sym c.may_step.ensures ∙ c.if-not-may_step.true)

pub field_step-requires : goal.field_step-requires
field_step-requires c =
    let t = step-told _ _ (sym c.may_step.ensures ∙ c.if-not-may_step.false) in
    let first : byte c.args.rest.now 1 < 256 = omega (arith, c.type_inv.rest 1) in
    let second : byte c.args.rest.now 2 < 256 = omega (arith, c.type_inv.rest 2) in
    let same = sym (rw c.progress_of.ensures at c.read_field.ensures) ∙ rw (c.in-Ok-Some.is, c.in-Ok-Some.field-0-is) in
    record { offset_bound = (t.offset, t.events, field-used _ c.args.r.now same first second, t.long.costs, t.long.sent, t.long.held, t.long.out); field_fits = field_fits_lem _ c.args.r.now same }

pub ended-requires : goal.ended-requires
ended-requires c = (step-told _ _ (sym c.may_step.ensures ∙ c.if-not-may_step.false)).long.out

pub ended-requires-in-Err : goal.ended-requires-in-Err
ended-requires-in-Err c = (step-told _ _ (sym c.may_step.ensures ∙ c.if-not-may_step.false)).long.out

pub returns-in-Ok-Some-clause-step : goal.returns-in-Ok-Some-clause-step
returns-in-Ok-Some-clause-step c =
    c.field_step.ensures.step
    ∙ step-field _ c.args.r.now (LentOf (goal.at.returns-in-Ok-Some-clause-step c).Start) (sym c.may_step.ensures ∙ c.if-not-may_step.false)
    (sym (rw c.progress_of.ensures at c.read_field.ensures) ∙ rw (c.in-Ok-Some.is, c.in-Ok-Some.field-0-is))

pub returns-in-Ok-None-clause-step : goal.returns-in-Ok-None-clause-step
returns-in-Ok-None-clause-step c =
    ended-on _ _ c.args.r.now (LentOf (goal.at.returns-in-Ok-None-clause-step c).Start) c.ended.ensures
    ∙ step-end _ c.args.r.now (LentOf (goal.at.returns-in-Ok-None-clause-step c).Start) (sym c.may_step.ensures ∙ c.if-not-may_step.false)
    (sym (rw c.progress_of.ensures at c.read_field.ensures) ∙ rw (c.in-Ok-None.is, c.in-Ok-None.field-0-is))

pub returns-in-Err-clause-step : goal.returns-in-Err-clause-step
returns-in-Err-clause-step c =
    ended-on _ _ c.args.r.now (LentOf (goal.at.returns-in-Err-clause-step c).Start) c.ended-in-Err.ensures
    ∙ step-end _ c.args.r.now (LentOf (goal.at.returns-in-Err-clause-step c).Start) (sym c.may_step.ensures ∙ c.if-not-may_step.false)
    (sym (rw c.progress_of.ensures at c.read_field.ensures) ∙ rw c.in-Err.is)
