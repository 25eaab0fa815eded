-- `steps::event_step` meets its contract: what happened makes the step. Assumes nothing.
use Rattle.runner.proofs.ListOne.{one-refused, one-made}
use Rattle.runner.proofs.FieldSteps.{ended-on, accepted-turn, refused-turn}
use Rattle.runner.specs.Buffers.{Buffers, buffers, buffers_of, state_on}
use Rattle.bench.proofs.Replies.{some_number}
use Rattle.runner.specs.Steps.{field_step}
use Rattle.bench.specs.State.{State}
use lib.Seq.{length-take-le}
use lib.ListN.{length, replicate, length-replicate}
use Prim.Native.Nat.{ℕ, ◌≤◌}
use native.Mathlib.Omega.{arith}
use mathlib.Core.Path.{sym, ◌∙◌}
use Rattle.runner.proofs.steps.event_step.Goals as goal
use Rattle.runner.proofs.steps.event_step.Goals.{Start}

-- what is handed over, and the bench's state in it
abbrev LentOf : Start → Buffers
LentOf s = buffers_of s.args.memory.now s.args.out.now

abbrev StateOf : Start → State
StateOf s = state_on s.args.r.now.bench (LentOf s)

-- room for one answer
room : 32 ≤ length (replicate {A = ℕ} 32 0)
room = omega (arith, length-replicate {A = ℕ} 32 0)

pub returns-in-Some-clause-step : goal.returns-in-Some-clause-step
unfolding field_step
returns-in-Some-clause-step c =
    let a = c.args in
    let s = (goal.at.returns-in-Some-clause-step c).Start in
    let told = one-refused (StateOf s) a.event (replicate 32 0) room _ c.make-batch.ensures.made (sym c.refusal_in.ensures ∙ c.in-Some.is) in
    ended-on _ _ _ (buffers _ _ _ _ a.out.now) c.ended.ensures
    ∙ refused-turn a.event a.used a.r.now (LentOf s) _ told.0 (some_number _) told.1

pub returns-clause-step : goal.returns-clause-step
unfolding field_step
returns-clause-step c =
    let a = c.args in
    let s = (goal.at.returns-clause-step c).Start in
    let m = one-made (StateOf s) a.event (replicate 32 0) room _ c.make-batch.ensures.made (λ k e. c.in_default.not-Some k (c.refusal_in.ensures ∙ e)) in
    rw c.going.ensures (accepted-turn a.event a.used a.r.now (LentOf s) m.none m.state (rw m.head at c.event_text-written.ensures))

pub slice_bounds-answers-end : goal.slice_bounds-answers-end
slice_bounds-answers-end c =
    let m = one-made (StateOf (goal.at.slice_bounds-answers-end c).Start) c.args.event (replicate 32 0) room _ c.make-batch.ensures.made (λ k e. c.in_default.not-Some k (c.refusal_in.ensures ∙ e)) in
    omega (arith, m.few, c.make-batch.auto)

pub slice_bounds-event_text-end : goal.slice_bounds-event_text-end
slice_bounds-event_text-end c =
    let m = one-made (StateOf (goal.at.slice_bounds-event_text-end c).Start) c.args.event (replicate 32 0) room _ c.make-batch.ensures.made (λ k e. c.in_default.not-Some k (c.refusal_in.ensures ∙ e)) in
    sym (length-take-le _ _ (omega (arith, m.few, c.make-batch.auto)))

pub event_text-written-requires : goal.event_text-written-requires
event_text-written-requires c =
    let m = one-made (StateOf (goal.at.event_text-written-requires c).Start) c.args.event (replicate 32 0) room _ c.make-batch.ensures.made (λ k e. c.in_default.not-Some k (c.refusal_in.ensures ∙ e)) in
    (m.bridges, m.size, c.requires.3)
