-- `steps::view_step` meets its contract: refused where the network cannot be made, else the row is stored and the network made with the first view. Assumes nothing.
use mathlib.Core.Path.{◌≡◌, sym, ◌∙◌, ap}
use mathlib.Core.Bool.{Bool, true, false, cond}
use Prim.Native.Nat.{ℕ}
use mathlib.Core.List.{List}
use Rattle.bench.specs.State.{state}
use Rattle.messages.specs.Slices.{flight}
use Rattle.runner.specs.Buffers.{Buffers, buffers_of}
use Rattle.runner.specs.Steps.{with_view, with_row, fresh_with_view, may_view, field_step, setup_step}
use Rattle.runner.proofs.FieldSteps.{ended-on}
use Rattle.runner.proofs.ViewSteps.{fresh-with-view-reply, view-ends, view-turn}
use Rattle.runner.proofs.steps.view_step.Goals as goal
use Rattle.runner.proofs.steps.view_step.Goals.{Start}

-- what is handed over
abbrev LentOf : Start → Buffers
LentOf s = buffers_of s.args.memory.now s.args.out.now

-- what is replied, by the test
replied :
    (s : Start) (messages : List ℕ) {t : Bool} (q : Bool) →
    t ≡ may_view s.args.r.now.bench →
    t ≡ q →
    let a = s.args in
    (fresh_with_view (state (with_view a.r.now.bench) (with_row a.rest.now a.r.now.bench a.memory.now.costs.now) a.memory.now.limits.sent.now a.memory.now.limits.held.now messages)).reply.number
    ≡ cond q 0 17
replied s messages q same is =
    let a = s.args in
    let p = s.requires.offset_bound in
    fresh-with-view-reply a.rest.now a.r.now.bench a.memory.now.costs.now a.memory.now.limits.sent.now a.memory.now.limits.held.now messages s.requires.view_fits p.2 p.3 p.4
    ∙ ap (λ (x : Bool). cond x 0 17) (sym same ∙ is)

pub returns-then-not-may_view-clause-step : goal.returns-then-not-may_view-clause-step
unfolding field_step
returns-then-not-may_view-clause-step c =
    let a = c.args in
    let s = (goal.at.returns-then-not-may_view-clause-step c).Start in
    ended-on _ _ _ (LentOf s) c.ended.ensures
    ∙ view-ends a.used a.r.now (LentOf s) _ _ (replied s (flight a.memory.now.messages.now) false c.may_view.ensures c.if-not-may_view.true)

pub fresh_with_view-requires : goal.fresh_with_view-requires
fresh_with_view-requires c =
    λ messages. rw c.store_row.ensures (replied (goal.at.fresh_with_view-requires c).Start messages true c.may_view.ensures c.if-not-may_view.false)

pub returns-clause-step : goal.returns-clause-step
unfolding field_step setup_step
returns-clause-step c =
    let s = (goal.at.returns-clause-step c).Start in
    rw (← c.store_row.ensures, c.set_up.ensures.going, c.set_up.ensures.runner, c.fresh_with_view.ensures.costs)
    (view-turn c.args.used c.args.r.now (LentOf s) _ _ (rw c.fresh_with_view.ensures.costs at (c.fresh_with_view.ensures.fresh (flight c.args.memory.now.messages.now))))
