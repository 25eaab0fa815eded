-- `changes::fresh` meets its contract. In range, view 0's distances are computed and then each end is started from them. Assumes nothing.
use native.Mathlib.Omega.{arith}
use mathlib.Core.Path.{sym, ◌∙◌, ap}
use mathlib.Core.List.{[]}
use Rattle.distances.proofs.Booleans.{both_true}
use Rattle.distances.specs.Call.{Outcome}
use Rattle.agreement.specs.Call.{says}
use Rattle.bench.specs.State.{state, state_of}
use Rattle.bench.specs.Outcomes.{outcome, plan_ready, fresh_of}
use Rattle.bench.specs.Private.Changes.{LimitTables}
use Rattle.bench.specs.Private.Views.{distance_table}
use Rattle.bench.proofs.ChangeEntry.{plan-lasting}
use Rattle.bench.proofs.EntryChecks.{graph-counted}
use Rattle.bench.proofs.FreshStands.{fresh-left}
use Rattle.bench.proofs.changes.fresh.Goals as goal

pub returns-then-not-plan_in_range-clause-outcome : goal.returns-then-not-plan_in_range-clause-outcome
unfolding fresh_of
returns-then-not-plan_in_range-clause-outcome c =
    λ messages. rw (sym (c.plan_in_range.ensures ∙ ap plan_ready (c.shared.ensures [])) ∙ c.if-not-plan_in_range.true)

pub slice_bounds-costs-end : goal.slice_bounds-costs-end
slice_bounds-costs-end c =
    let ok = sym (c.plan_in_range.ensures ∙ ap plan_ready (c.shared.ensures [])) ∙ c.if-not-plan_in_range.false in
    omega (arith, (plan-lasting _ _ _ _ ok).costs_long)

pub start_ends-requires : goal.start_ends-requires
start_ends-requires c =
    let ok = sym (c.plan_in_range.ensures ∙ ap plan_ready (c.shared.ensures [])) ∙ c.if-not-plan_in_range.false in
    rw c.graph-graph.ensures.links (graph-counted _ (both_true _ _ ok).0).links

pub returns-clause-outcome : goal.returns-clause-outcome
unfolding distance_table
returns-clause-outcome c =
    λ messages.
    let net = c.args.net.now in
    let ok = sym (c.plan_in_range.ensures ∙ ap plan_ready (c.shared.ensures [])) ∙ c.if-not-plan_in_range.false in
    let g = c.graph-graph.ensures in
    let table = rw (g.bridges, g.links, g.ends) at (ap (λ (o : Outcome). o.table) c.distances.ensures) in
    let limits = rw (table, g.bridges, g.links, g.ends) at c.start_ends.ensures.limits in
    ap (λ (x : LimitTables). outcome (says tt) (state c.clear.new.bench net.costs.now x.sent x.held messages)) limits
    ∙ rw c.clear.ensures (fresh-left (state_of net messages) ok)
