-- `changes::update_ready` meets its contract: turned down by the table, on the view already, or moved. Assumes nothing.
use native.Mathlib.Omega.{arith}
use mathlib.Core.Path.{refl, sym, ap, ◌∙◌}
use mathlib.Core.List.{[]}
use Rattle.std.proofs.lemmas.Result.{err_from_is_err_and}
use Rattle.agreement.specs.Call.{says}
use Rattle.protocol.specs.Calls.{change, update}
use Rattle.bench.specs.State.{State, state, state_of}
use Rattle.bench.specs.Outcomes.{ready_for, outcome}
use Rattle.bench.specs.Private.Views.{network_of}
use Rattle.bench.proofs.CallOutcomes.{moved-outcome}
use Rattle.bench.proofs.ChangeEntry.{update_same, update-told, number-left}
use Rattle.bench.proofs.QueueRanges.{network-told}
use Rattle.bench.proofs.Replies.{refused-outcome}
use Rattle.bench.proofs.UpdateSteps.{changes-nothing, moves-it}
use Rattle.bench.proofs.changes.update_ready.Goals as goal

pub update-requires : goal.update-requires
update-requires c = (network-told _ _ _ _ c.requires.in_range).few_bridges

pub returns-in_err-update-clause-outcome : goal.returns-in_err-update-clause-outcome
unfolding ready_for
returns-in_err-update-clause-outcome c =
    λ messages.
    let s : State = state_of c.args.net.now messages in
    let p = err_from_is_err_and c.from_residual.result c.from_residual.ensures.1 in
    rw (p.1, p.2) (refused-outcome s (change (update c.args.bridge c.args.view)) (λ n. tt) c.requires.in_range _ (c.in_err-update.ensures ∙ update_same s _ _))

pub bounds-net-bridge : goal.bounds-net-bridge
bounds-net-bridge c =
    let ready = network-told _ _ _ _ c.requires.in_range in
    omega (arith, ready.few_bridges, (update-told (network_of c.args.net.now.bench.now []) c.args.bridge c.args.view c.in_ok-update.ensures refl).bridge)

pub need-requires : goal.need-requires
need-requires c =
    let ready = network-told _ _ _ _ c.requires.in_range in (
      omega (arith, ready.few_views, (update-told (network_of c.args.net.now.bench.now []) c.args.bridge c.args.view c.in_ok-update.ensures refl).view),
      ready.costs_long,
      c.requires.prepared.tables,
    )

pub move_bridge-requires-clause-ready : goal.move_bridge-requires-clause-ready
move_bridge-requires-clause-ready c = network-told _ _ _ _ c.requires.in_range

pub move_bridge-requires-clause-listed : goal.move_bridge-requires-clause-listed
move_bridge-requires-clause-listed c =
    let n = network_of c.args.net.now.bench.now [] in
    let u = update-told n c.args.bridge c.args.view c.in_ok-update.ensures refl in
    (u.bridge, u.view, number-left n c.args.bridge c.args.view u (c.typed.ensures.number c.args.bridge u.bridge) c.if-net-bridge.true)

pub returns-then-net-bridge-clause-outcome : goal.returns-then-net-bridge-clause-outcome
returns-then-net-bridge-clause-outcome c =
    λ messages.
    let s : State = state_of c.args.net.now messages in
    let moves = moves-it s c.args.bridge c.args.view 0 c.requires.in_range c.in_ok-update.ensures refl c.if-net-bridge.true in
    ap (λ (z : State). outcome (says {A = Unit {0}} tt) (state z.bench z.costs z.sent z.held messages)) c.move_bridge.ensures.state
    ∙ moved-outcome s c.requires.in_range c.typed.ensures c.args.bridge c.args.view (sym (update_same s _ _) ∙ sym c.in_ok-update.ensures) _ moves

pub returns-else-net-bridge-clause-outcome : goal.returns-else-net-bridge-clause-outcome
returns-else-net-bridge-clause-outcome c =
    λ messages.
    let s : State = state_of c.args.net.now messages in
    moved-outcome s c.requires.in_range c.typed.ensures c.args.bridge c.args.view (sym (update_same s _ _) ∙ sym c.in_ok-update.ensures) _
    (changes-nothing s c.args.bridge c.args.view 0 c.requires.in_range c.in_ok-update.ensures refl c.if-net-bridge.false)
