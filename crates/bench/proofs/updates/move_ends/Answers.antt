use Prim.Native.Nat.{ℕ, ◌*◌, ◌<◌}
use native.Mathlib.Omega.{arith}
use mathlib.Core.Path.{refl, ◌∙◌, ap}
use mathlib.Core.List.{[]}
use lib.ListN.{length}
use Rattle.agreement.specs.Call.{Outcome, view_data}
use Rattle.agreement.proofs.BetweenLaws.{end-listed}
use Rattle.bench.specs.State.{State, state_of}
use Rattle.bench.proofs.ChainLaws.{next-own}
use Rattle.bench.proofs.ChainSteps.{ends-first, ends-next, update-lengths}
use Rattle.bench.proofs.updates.move_ends.Goals as goal

pub loop-e-init : goal.loop-e-init
loop-e-init c =
    let x = c.requires.chained.2.first c.args.bridge c.requires.chained.1 in
    record {
      same = (refl, refl, (refl, refl));
      most = x.most;
      own = x.its;
      sent = refl;
      held = refl;
      moved = ends-first (state_of c.args.net.now []) c.args.costs.now c.args.table.now c.args.bridge c.args.view x;
    }

pub bounds-costs-e : goal.bounds-costs-e
bounds-costs-e c =
    let b = c.args.net.now.bench.now in
    let low : c.loop-e.e < 2 * b.links = rw (ap (λ (q : State). q.bench.links) c.loop-e.invariant.moved) at c.loop-e-test.true in
    (end-listed (view_data b.bridges b.links b.ends c.args.costs.now c.args.table.now) c.loop-e.e c.args.net.now.limits.now.sent.now c.args.net.now.limits.now.held.now
    (c.requires.ends c.loop-e.e low) c.opposite_end.result c.opposite_end.ensures).link

pub loop-e-preserved : goal.loop-e-preserved
loop-e-preserved c =
    let b = c.args.net.now.bench.now in
    let inv = c.loop-e.invariant in
    let e = c.loop-e.e in
    let low : e < 2 * b.links = rw (ap (λ (q : State). q.bench.links) inv.moved) at c.loop-e-test.true in
    let own = inv.own low in
    let x = next-own c.requires.chained.2 low own in
    let kept = update-lengths _ _ _ _ _ _ _ in
    let taken = c.update_between.ensures.outcome in
    let ready = rw (← inv.sent, ← inv.held) at (c.requires.ends e low) in
    let tables = c.update_between.ensures.same_tables in
    record {
      same = (inv.same.0, inv.same.1, (tables.0 ∙ inv.same.2.0, tables.1 ∙ inv.same.2.1));
      most = x.most;
      own = x.its;
      sent = ap (λ (o : Outcome ℕ). length o.sent) taken ∙ kept.0 ∙ inv.sent;
      held = ap (λ (o : Outcome ℕ). length o.held) taken ∙ kept.1 ∙ inv.held;
      moved =
          ends-next (state_of c.args.net.now []) c.args.costs.now c.args.table.now c.args.bridge c.args.view _ inv.moved c.typed.ensures.records
          (omega (arith, low, c.requires.chained.0)) ready own c.opposite_end.ensures taken x;
    }
