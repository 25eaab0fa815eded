-- `deliveries::receive` meets its contract: layer 2 takes the message by the view's table. Assumes nothing.
use Prim.Native.Nat.{ℕ}
use mathlib.Core.Path.{refl, ap, ◌∙◌}
use lib.ListN.{get_or}
use mathlib.Core.List.{[]}
use Rattle.bench.specs.State.{state_of}
use Rattle.bench.specs.Outcomes.{outcome}
use Rattle.bench.specs.Private.Deliveries.{DeliveryOutcome, with_delivered}
use Rattle.bench.proofs.DeliverySteps.{received-between}
use Rattle.bench.proofs.deliveries.receive.Goals as goal

pub returns-clause-outcome : goal.returns-clause-outcome
returns-clause-outcome c =
    let net = c.args.net.now in
    let b = net.bench.now in
    ap (λ (d : DeliveryOutcome). outcome d.reply (with_delivered (state_of net []) d))
    (received-between b net.costs.now net.limits.now.sent.now net.limits.now.held.now c.table.result.now c.args.end _ _ c.args.message c.requires.takes.0
    (c.table.ensures ∙ c.requires.filled) (ap (λ (o : ℕ). get_or b.ends o 0) c.opposite_end.ensures) refl c.requires.takes.1 _ c.typed.ensures.records
    c.deliver_between.ensures.outcome)
