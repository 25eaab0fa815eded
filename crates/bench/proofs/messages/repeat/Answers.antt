-- `messages::repeat` meets its contract. Assumes nothing.
use mathlib.Core.Path.{sym, ap, ◌∙◌}
use Rattle.distances.proofs.Booleans.{both_true}
use Rattle.protocol.specs.Calls.{repeat, answer_at}
use Rattle.bench.specs.State.{state_of}
use Rattle.bench.specs.Ranges.{network_in_range, state_in_range}
use Rattle.bench.specs.Outcomes.{ready_for}
use Rattle.bench.proofs.OutcomeLaws.{range-refused}
use Rattle.bench.proofs.ChainSteps.{ends-told}
use Rattle.bench.proofs.messages.repeat.Goals as goal

pub returns-then-not-delivery_in_range-clause-outcome : goal.returns-then-not-delivery_in_range-clause-outcome
unfolding ready_for
returns-then-not-delivery_in_range-clause-outcome c =
    let a = c.args in
    range-refused (state_of a.net.now a.messages.now) (repeat a.place) (λ n. answer_at n a.place)
    (ap state_in_range (sym (c.shared.ensures a.messages.now)) ∙ sym c.delivery_in_range.ensures ∙ c.if-not-delivery_in_range.true)

pub of-prepared-requires : goal.of-prepared-requires
of-prepared-requires c =
    let s = state_of c.args.net.now c.args.messages.now in
    ends-told _ _ _ _ (both_true (network_in_range s) _ (ap state_in_range (sym (c.shared.ensures c.args.messages.now)) ∙ sym c.delivery_in_range.ensures ∙ c.if-not-delivery_in_range.false)).0

pub repeat_ready-requires-clause-in_range : goal.repeat_ready-requires-clause-in_range
repeat_ready-requires-clause-in_range c = ap state_in_range (sym (c.shared.ensures c.args.messages.now)) ∙ sym c.delivery_in_range.ensures ∙ c.if-not-delivery_in_range.false

pub repeat_ready-requires-clause-prepared : goal.repeat_ready-requires-clause-prepared
repeat_ready-requires-clause-prepared c = record { tables = c.none-prepared.ensures c.args.net.now.bench.now c.args.net.now.costs.now; chained = c.of-prepared.ensures }
