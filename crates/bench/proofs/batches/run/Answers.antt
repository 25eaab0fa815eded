-- `batches::run` meets its contract: out of range, or the list. Assumes nothing.
use mathlib.Core.Path.{◌≡◌, sym, ap, ◌∙◌}
use mathlib.Core.Bool.{false}
use Rattle.bench.specs.State.{State, state_of}
use Rattle.bench.specs.Ranges.{state_in_range}
use Rattle.bench.proofs.BatchRuns.{batch-in, batch-out}
use Rattle.bench.proofs.batches.run.Goals as goal

pub returns-then-not-delivery_in_range-clause-outcome : goal.returns-then-not-delivery_in_range-clause-outcome
returns-then-not-delivery_in_range-clause-outcome c =
    let m = c.args.messages.now in
    let out : state_in_range (state_of c.args.net.now m) ≡ false =
    ap (λ (z : State). state_in_range z) (sym (c.shared.ensures m)) ∙ sym c.delivery_in_range.ensures ∙ c.if-not-delivery_in_range.true in
    sym (batch-out (state_of c.args.net.now m) c.args.events.now c.args.answers.now out)

pub run_ready-requires : goal.run_ready-requires
run_ready-requires c =
    ap (λ (z : State). state_in_range z) (sym (c.shared.ensures c.args.messages.now)) ∙ sym c.delivery_in_range.ensures ∙ c.if-not-delivery_in_range.false

pub returns-clause-outcome : goal.returns-clause-outcome
returns-clause-outcome c =
    let m = c.args.messages.now in
    let ok = ap (λ (z : State). state_in_range z) (sym (c.shared.ensures m)) ∙ sym c.delivery_in_range.ensures ∙ c.if-not-delivery_in_range.false in
    c.run_ready.ensures.outcome ∙ sym (batch-in (state_of c.args.net.now m) c.args.events.now c.args.answers.now ok)
