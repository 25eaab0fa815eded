-- `batches::make` meets its contract: each event is its call. Assumes nothing.
use Prim.Native.Nat.{◌≤◌}
use mathlib.Core.Path.{refl, sym, ap, ◌∙◌}
use mathlib.Core.List.{[]}
use lib.ListN.{length}
use Rattle.agreement.specs.Record.{answer_numbers}
use Rattle.protocol.specs.Calls as calls
use Rattle.protocol.specs.Paths as paths
use Rattle.bench.specs.State.{State, state_of}
use Rattle.bench.specs.Ranges.{network_in_range}
use Rattle.bench.specs.Outcomes.{Outcome, outcome_of, path_numbers}
use Rattle.bench.specs.Batches.{call_of, answer_size, answers_of}
use Rattle.bench.specs.Private.Steps.{report_into}
use Rattle.bench.specs.declared.Event.TheVariants.{Update, Send, Deliver, Repeat, Lose, Cut, Restore, Path}
use Rattle.bench.proofs.EventSteps.{number-of, prepared-kept, network-ok, bench-ok, flight-ok, state-left, path-left, quiet-makes, answer-makes, report-makes}
use Rattle.bench.proofs.batches.make.Goals as goal

pub send_ready-requires : goal.send_ready-requires
send_ready-requires c = flight-ok (state_of c.args.net.now c.args.flight.now) c.requires.in_range

pub lose_ready-requires : goal.lose_ready-requires
lose_ready-requires c = flight-ok (state_of c.args.net.now c.args.flight.now) c.requires.in_range

pub switch_ready-requires : goal.switch_ready-requires
switch_ready-requires c = bench-ok (state_of c.args.net.now c.args.flight.now) c.requires.in_range

pub switch_ready-requires-in-Restore : goal.switch_ready-requires-in-Restore
switch_ready-requires-in-Restore c = bench-ok (state_of c.args.net.now c.args.flight.now) c.requires.in_range

pub answer_delivery-requires : goal.answer_delivery-requires
unfolding answer_size
answer_delivery-requires c = rw c.in-Deliver.is at c.requires.room

pub answer_delivery-requires-in-Repeat : goal.answer_delivery-requires-in-Repeat
unfolding answer_size
answer_delivery-requires-in-Repeat c = rw c.in-Repeat.is at c.requires.room

pub report_ready-requires-clause-in_range : goal.report_ready-requires-clause-in_range
report_ready-requires-clause-in_range c = ap (λ (z : State). network_in_range z) (c.shared.ensures []) ∙ network-ok (state_of c.args.net.now c.args.flight.now) c.requires.in_range

pub report_ready-requires-clause-tables : goal.report_ready-requires-clause-tables
unfolding answer_size
report_ready-requires-clause-tables c =
    rw (ap (λ (z : State). z.bench) (c.shared.ensures []), ap (λ (z : State). z.costs) (c.shared.ensures []))
    (rw c.in-Report.is at c.requires.room, c.requires.prepared.tables)

pub path_ready-requires-clause-in_range : goal.path_ready-requires-clause-in_range
path_ready-requires-clause-in_range c = ap (λ (z : State). network_in_range z) (c.shared-in-Path.ensures []) ∙ network-ok (state_of c.args.net.now c.args.flight.now) c.requires.in_range

pub path_ready-requires-clause-prepared : goal.path_ready-requires-clause-prepared
path_ready-requires-clause-prepared c =
    rw (ap (λ (z : State). z.bench) (c.shared-in-Path.ensures []), ap (λ (z : State). z.costs) (c.shared-in-Path.ensures [])) c.requires.prepared

pub answer_path-requires : goal.answer_path-requires
unfolding answer_size
answer_path-requires c = (rw c.in-Path.is at c.requires.room, c.path_ready.ensures.fits)

pub returns-in-Update-clause-makes : goal.returns-in-Update-clause-makes
unfolding answers_of
returns-in-Update-clause-makes c =
    rw c.in-Update.is (quiet-makes (state_of c.args.net.now c.args.flight.now) c.requires.in_range (Update _ _) _ _ _ refl (c.update_ready.ensures.outcome c.args.flight.now))

pub returns-in-Send-clause-makes : goal.returns-in-Send-clause-makes
unfolding answers_of
returns-in-Send-clause-makes c =
    let n = c.args.net.now in
    rw c.in-Send.is (quiet-makes (state_of n c.args.flight.now) c.requires.in_range (Send _ _) _ _ _ refl (c.send_ready.ensures n.costs.now n.limits.now.sent.now n.limits.now.held.now))

pub returns-in-Send-clause-prepared : goal.returns-in-Send-clause-prepared
returns-in-Send-clause-prepared c =
    let n = c.args.net.now in
    let s = state_of n c.args.flight.now in
    let left = state-left s c.requires.in_range (Send c.in-Send.bridge c.in-Send.link) (λ n. tt) (c.send_ready.ensures n.costs.now n.limits.now.sent.now n.limits.now.held.now) in
    rw (ap (λ (z : State). z.bench) left) (prepared-kept s (call_of (Send c.in-Send.bridge c.in-Send.link)) refl c.requires.prepared)

pub returns-in-Deliver-clause-makes : goal.returns-in-Deliver-clause-makes
unfolding answers_of
returns-in-Deliver-clause-makes c =
    let s = state_of c.args.net.now c.args.flight.now in
    let room : answer_size s.bench.bridges (Deliver c.in-Deliver.place) ≤ length c.args.answers.now = rw c.in-Deliver.is at c.requires.room in
    let told = c.deliver_ready.ensures.outcome in
    rw c.in-Deliver.is
    (answer-makes s c.requires.in_range (Deliver c.in-Deliver.place) c.args.answers.now (λ n. calls.answer_at n c.in-Deliver.place) answer_numbers refl room (ap (λ (o : Outcome _). o.reply) told)
    (state-left s c.requires.in_range (Deliver c.in-Deliver.place) (λ n. calls.answer_at n c.in-Deliver.place) told) (c.answer_delivery.ensures.0 ∙ sym (number-of c.deliver_ready.result)) c.answer_delivery.ensures.1)

pub returns-in-Repeat-clause-makes : goal.returns-in-Repeat-clause-makes
unfolding answers_of
returns-in-Repeat-clause-makes c =
    let s = state_of c.args.net.now c.args.flight.now in
    let room : answer_size s.bench.bridges (Repeat c.in-Repeat.place) ≤ length c.args.answers.now = rw c.in-Repeat.is at c.requires.room in
    let told = c.repeat_ready.ensures.outcome in
    rw c.in-Repeat.is
    (answer-makes s c.requires.in_range (Repeat c.in-Repeat.place) c.args.answers.now (λ n. calls.answer_at n c.in-Repeat.place) answer_numbers refl room (ap (λ (o : Outcome _). o.reply) told)
    (state-left s c.requires.in_range (Repeat c.in-Repeat.place) (λ n. calls.answer_at n c.in-Repeat.place) told) (c.answer_delivery-in-Repeat.ensures.0 ∙ sym (number-of c.repeat_ready.result)) c.answer_delivery-in-Repeat.ensures.1)

pub returns-in-Lose-clause-makes : goal.returns-in-Lose-clause-makes
unfolding answers_of
returns-in-Lose-clause-makes c =
    let n = c.args.net.now in
    rw c.in-Lose.is (quiet-makes (state_of n c.args.flight.now) c.requires.in_range (Lose _) _ _ _ refl (c.lose_ready.ensures n.costs.now n.limits.now.sent.now n.limits.now.held.now))

pub returns-in-Lose-clause-prepared : goal.returns-in-Lose-clause-prepared
returns-in-Lose-clause-prepared c =
    let n = c.args.net.now in
    let s = state_of n c.args.flight.now in
    let left = state-left s c.requires.in_range (Lose c.in-Lose.place) (λ n. tt) (c.lose_ready.ensures n.costs.now n.limits.now.sent.now n.limits.now.held.now) in
    rw (ap (λ (z : State). z.bench) left) (prepared-kept s (call_of (Lose c.in-Lose.place)) refl c.requires.prepared)

pub returns-in-Cut-clause-makes : goal.returns-in-Cut-clause-makes
unfolding answers_of
returns-in-Cut-clause-makes c =
    let n = c.args.net.now in
    rw c.in-Cut.is (quiet-makes (state_of n c.args.flight.now) c.requires.in_range (Cut _ _) _ _ _ refl (c.switch_ready.ensures n.costs.now n.limits.now.sent.now n.limits.now.held.now c.args.flight.now))

pub returns-in-Cut-clause-prepared : goal.returns-in-Cut-clause-prepared
returns-in-Cut-clause-prepared c =
    let n = c.args.net.now in
    let s = state_of n c.args.flight.now in
    let left = state-left s c.requires.in_range (Cut c.in-Cut.bridge c.in-Cut.link) (λ n. tt) (c.switch_ready.ensures n.costs.now n.limits.now.sent.now n.limits.now.held.now c.args.flight.now) in
    rw (ap (λ (z : State). z.bench) left) (prepared-kept s (call_of (Cut c.in-Cut.bridge c.in-Cut.link)) refl c.requires.prepared)

pub returns-in-Restore-clause-makes : goal.returns-in-Restore-clause-makes
unfolding answers_of
returns-in-Restore-clause-makes c =
    let n = c.args.net.now in
    rw c.in-Restore.is (quiet-makes (state_of n c.args.flight.now) c.requires.in_range (Restore _ _) _ _ _ refl (c.switch_ready-in-Restore.ensures n.costs.now n.limits.now.sent.now n.limits.now.held.now c.args.flight.now))

pub returns-in-Restore-clause-prepared : goal.returns-in-Restore-clause-prepared
returns-in-Restore-clause-prepared c =
    let n = c.args.net.now in
    let s = state_of n c.args.flight.now in
    let left = state-left s c.requires.in_range (Restore c.in-Restore.bridge c.in-Restore.link) (λ n. tt) (c.switch_ready-in-Restore.ensures n.costs.now n.limits.now.sent.now n.limits.now.held.now c.args.flight.now) in
    rw (ap (λ (z : State). z.bench) left) (prepared-kept s (call_of (Restore c.in-Restore.bridge c.in-Restore.link)) refl c.requires.prepared)

pub returns-in-Report-clause-makes : goal.returns-in-Report-clause-makes
returns-in-Report-clause-makes c =
    let m = c.args.flight.now in
    rw c.in-Report.is
    (report-makes (state_of c.args.net.now m) c.requires.in_range c.in-Report.dest c.args.answers.now c.report_ready.result
    (c.report_ready.ensures.outcome m ∙ ap (λ (z : State). report_into z c.in-Report.dest c.args.answers.now) (c.shared.ensures m)))

pub returns-in-Report-clause-prepared : goal.returns-in-Report-clause-prepared
returns-in-Report-clause-prepared c =
    record {
      tables = rw (ap (λ (z : State). z.bench) (c.shared.ensures []), ap (λ (z : State). z.costs) (c.shared.ensures [])) at c.report_ready.ensures.tables;
      chained = c.requires.prepared.chained;
    }

pub returns-in-Path-clause-makes : goal.returns-in-Path-clause-makes
unfolding answers_of
returns-in-Path-clause-makes c =
    let m = c.args.flight.now in
    let s = state_of c.args.net.now m in
    let y = c.in-Path.start in
    let d = c.in-Path.dest in
    let room : answer_size s.bench.bridges (Path y d) ≤ length c.args.answers.now = rw c.in-Path.is at c.requires.room in
    let told = c.path_ready.ensures.reply m ∙ ap (λ (z : State). (outcome_of z (calls.path y d) (λ n. paths.path n y d)).reply) (c.shared-in-Path.ensures m) in
    rw c.in-Path.is
    (answer-makes s c.requires.in_range (Path y d) c.args.answers.now (λ n. paths.path n y d) path_numbers refl room told
    (sym (path-left s c.requires.in_range y d)) (c.answer_path.ensures.0 ∙ sym (number-of c.path_ready.result)) c.answer_path.ensures.1)

pub returns-in-Path-clause-prepared : goal.returns-in-Path-clause-prepared
returns-in-Path-clause-prepared c =
    rw (ap (λ (z : State). z.bench) (c.shared-in-Path.ensures []), ap (λ (z : State). z.costs) (c.shared-in-Path.ensures [])) at c.path_ready.ensures.prepared
