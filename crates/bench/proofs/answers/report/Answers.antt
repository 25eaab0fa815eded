-- `answers::report` meets its contract: out of range, or `report_ready`. Assumes nothing.
use Prim.Native.Nat.{◌<◌}
use borrow.Author.Rules.{rules}
use native.Mathlib.Omega.{arith}
use mathlib.Core.Bool.{true, false, ◌&&◌}
use mathlib.Core.Path.{◌≡◌, sym, ◌∙◌}
use mathlib.Core.Logic.{⊎_elim}
use borrow.Author.Tests.{lt-leb}
use Rattle.distances.proofs.Booleans.{not-both}
use lib.ListN.{length}
use lib.Dec.{leb}
use Rattle.bench.specs.State.{State, lent_state}
use Rattle.bench.specs.Ranges.{network_in_range}
use Rattle.bench.specs.Outcomes.{report_outcome}
use Rattle.bench.specs.Private.Steps.{report_into}
use Rattle.agreement.specs.Call.{response}
use Rattle.protocol.specs.Calls.{refuse, checks, no_such_bridge}
use mathlib.Core.List.{[]}
use Rattle.bench.proofs.QueueRanges.{network-told}
use Rattle.bench.proofs.ReportRows.{report-out, report-turned, report-whole}
use Rattle.bench.proofs.answers.report.Goals as goal

pub returns-then-not-network_in_range : goal.returns-then-not-network_in_range
returns-then-not-network_in_range c =
    λ messages.
    let a = c.args in
    let s : State = lent_state a.net.now messages in
    let range : c.network_in_range.result ≡ false → (network_in_range s && leb 32 (length a.rows.now)) ≡ false =
    λ out. rw (sym c.network_in_range.ensures ∙ out) in
    let room : (c.network_in_range.result ≡ true) × (length a.rows.now < 32) → (network_in_range s && leb 32 (length a.rows.now)) ≡ false =
    λ short. not-both (network_in_range s) _ (lt-leb 32 _ short.1) in
    report-out s a.dest a.rows.now (⊎_elim range room c.then-not-network_in_range.either)

pub returns-in_err-report : goal.returns-in_err-report
unfolding refuse checks no_such_bridge
returns-in_err-report c =
    λ messages.
    let a = c.args in
    let s : State = lent_state a.net.now messages in
    let ready : network_in_range (lent_state a.net.now []) ≡ true = sym c.network_in_range.ensures ∙ c.if-not-network_in_range.false in
    let told = report-turned s a.dest a.rows.now ready c.in_err-report.field-0.0 c.in_err-report.ensures in
    let turned : report_outcome (response c.from_residual.result) a.rows.now ≡ report_into s a.dest a.rows.now = search rules in
    turned ∙ report-whole s a.dest a.rows.now ready c.if-rows-lt-REPORT.false

pub report_ready-requires-clause-tables : goal.report_ready-requires-clause-tables
report_ready-requires-clause-tables c =
    let net = c.args.net.now in
    let ready = network-told net.bench.now net.costs.now _ _ (sym c.network_in_range.ensures ∙ c.if-not-network_in_range.false) in
    (omega (arith, ready.few_bridges), c.none-distances.ensures net.bench.now net.costs.now)

pub returns : goal.returns
returns c =
    λ messages.
    let a = c.args in
    c.report_ready.ensures.outcome messages
    ∙ report-whole (lent_state a.net.now messages) a.dest a.rows.now (sym c.network_in_range.ensures ∙ c.if-not-network_in_range.false) c.if-rows-lt-REPORT.false
