-- `answers::report_ready` meets its contract: nothing of the table applies, then the rows are written. Assumes nothing.
use mathlib.Core.Path.{sym, ap, ◌∙◌}
use mathlib.Core.List.{[]}
use borrow.Author.Rules.{rules}
use Rattle.agreement.specs.Call.{says}
use Rattle.protocol.specs.Calls.{refuse, checks, no_such_bridge}
use Rattle.bench.specs.State.{lent_state}
use Rattle.bench.specs.Outcomes.{report_outcome}
use Rattle.bench.specs.Private.Views.{network_of}
use Rattle.bench.proofs.ChoiceSteps.{ports-told}
use Rattle.bench.proofs.PathSteps.{bridge-listed}
use Rattle.bench.proofs.ReportRows.{report-turned, report-written}
use Rattle.bench.proofs.answers.report_ready.Goals as goal

pub returns-in_err-report-clause-outcome : goal.returns-in_err-report-clause-outcome
unfolding refuse checks no_such_bridge
returns-in_err-report-clause-outcome c =
    λ messages.
    let a = c.args in
    let told = report-turned (lent_state a.net.now messages) a.dest a.rows.now c.requires.in_range c.in_err-report.field-0.0 c.in_err-report.ensures in
    search rules

pub report_rows-requires-clause-ports_ready : goal.report_rows-requires-clause-ports_ready
report_rows-requires-clause-ports_ready c = ports-told _ c.requires.in_range

pub report_rows-requires-clause-tables : goal.report_rows-requires-clause-tables
unfolding refuse checks
report_rows-requires-clause-tables c =
    let a = c.args in
    (bridge-listed (network_of a.net.now.bench.now []) a.dest _ (sym c.in_ok-report.ensures), c.requires.tables.0, c.requires.tables.1)

pub returns-clause-outcome : goal.returns-clause-outcome
unfolding refuse checks no_such_bridge
returns-clause-outcome c =
    λ messages.
    let a = c.args in
    ap (report_outcome (says tt)) (c.report_rows.ensures.rows messages)
    ∙ report-written (lent_state a.net.now messages) a.dest a.rows.now c.requires.in_range (sym c.in_ok-report.ensures)
