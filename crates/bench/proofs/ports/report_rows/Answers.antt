use native.Mathlib.Omega.{arith}
use mathlib.Core.Path.{refl, ◌∙◌}
use Rattle.bench.specs.State.{lent_state}
use Rattle.bench.specs.Outcomes.{report_numbers}
use Rattle.bench.specs.Private.Steps.{choice_in}
use Rattle.bench.proofs.ReportRows.{row_more}
use Rattle.bench.proofs.ChoiceSteps.{choice-low}
use Rattle.bench.proofs.ports.report_rows.Goals as goal

pub report_row-requires : goal.report_row-requires
report_row-requires c =
    let p = c.requires in (
      omega (arith, p.ports_ready.ready.few_bridges),
      rw (c.all_choices-choices.ensures c.loop-y.y c.loop-y-test.true _) (choice-low _ _ _ _ (omega (arith, p.ports_ready.ready.few_links))),
      omega (arith, c.requires.tables.1),
    )

pub loop-y-init : goal.loop-y-init
unfolding report_numbers
loop-y-init c = λ messages. refl

pub loop-y-preserved : goal.loop-y-preserved
unfolding choice_in
loop-y-preserved c =
    λ messages.
    let a = c.args in
    let p = c.requires in
    let y = c.loop-y.y in
    let low = c.loop-y-test.true in
    c.report_row.ensures
    ∙ rw (c.loop-y.invariant messages)
    (row_more (lent_state a.net.now messages) p.ports_ready.in_range c.typed.ensures a.dest y p.tables.0 low a.rows.now _ p.tables.1 (c.all_choices-choices.ensures y low _))
