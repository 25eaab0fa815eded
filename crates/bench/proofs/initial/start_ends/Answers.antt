use mathlib.Core.Path.{refl, ◌∙◌}
use Rattle.bench.specs.Private.Changes.{started_ends}
use Rattle.bench.proofs.ChangeSteps.{started-more}
use Rattle.bench.proofs.initial.start_ends.Goals as goal

pub loop-e-init : goal.loop-e-init
unfolding started_ends
loop-e-init c = record { same = (refl, refl); started = refl }

pub loop-e-preserved : goal.loop-e-preserved
loop-e-preserved c =
    let inv = c.loop-e.invariant in
    let now = c.start_end.ensures in
    record {
      same = (now.same_tables.0 ∙ inv.same.0, now.same_tables.1 ∙ inv.same.1);
      started = started-more _ _ _ inv.started now.outcome;
    }
