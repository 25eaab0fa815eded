use mathlib.Core.Path.{◌≡◌, refl, ◌∙◌}
use native.Mathlib.Nat.{le_antisymm}
use lib.ListN.{length}
use Rattle.bench.specs.State.{state_of}
use Rattle.bench.proofs.BatchLoop.{begins, goes_on, stops, ended, behind-all, none-behind}
use Rattle.bench.proofs.ChainSteps.{ends-told}
use Rattle.bench.proofs.EventSteps.{network-ok}
use Rattle.bench.proofs.batches.run_ready.Goals as goal

pub of-prepared-requires : goal.of-prepared-requires
of-prepared-requires c = ends-told _ _ _ _ (network-ok (state_of c.args.net.now c.args.flight.now) c.requires)

pub loop-made-init : goal.loop-made-init
loop-made-init c = record { underway = begins _ _ _; in_range = c.requires; prepared = record { tables = c.none-prepared.ensures c.args.net.now.bench.now c.args.net.now.costs.now; chained = c.of-prepared.ensures }; references = (refl, refl, (refl, refl)) }

pub returns-in-Err-clause-outcome : goal.returns-in-Err-clause-outcome
returns-in-Err-clause-outcome c =
    let l = c.loop-made in
    rw (none-behind l.answers _ l.answered)
    (stops _ c.args.events.now c.args.answers.now (state_of l.net l.flight) l.made l.answered l.answers l.invariant.underway _ _ refl c.loop-made-test.true _ _
    (behind-all l.answers l.answered) c.carry_out.auto.answers c.in-Err.ensures.batch refl)

pub loop-made-preserved : goal.loop-made-preserved
loop-made-preserved c =
    let l = c.loop-made in
    let done = c.in-Ok.ensures in
    let same = done.same_references in
    let before = l.invariant.references in
    record {
      underway =
          rw (none-behind l.answers _ l.answered)
          (goes_on _ c.args.events.now c.args.answers.now (state_of l.net l.flight) l.made l.answered l.answers l.invariant.underway _ _ refl c.loop-made-test.true _ _
          (behind-all l.answers l.answered) c.carry_out.auto.answers done.batch refl);
      in_range = done.batch.ready;
      prepared = done.prepared;
      references = (same.0 ∙ before.0, same.1 ∙ before.1, (same.2.0 ∙ before.2.0, same.2.1 ∙ before.2.1));
    }

pub returns-clause-outcome : goal.returns-clause-outcome
returns-clause-outcome c =
    let l = c.loop-made in
    let whole : l.made ≡ length c.args.events.now = le_antisymm l.auto.made-end c.loop-made-test.false in
    ended _ c.args.events.now c.args.answers.now (state_of l.net l.flight) l.answered l.answers (rw whole at l.invariant.underway)
