use native.Mathlib.Omega.{arith}
use mathlib.Core.Path.{refl, ◌∙◌}
use lib.ListN.{length-set}
use Rattle.bench.proofs.ChoiceSteps.{choice-first, choices-begun}
use Rattle.bench.proofs.ports.first_choices.Goals as goal

pub loop-y-preserved : goal.loop-y-preserved
loop-y-preserved c =
    let y = c.loop-y.y in
    let inv = c.loop-y.invariant in
    let ready = c.requires.ports_ready.ready in
    record {
      long = length-set c.loop-y.choices _ _ ∙ inv.long;
      begun =
          choices-begun _ c.args.dest c.loop-y.choices y _ (omega (arith, inv.long, ready.few_bridges)) inv.begun
          (c.first_choice.ensures
          ∙ choice-first _ _ y _ _ (c.requires.filled.1 y c.loop-y-test.true) (omega (arith, ready.few_bridges)) (omega (arith, ready.few_bridges, c.requires.filled.0)) refl);
    }
