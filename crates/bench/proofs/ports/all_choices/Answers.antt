use Prim.Native.Nat.{◌*◌, ◌<◌}
use native.Mathlib.Omega.{arith}
use mathlib.Core.Path.{refl, ◌∙◌}
use lib.ListN.{length-set, get_or}
use Rattle.bench.proofs.ChoiceSteps.{far-low, choice-more, choices-more}
use Rattle.bench.proofs.ports.all_choices.Goals as goal

pub loop-e-preserved : goal.loop-e-preserved
loop-e-preserved c =
    let e = c.loop-e.e in
    let b = c.args.net.now.bench.now in
    let p = c.requires.ports_ready in
    let inv = c.loop-e.invariant in
    let listed : e < 2 * b.links = omega arith in
    let here : get_or b.ends e 0 < b.bridges = p.ready.are_bridges e listed in
    record {
      long = length-set c.loop-e.choices _ _ ∙ inv.long;
      chosen =
          choices-more _ _ c.loop-e.choices e _ _ _ (omega (arith, inv.long, here, p.ready.few_bridges)) refl inv.chosen
          (choice-more _ _ _ _ e (c.requires.filled.1 _ here) (omega (arith, p.ready.few_links)) (omega (arith, c.requires.filled.0, p.ready.few_bridges))
          (far-low p e listed) refl (inv.chosen _ here _) (rw c.link_end.ensures at c.choice_with.ensures));
    }
