use Prim.Native.Nat.{◌*◌, ◌<◌}
use native.Mathlib.Omega.{arith}
use mathlib.Core.Path.{◌≡◌, refl, ◌∙◌}
use Rattle.bench.proofs.ChainLaws.{next-own}
use Rattle.bench.proofs.ChainSteps.{choice-until, choice-next}
use Rattle.bench.proofs.ChoiceSteps.{far-low, choice-first, choice-more, choice-low, choice-verdict}
use Rattle.bench.proofs.ports.verdict_at.Goals as goal

pub loop-e-init : goal.loop-e-init
loop-e-init c =
    let p = c.requires in
    let few = p.ports_ready.ready.few_bridges in
    let low : c.args.bridge < 16 = omega (arith, few, p.listed.0) in
    let first = p.prepared.chained.first c.args.bridge low in
    record {
      most = first.most;
      own = first.its;
      chosen = c.first_choice-choice.ensures ∙ choice-first _ _ _ _ _ p.filled low (omega (arith, few, p.listed.1)) refl ∙ choice-until _ _ _ first;
    }

pub loop-e-preserved : goal.loop-e-preserved
loop-e-preserved c =
    let p = c.requires in
    let ready = p.ports_ready.ready in
    let e = c.loop-e.e in
    let here = c.loop-e-test.true in
    let inv = c.loop-e.invariant in
    let next = next-own p.prepared.chained here (inv.own here) in
    record {
      most = next.most;
      own = next.its;
      chosen =
          choice-next _ _ _
          (choice-more _ _ _ _ e p.filled (omega (arith, here, ready.few_links)) (omega (arith, ready.few_bridges, p.listed.1))
          (far-low p.ports_ready e here) (inv.own here) inv.chosen (rw c.link_end.ensures at c.choice_with-choice.ensures))
          next;
    }

pub found_verdict-requires : goal.found_verdict-requires
found_verdict-requires c = rw c.loop-e.invariant.chosen (choice-low _ _ _ _ (omega (arith, c.loop-e.invariant.most, c.requires.ports_ready.ready.few_links)))

pub returns : goal.returns
returns c =
    let p = c.requires in
    let b = c.args.net.now.bench.now in
    let e : c.loop-e.e ≡ 2 * b.links = omega (arith, c.loop-e.invariant.most) in
    c.found_verdict.ensures ∙ rw (c.loop-e.invariant.chosen, e) (choice-verdict _ p.ports_ready.in_range _ _ p.listed.0 p.listed.1)
