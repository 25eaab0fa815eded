use Prim.Native.Nat.{◌*◌}
use native.Mathlib.Omega.{arith}
use mathlib.Core.Path.{◌≡◌, sym, ◌∙◌}
use Rattle.distances.proofs.Tables.{cell-is}
use Rattle.agreement.proofs.ChoiceLaws.{choice-none, choice-next, choice-away, choice-is-verdict}
use Rattle.agreement.proofs.ports.verdict_of.Goals as goal
use Rattle.agreement.proofs.ports.verdict_of.Goals.{then-view-e, else-view-e}

pub loop-e-init : goal.loop-e-init
loop-e-init c = c.first_choice-choice.ensures ∙ choice-none _ _ _ _ _ _ (sym (cell-is _ _ _))

pub loop-e-preserved : goal.loop-e-preserved
loop-e-preserved c =
    let e = c.loop-e.e in
    elim c.if-view-e.branch [
      | then-view-e w ↦ w.choice-is ∙ choice-next _ _ _ _ _ _ e c.loop-e.invariant w.if-view-e.true w.end_of-end.ensures w.choice_with-choice.ensures
      | else-view-e w ↦ w.choice-is ∙ c.loop-e.invariant ∙ choice-away _ _ _ _ _ _ e w.if-view-e.false
    ]

pub returns : goal.returns
returns c =
    let all : c.loop-e.e ≡ 2 * c.args.view.now.graph.links = omega arith in
    c.chosen_verdict.ensures ∙ rw (c.loop-e.invariant, all) (choice-is-verdict _ _ _ _ _ _)
