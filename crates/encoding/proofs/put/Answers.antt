use mathlib.Core.Path.{refl, sym, ◌∙◌}
use lib.Seq.{set_out}
use Rattle.encoding.proofs.Lists.{sets_more}
use Rattle.encoding.proofs.put.Goals as goal
use Rattle.encoding.proofs.put.Goals.{then-k-out, else-k-out}

pub loop-k-preserved : goal.loop-k-preserved
loop-k-preserved c =
    let a = c.args in
    let at = c.loop-k in
    elim c.if-k-out.branch [
      | then-k-out w ↦ w.out-is ∙ sets_more a.out.now at.out a.numbers.now at.k _ _ c.loop-k-test.true at.invariant refl
      | else-k-out w ↦ w.out-is ∙ sym (set_out at.out at.k _ w.if-k-out.false) ∙ sets_more a.out.now at.out a.numbers.now at.k _ 0 c.loop-k-test.true at.invariant refl
    ]
