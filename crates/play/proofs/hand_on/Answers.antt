use Rattle.std.proofs.Common.{arith}
use Rattle.play.proofs.Moved.{Appends-kept, wrote_more}
use Rattle.play.proofs.hand_on.Goals as goal
use Rattle.play.proofs.hand_on.Goals.{in-Ok, in-Err+else-ne}

pub loop-preserved : goal.loop-preserved
loop-preserved g c =
    elim c.match-write.branch [
      | in-Ok w ↦ (omega (arith, w.in-Ok.ensures.bound), rw w.done-is (wrote_more _ _ _ _ _ _ c.loop.invariant.1 w.in-Ok.ensures.bytes))
      | in-Err+else-ne w ↦ rw w.done-is (c.loop.invariant.0, Appends-kept _ _ _ _ c.loop.invariant.1 w.in-Err.ensures.bytes)
    ]
