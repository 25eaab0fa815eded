use Rattle.std.proofs.Common.{arith}
use Rattle.play.proofs.Moved.{read_more}
use Rattle.play.proofs.Reading.{kept-first}
use Rattle.play.proofs.read_rest.Goals as goal

pub loop-n-preserved : goal.loop-n-preserved
loop-n-preserved g c =
    let read = c.in_ok-end.ensures.behind in (
      omega (arith, read.0, c.loop-n.invariant.0),
      read.1,
      kept-first _ _ _ _ _ c.loop-n.invariant.0 read.2 c.loop-n.invariant.2,
      read_more _ _ _ _ _ _ _ _ c.loop-n.invariant.0 read.0 read.1 read.2 c.loop-n.invariant.3 c.in_ok-end.ensures.gave.0,
    )
