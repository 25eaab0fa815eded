use Rattle.std.proofs.Common.{arith, ◌≤◌, length}
use Rattle.play.proofs.Moved.{gave_piece, lent_some, Consumes-from}
use Rattle.play.proofs.read_piece.Goals as goal

pub returns-in-Ok-clause-gave : goal.returns-in-Ok-clause-gave
returns-in-Ok-clause-gave g c =
    let within : c.args.from ≤ length c.loop.bytes = omega (arith, c.loop.auto.bytes, c.requires) in
    let lent = lent_some _ _ _ within c.read.auto.buf in (
      Consumes-from _ _ _ _ c.loop.invariant.1 (gave_piece _ _ _ _ _ _ _ within c.in-Ok.ensures.bound.0 c.in-Ok.ensures.bytes.0),
      λ none more. c.in-Ok.ensures.bytes.1 (omega (arith, none)) (omega (arith, more, lent.0, lent.1)),
    )
