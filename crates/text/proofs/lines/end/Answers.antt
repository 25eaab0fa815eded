-- `lines::end` meets its contract: piece by piece.
use mathlib.Core.Bool.{true}
use mathlib.Core.Path.{refl}
use Rattle.std.proofs.Common.{rules}
use Rattle.text.specs.Lines.{end_text}
use Rattle.text.proofs.Puts.{then, answered}
use Rattle.text.proofs.lines.end.Goals as goal

pub returns : goal.returns
unfolding end_text
returns c = answered true refl c.if-out-lt-LONGEST.false refl (then c.word.ensures (then c.number.ensures c.word-2.ensures)) (search rules)
