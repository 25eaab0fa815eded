-- `lines::refused` meets its contract: piece by piece.
use mathlib.Core.Bool.{true}
use mathlib.Core.Path.{refl}
use Rattle.std.proofs.Common.{rules}
use Rattle.text.specs.Lines.{refused_text}
use Rattle.text.proofs.Puts.{then, answered}
use Rattle.text.proofs.lines.refused.Goals as goal

pub returns : goal.returns
unfolding refused_text
returns c = answered true refl c.if-out-lt-LONGEST.false refl (then c.word.ensures (then c.number.ensures (then c.word-2.ensures (then c.number-2.ensures c.word-3.ensures)))) (search rules)
