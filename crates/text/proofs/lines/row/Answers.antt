-- `lines::row` meets its contract: piece by piece.
use Rattle.text.specs.Lines.{row_line}
use Rattle.text.proofs.Puts.{then}
use Rattle.text.proofs.lines.row.Goals as goal

pub returns : goal.returns
unfolding row_line
returns c = then c.number.ensures (then c.word.ensures (then c.number_or_dash.ensures (then c.word-2.ensures (then c.number_or_dash-2.ensures c.word-3.ensures))))
