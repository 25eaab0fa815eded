-- The rows of the bridges below `y` are behind the first line.
use Rattle.text.specs.Lines.{row_lines, distance_at, link_at}
use Rattle.text.specs.Writing.{Writes}
use Rattle.text.proofs.lines.report.Given as goal

abbrev pub invariant-loop-y : goal.invariant-loop-y
invariant-loop-y l = Writes l.initial.text (row_lines (distance_at l.rows) (link_at l.rows) l.y) l.text
