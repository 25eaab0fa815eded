-- `lines::report` meets its contract: the first line, then row after row.
use native.Mathlib.Numerals.{add-one}
use native.Mathlib.Omega.{arith}
use mathlib.Core.Path.{◌≡◌, refl}
use lib.ListN.{length}
use borrow.Author.Tests.{le-leb}
use Rattle.std.proofs.Common.{rules}
use Rattle.text.specs.Lines.{row_lines, report_lines, report_text, distance_at, link_at}
use Rattle.text.proofs.Laws.{length_decimal, length_row_lines}
use Rattle.text.proofs.Puts.{then, no_piece, answered}
use Rattle.text.proofs.lines.report.Goals as goal

pub loop-y-init : goal.loop-y-init
unfolding row_lines
loop-y-init c = no_piece _

pub row-requires : goal.row-requires
row-requires c = (omega arith, omega (arith, length_decimal, length_row_lines (distance_at c.args.rows.now) (link_at c.args.rows.now) c.loop-y.y (omega arith)))

pub loop-y-preserved : goal.loop-y-preserved
unfolding row_lines
loop-y-preserved c = rw (add-one c.loop-y.y) (then c.loop-y.invariant c.row.ensures)

pub returns : goal.returns
unfolding report_lines report_text
returns c =
    let all : c.loop-y.y ≡ c.args.bridges = omega arith in
    answered _ (rw (le-leb c.args.bridges 16 c.if-bridges-gt16.false, le-leb _ (length c.args.rows.now) c.if-rows-bridges.false)) c.if-out-lt-LONGEST.false refl
    (then (then c.word.ensures (then c.number.ensures c.word-2.ensures)) (rw all at c.loop-y.invariant)) (search rules)
