-- A number of one, two or three digits, digit by digit.
use Rattle.text.proofs.Laws.{decimal_last, decimal_two, decimal_three}
use Rattle.text.proofs.Puts.{then}
use Rattle.text.proofs.writer.Writer.number.Goals as goal

pub returns-then-n-lt10 : goal.returns-then-n-lt10
returns-then-n-lt10 c = rw (decimal_last c.args.n c.if-n-lt10.true) c.digit.ensures

pub returns-then-n-lt100 : goal.returns-then-n-lt100
returns-then-n-lt100 c = rw (decimal_two c.args.n c.if-n-lt10.false c.if-n-lt100.true) c.two_digits.ensures

pub returns-then-n-lt1000 : goal.returns-then-n-lt1000
returns-then-n-lt1000 c = rw (decimal_three c.args.n c.if-n-lt100.false c.if-n-lt1000.true) (then c.two_digits-then-n-lt1000.ensures c.digit-then-n-lt1000.ensures)
