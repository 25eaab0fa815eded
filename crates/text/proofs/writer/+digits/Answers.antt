-- A number's digits are those of its tenth, then its last.
use Rattle.text.proofs.Laws.{decimal_one, decimal_more}
use Rattle.text.proofs.Puts.{stored, joined}
use Rattle.text.proofs.writer.+digits.Goals as goal

pub returns-then-n-lt10 : goal.returns-then-n-lt10
returns-then-n-lt10 t c = rw (decimal_one c.args.n c.if-n-lt10.true) (stored _ _ _)

pub returns-else-n-lt10 : goal.returns-else-n-lt10
returns-else-n-lt10 t c = rw (decimal_more c.args.n c.if-n-lt10.false c.ranges.n.fits) (joined c.digits-last.ensures (stored _ _ _))
