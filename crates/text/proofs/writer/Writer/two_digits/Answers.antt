-- One digit, and one behind it.
use Rattle.text.proofs.Puts.{then}
use Rattle.text.proofs.writer.Writer.two_digits.Goals as goal

pub returns : goal.returns
returns c = then c.digit.ensures c.digit-2.ensures
