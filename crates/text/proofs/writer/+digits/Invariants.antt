-- The measure of `digits` is the number. Assumes nothing.
use Rattle.text.proofs.writer.+digits.Given as goal

abbrev pub decreases-digits : goal.decreases-digits
decreases-digits l = l.n
