-- `Writer::word` meets its contract: the part of the lent bytes holds the word.
use mathlib.Core.Path.{refl}
use native.Mathlib.Omega.{arith}
use Rattle.text.proofs.Puts.{copied, piece}
use Rattle.text.proofs.writer.Writer.word.Goals as goal

pub returns : goal.returns
returns c = piece (copied _ _ _ _ _ (omega arith) c.copy_from_slice.ensures.after c.requires) refl refl
