-- Document 01's known examples E1 to E8, and ours, hold: the test over their one table passes by computation, so each entry's equation holds.
-- Assumes nothing.
use mathlib.Core.Bool.{true}
use mathlib.Core.Path.{◌≡◌, refl}
use Rattle.distances.specs.Call.{link_passes, link_in_range, in_range, distances_of}
use Rattle.distances.specs.Examples.{same, all_pass}
use Rattle.distances.proofs.Known.{each_holds}
use Rattle.protocol.specs.Examples.{all_examples, ExamplesHold}
use Rattle.protocol.proofs.Example.{computing}

all_pass_lem : all_pass all_examples ≡ true
unfolding computing link_passes link_in_range in_range distances_of same all_pass
all_pass_lem = refl

pub examples-hold : ExamplesHold
examples-hold e m = each_holds e m all_pass_lem
