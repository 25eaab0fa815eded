use mathlib.Core.Path.{refl}
use Rattle.distances.proofs.Ranges.{all_below-none}
use Rattle.agreement.proofs.Basics.{all_more}
use Rattle.encoding.proofs.holds_records.Goals as goal

pub loop-e-init : goal.loop-e-init
loop-e-init c = all_below-none _

pub loop-e-preserved : goal.loop-e-preserved
loop-e-preserved c = all_more _ _ refl c.loop-e.invariant c.record_fits-ok.ensures
