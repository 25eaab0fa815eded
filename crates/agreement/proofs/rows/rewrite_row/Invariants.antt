-- The loop: the limits below `d` are rewritten. Assumes nothing.
use mathlib.Core.Path.{◌≡◌}
use lib.ListN.{length, get_or}
use lib.Dec.{ltb}
use Rattle.distances.specs.Table.{rewritten}
use Rattle.agreement.specs.Limits.{row_after}
use Rattle.agreement.specs.Ends.{seen, near_offer}
use Rattle.agreement.proofs.rows.rewrite_row.Given as goal

abbrev pub invariant-loop-d : goal.invariant-loop-d
invariant-loop-d l = (length l.row ≡ 16) × (l.row ≡ rewritten (λ q. ltb q l.d) (row_after l.how (near_offer (seen l.across)) (λ k. get_or l.initial.row k 0)) l.initial.row)
