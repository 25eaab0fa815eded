-- The loop: `ok` says whether every record below `e` passes. Assumes nothing.

use mathlib.Core.Path.{◌≡◌}
use lib.ListN.{get_or}
use Rattle.distances.specs.Call.{all_below}
use Rattle.agreement.specs.Ranges.{record_in_range}
use Rattle.agreement.specs.Record.{fresh_record}
use Rattle.agreement.proofs.ready.each_in_range.Given as goal

abbrev pub invariant-loop-e : goal.invariant-loop-e
invariant-loop-e l = l.ok ≡ all_below l.e (λ k. record_in_range l.views (get_or l.records k fresh_record))
