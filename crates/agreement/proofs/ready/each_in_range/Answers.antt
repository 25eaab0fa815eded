use Prim.Native.Nat.{◌<◌}
use mathlib.Core.Path.{◌∙◌, refl}
use borrow.Author.Rules.{rules}
use lib.ListN.{length}
use Rattle.distances.proofs.Ranges.{all_below-none}
use Rattle.agreement.specs.Ranges.{record_in_range}
use Rattle.agreement.specs.Record.{fresh_record}
use Rattle.agreement.proofs.Basics.{get_d_default, all_more}
use Rattle.agreement.proofs.ready.each_in_range.Goals as goal

pub loop-e-init : goal.loop-e-init
loop-e-init c = all_below-none _

pub loop-e-preserved : goal.loop-e-preserved
unfolding record_in_range
loop-e-preserved c =
    let a = c.args in
    let e = c.loop-e.e in
    let h : e < length a.records.now = search rules in
    all_more _ _ refl c.loop-e.invariant
    (c.record_passes-ok.ensures a.views c.view_bound-bound.ensures ∙ rw (get_d_default a.records.now e _ fresh_record h))
