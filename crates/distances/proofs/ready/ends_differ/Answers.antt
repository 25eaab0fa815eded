use native.Mathlib.Numerals.{add-one}
use native.Mathlib.Omega.{arith}
use mathlib.Core.Path.{refl}
use borrow.Author.Tests.{eq-eqb, ne_eqb}
use Rattle.distances.specs.Call.{all_below}
use Rattle.distances.proofs.Ranges.{all-fails}
use Rattle.distances.proofs.ready.ends_differ.Goals as goal

pub loop-l-init : goal.loop-l-init
unfolding all_below
loop-l-init c = refl

pub returns-then-ends-l : goal.returns-then-ends-l
returns-then-ends-l c = all-fails _ _ c.loop-l.l (omega arith) (rw (eq-eqb _ _ c.if-ends-l.true))

pub loop-l-preserved : goal.loop-l-preserved
unfolding all_below
loop-l-preserved c = rw (add-one, ← c.loop-l.invariant, ne_eqb _ _ c.if-ends-l.false)
