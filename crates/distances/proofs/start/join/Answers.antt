use Prim.Native.Nat.{◌+◌, ◌*◌}
use native.Mathlib.Numerals.{add-one}
use native.Mathlib.Omega.{arith}
use mathlib.Core.Path.{refl}
use Rattle.distances.specs.Steps.{with_links}
use Rattle.distances.proofs.start.join.Goals as goal

pub loop-l-init : goal.loop-l-init
unfolding with_links
loop-l-init c = refl

pub join_link-requires : goal.join_link-requires
join_link-requires c = (
  c.requires.by_index (2 * c.loop-l.l) (omega arith),
  c.requires.by_index (2 * c.loop-l.l + 1) (omega arith),
  omega arith,
)

pub loop-l-preserved : goal.loop-l-preserved
unfolding with_links
loop-l-preserved c = rw add-one (cc)
