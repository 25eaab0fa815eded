-- `ready::links_in_range` meets its contract: what the two loops say together (`links_apart`). Assumes nothing.
use Rattle.distances.proofs.Ranges.{links_apart}
use Rattle.distances.proofs.ready.links_in_range.Goals as goal

pub returns-then-ends_below : goal.returns-then-ends_below
returns-then-ends_below c = rw (← links_apart _ _ _, ← c.ends_below.ensures, c.if-ends_below.true) c.ends_differ.ensures

pub returns-else-ends_below : goal.returns-else-ends_below
returns-else-ends_below c = rw (← links_apart _ _ _, ← c.ends_below.ensures, c.if-ends_below.false)
