-- `ports::verdict_at` meets its contract. The loop's invariant: the choice is that of the ends below `e`, and `e` is the bridge's or none. Assumes nothing.
use Prim.Native.Nat.{◌≤◌, ◌-◌, ◌*◌, ◌<◌}
use mathlib.Core.Path.{◌≡◌}
use mathlib.Core.List.{[]}
use lib.ListN.{get_or}
use Rattle.bench.specs.State.{lent_state}
use Rattle.bench.specs.Private.Steps.{choice_in}
use Rattle.bench.proofs.ports.verdict_at.Given as goal

abbrev pub invariant-loop-e : goal.invariant-loop-e
invariant-loop-e l =
    let b = l.net.bench.now in
    record {
      most : l.e ≤ 2 * b.links;
      own : l.e < 2 * b.links → get_or b.ends l.e 0 ≡ l.bridge;
      chosen : l.choice ≡ choice_in (lent_state l.net []) l.dest l.bridge l.e;
    }

abbrev pub decreases-loop-e : goal.decreases-loop-e
decreases-loop-e l = 2 * l.net.bench.now.links - l.e
