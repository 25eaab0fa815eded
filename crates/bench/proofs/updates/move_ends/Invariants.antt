-- `updates::move_ends` meets its contract. The loop's invariant: the ends below `e` are moved, and `e` is the bridge's or none. Assumes nothing.
use Prim.Native.Nat.{◌*◌, ◌-◌, ◌≤◌, ◌<◌}
use mathlib.Core.Path.{◌≡◌}
use mathlib.Core.List.{[]}
use lib.ListN.{length, get_or}
use Rattle.agreement.specs.Call.{view_data}
use Rattle.bench.specs.State.{state_of, SameReferences}
use Rattle.bench.specs.Private.Changes.{ends_in, with_ends, moved_ends}
use Rattle.bench.proofs.updates.move_ends.Given as goal

abbrev pub invariant-loop-e : goal.invariant-loop-e
invariant-loop-e l =
    let b = l.initial.net.bench.now in
    record {
      same : SameReferences l.initial.net l.net;
      most : l.e ≤ 2 * b.links;
      own : l.e < 2 * b.links → get_or b.ends l.e 0 ≡ l.bridge;
      sent : length l.net.limits.now.sent.now ≡ length l.initial.net.limits.now.sent.now;
      held : length l.net.limits.now.held.now ≡ length l.initial.net.limits.now.held.now;
      moved :
          state_of l.net []
          ≡ with_ends (state_of l.initial.net [])
          (moved_ends (view_data b.bridges b.links b.ends l.costs l.table) b.views l.bridge l.view l.e (ends_in (state_of l.initial.net [])));
    }

abbrev pub decreases-loop-e : goal.decreases-loop-e
decreases-loop-e l = 2 * l.net.bench.now.links - l.e
