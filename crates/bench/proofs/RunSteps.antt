-- One call and a list of calls by their contracts, for whoever makes them; and what no call changes: the graph, the costs, the count of
-- views, and the lengths of what is lent. Assumes nothing.
use Prim.Native.Nat.{◌*◌}
use mathlib.Core.Path.{◌≡◌, refl}
use mathlib.Core.Bool.{Bool, true, false, cond}
use mathlib.Core.List.{List, [], ◌∷◌}
use lib.ListN.{length}
use Rattle.distances.proofs.Booleans.{both_true, true-both}
use Rattle.protocol.specs.Net.{Network}
use Rattle.protocol.specs.Calls.{Call, change, update, cut, restore, send, deliver, repeat, lose, port, verdict, report, path, step}
use Rattle.bench.specs.State.{State, network}
use Rattle.bench.specs.Ranges.{bench_in_range, network_in_range, state_in_range}
use Rattle.bench.specs.Standing.{standing_bench, standing, step_in}
use Rattle.bench.specs.Outcomes.{ready_for, left_by}
use Rattle.bench.specs.Whole.{run_in}
use Rattle.bench.proofs.StandingLaws.{first-length, rows-length}
use Rattle.bench.proofs.QueueRanges.{network-bench}

pub record Kept (s after : State) : Type 0 where
  pub bridges : after.bench.bridges ≡ s.bench.bridges
  pub links : after.bench.links ≡ s.bench.links
  pub ends : after.bench.ends ≡ s.bench.ends
  pub views : after.bench.views ≡ s.bench.views
  pub sent : length after.sent ≡ length s.sent
  pub held : length after.held ≡ length s.held
  pub messages : length after.messages ≡ length s.messages

pub standing-kept : (n : Network) (s : State) → Kept s (standing n s)
unfolding standing standing_bench
standing-kept n s =
    record {
      bridges = refl;
      links = refl;
      ends = refl;
      views = refl;
      sent = rows-length (2 * s.bench.links) s.bench.bridges n.records.sent s.sent;
      held = rows-length (2 * s.bench.links) s.bench.bridges n.records.held s.held;
      messages = first-length 0 _ _ s.messages;
    }

module _ (s : State) (c : Call) where
  pub step_kept : Kept s (step_in s c)
  unfolding step_in
  step_kept = standing-kept (step (network s) c) s

  pub step-costs : (step_in s c).costs ≡ s.costs
  unfolding step_in standing
  step-costs = refl

  -- refused or not, a call leaves as many numbers of the messages as were lent
  pub left-messages : length (left_by s c).messages ≡ length s.messages
  unfolding left_by
  left-messages = go (ready_for s c)
    where
      go : (b : Bool) → length (cond b (step_in s c) s).messages ≡ length s.messages
      go true = step_kept.messages
      go false = refl

-- in range for a delivery is in range for every call
pub ready_for_lem : (s : State) (c : Call) → state_in_range s ≡ true → ready_for s c ≡ true
unfolding ready_for
ready_for_lem s c ok = go c
  where
    state-ready : network_in_range s ≡ true
    state-ready = (both_true (network_in_range s) _ ok).0

    bench-ready : bench_in_range s.bench ≡ true
    bench-ready = network-bench _ _ _ _ state-ready

    go : (c : Call) → ready_for s c ≡ true
    go (change (update b t)) = state-ready
    go (change (cut y l)) = bench-ready
    go (change (restore y l)) = bench-ready
    go (send b l) = true-both bench-ready (both_true (network_in_range s) _ ok).1
    go (deliver p) = ok
    go (repeat p) = ok
    go (lose p) = true-both bench-ready (both_true (network_in_range s) _ ok).1
    go (port b d) = state-ready
    go (verdict b d) = state-ready
    go (report d) = state-ready
    go (path b d) = state-ready

pub left-ready : (s : State) (c : Call) → state_in_range s ≡ true → left_by s c ≡ step_in s c
unfolding left_by
left-ready s c ok = rw (ready_for_lem s c ok)

module _ (s : State) where
  pub run_none : run_in s [] ≡ s
  unfolding run_in
  run_none = refl

  pub run-next : (c : Call) (cs : List Call) → run_in s (c ∷ cs) ≡ run_in (left_by s c) cs
  unfolding run_in
  run-next c cs = refl
