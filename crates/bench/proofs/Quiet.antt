-- What a call that is lent no messages reads of a state is there also with no message in flight. Assumes nothing.
use Prim.Native.Nat.{ℕ, ◌-◌, ◌<◌}
use mathlib.Core.Path.{◌≡◌, refl}
use mathlib.Core.Bool.{true}
use native.Mathlib.Omega.{arith}
use borrow.Author.Tests.{le-leb}
use lib.ListN.{length, get_or, replicate, length-replicate}
use lib.Dec.{leb}
use Rattle.distances.specs.Call.{all_below}
use Rattle.distances.specs.Table.{cell}
use Rattle.distances.proofs.Booleans.{both_true, true-both}
use Rattle.protocol.specs.Ports.{own_distance, forwarding_verdict, forwarding_port, hop}
use Rattle.protocol.specs.Paths.{onward, path}
use Rattle.bench.specs.State.{State, state, network}
use Rattle.bench.specs.Private.Views.{lent_view}
use Rattle.bench.specs.Ranges.{graph_in_range, bench_in_range, costs_in_range, messages_in_range, parts_in_range, network_in_range}
use Rattle.bench.specs.Private.Queue.{with_count}
use Rattle.bench.specs.Private.Answers.{verdict_in, port_in, hop_in}
use Rattle.bench.specs.Sizes.{most_messages}
use Rattle.bench.proofs.Represents.{Represents, Typed, own-represents}
use Rattle.bench.proofs.TieAnswers.{verdict-same, port-same, own-distance, path-same}

module _ (s : State) (ok : network_in_range s ≡ true) (typed : Typed s.bench) where
  -- with no message in flight
  abbrev pub quiet : State
  quiet = state (with_count s.bench 0) s.costs s.sent s.held (replicate 320 0)

  quiet-messages : messages_in_range quiet.bench quiet.messages ≡ true
  unfolding messages_in_range all_below
  quiet-messages = true-both (le-leb 320 (length quiet.messages) (rw length-replicate (omega arith))) refl

  quiet-network : network_in_range quiet ≡ true
  unfolding parts_in_range bench_in_range graph_in_range costs_in_range
  quiet-network =
      let all = both_true (bench_in_range s.bench) _ ok in
      let graph = both_true (graph_in_range s.bench) _ all.0 in
      let count = both_true (leb s.bench.messages most_messages) _ graph.1 in
      true-both (true-both graph.0 (true-both refl count.1)) all.1

  pub quiet-represents : Represents quiet (network quiet)
  quiet-represents =
      own-represents quiet (true-both quiet-network quiet-messages)
      (record {
        views = typed.views;
        numbers = typed.numbers;
        records = typed.records;
        flags = typed.flags;
        number = typed.number;
        received = typed.received;
        discarded = typed.discarded;
      })

  module _ (y d : ℕ) (hy : y < s.bench.bridges) (hd : d < s.bench.bridges) where
    pub verdict-is : verdict_in s y d ≡ forwarding_verdict (network s) y d
    unfolding verdict_in forwarding_verdict
    verdict-is = verdict-same quiet (network quiet) quiet-represents y d hy hd

    pub port-is : port_in s y d ≡ forwarding_port (network s) y d
    unfolding verdict_in forwarding_port forwarding_verdict
    port-is = port-same quiet (network quiet) quiet-represents y d hy hd

    pub distance_is : cell (lent_view s.bench s.costs (get_or s.bench.view y 0)).table y d ≡ own_distance (network s) y d
    unfolding own_distance
    distance_is = own-distance quiet (network quiet) quiet-represents y d hy hd

    pub path-is : onward (hop_in s d) d (s.bench.bridges - 1) 0 y ≡ path (network s) y d
    unfolding hop_in verdict_in path hop forwarding_port forwarding_verdict
    path-is = path-same quiet (network quiet) quiet-represents y d hy hd
