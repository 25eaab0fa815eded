-- Messages in flight as lent numbers, five a message: what send and lose make of them. Assumes nothing.
use Rattle.std.specs.Prelude.{ℕ, ◌+◌, ◌*◌, ◌-◌, ◌&&◌, List, get_or, leb, ltb}
use Rattle.std.proofs.lemmas.List.Edits.{sets}
use Rattle.distances.specs.Table.{rewritten}
use Rattle.protocol.specs.Calls.{send, lose, message_of}
use Rattle.bench.specs.State.{numbers_of}
use Rattle.bench.specs.Private.Views.{network_of}
use Rattle.bench.specs.Ranges.{bench_in_range, messages_in_range}
use Rattle.bench.specs.Outcomes.{refusal_of, or_refused}
use Rattle.bench.specs.declared.Bench.{Bench}

-- the bench with another count of messages in flight
abbrev pub with_count : Bench → ℕ → Bench
with_count b k =
    record {
      bridges = b.bridges;
      links = b.links;
      views = b.views;
      messages = k;
      ends = b.ends;
      view = b.view;
      number = b.number;
      records = b.records;
      down = b.down;
    }

-- of `count` messages the one at place p is taken out: later ones move up by one
unfoldable pub taken_out : ℕ → ℕ → List ℕ → List ℕ
taken_out count p m = rewritten (λ k. leb (5 * p) k && ltb k (5 * (count - 1))) (λ k. get_or m (k + 5) 0) m

-- a bench and the messages after a call
pub record QueueOutcome : Type 0 where
  pub reply : ℕ
  pub bench : Bench
  pub messages : List ℕ

abbrev pub queue_outcome : ℕ → Bench → List ℕ → QueueOutcome
queue_outcome reply bench messages = record { reply = reply; bench = bench; messages = messages }

unfoldable pub send_of : Bench → List ℕ → ℕ → ℕ → QueueOutcome
send_of b m y l =
    or_refused (refusal_of (bench_in_range b && messages_in_range b m) (network_of b m) (send y l)) (λ k. queue_outcome k b m)
    (queue_outcome 0 (with_count b (b.messages + 1)) (sets m (5 * b.messages) (numbers_of (message_of (network_of b m) y l))))

unfoldable pub lose_of : Bench → List ℕ → ℕ → QueueOutcome
lose_of b m p =
    or_refused (refusal_of (bench_in_range b && messages_in_range b m) (network_of b m) (lose p)) (λ k. queue_outcome k b m)
    (queue_outcome 0 (with_count b (b.messages - 1)) (taken_out b.messages p m))
