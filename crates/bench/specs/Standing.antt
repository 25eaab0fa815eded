-- The state in which a network stands. Assumes nothing.
use Rattle.std.specs.Prelude.{ℕ, ◌*◌, ◌/◌, ◌%◌, ◌&&◌, List, length, get_or, ltb}
use Rattle.distances.specs.Table.{rewritten}
use Rattle.protocol.specs.Net.{Network, Message}
use Rattle.protocol.specs.Calls.{Call, step, no_message_there}
use Rattle.bench.specs.State.{State, state, network, numbers_of}
use Rattle.bench.specs.declared.Bench.{Bench}

-- the list in which each of the first n places p holds f p, and every other is as before
unfoldable pub with_first : {A : Type 0} → ℕ → (ℕ → A) → List A → List A
with_first n f t = rewritten (λ p. ltb p n) f t

-- the table, 16 numbers to a row, in which the first columns of the first rows hold f, and every other number is as before
unfoldable pub with_rows : ℕ → ℕ → (ℕ → ℕ → ℕ) → List ℕ → List ℕ
with_rows rows columns f t = rewritten (λ p. ltb (p / 16) rows && ltb (p % 16) columns) (λ p. f (p / 16) (p % 16)) t

-- number p of the messages, five for each
unfoldable pub number_in : List Message → ℕ → ℕ
number_in ms p = get_or (numbers_of (get_or ms (p / 5) no_message_there)) (p % 5) 0

-- of the bench: each bridge's view and number, each end's record and whether it is down, and how many messages are in flight
unfoldable pub standing_bench : Network → Bench → Bench
standing_bench n b =
    record {
      bridges = b.bridges;
      links = b.links;
      views = b.views;
      messages = length n.messages;
      ends = b.ends;
      view = with_first b.bridges n.view b.view;
      number = with_first b.bridges n.number b.number;
      records = with_first (2 * b.links) n.records.ends b.records;
      down = with_first (2 * b.links) n.records.down b.down;
    }

-- the state in which network n stands: what n has of the bridges, links, ends, destinations and messages that there are, and every other
-- number of s as it was
unfoldable pub standing : Network → State → State
standing n s =
    let b : Bench = s.bench in
    state (standing_bench n b) s.costs
    (with_rows (2 * b.links) b.bridges n.records.sent s.sent)
    (with_rows (2 * b.links) b.bridges n.records.held s.held)
    (with_first (5 * length n.messages) (number_in n.messages) s.messages)

-- one call: the network that stands in s makes its step
unfoldable pub step_in : State → Call → State
step_in s c = standing (step (network s) c) s
