-- What a caller lends and hands over, and the network that stands in it. Assumes nothing.
use Rattle.std.specs.Prelude.{ℕ, zero, suc, ◌+◌, ◌*◌, ◌≡◌, List, [], ◌∷◌, get_or, take, drop}
use Rattle.distances.specs.View.{graph_of, costs_of}
use Rattle.agreement.specs.Call.{lent_records, SameTables}
use Rattle.protocol.specs.Net.{Network, Message}
use Rattle.bench.specs.declared.Bench.{Bench}
use Rattle.bench.specs.declared.Lent.{Lent}
use Rattle.bench.specs.declared.LentMut.{LentMut}

-- the lent buffers, beside the bench itself: a row of 32 costs for each view, the two limit tables, and 5 numbers for each message in
-- flight
pub record State : Type 0 where
  pub bench : Bench
  pub costs : List ℕ
  pub sent : List ℕ
  pub held : List ℕ
  pub messages : List ℕ

abbrev pub state : Bench → List ℕ → List ℕ → List ℕ → List ℕ → State
state bench costs sent held messages =
    record { bench = bench; costs = costs; sent = sent; held = held; messages = messages }

-- a network as it is lent, with the messages
abbrev pub lent_state : Lent → List ℕ → State
lent_state net messages = state net.bench.now net.costs.now net.limits.sent.now net.limits.held.now messages

-- and as it is lent to be changed
abbrev pub state_of : LentMut → List ℕ → State
state_of net messages = state net.bench.now net.costs.now net.limits.now.sent.now net.limits.now.held.now messages

-- the caller's bench and limit tables are the ones that it lent, so that it learns what they hold afterwards
abbrev pub SameReferences : LentMut → LentMut → Type 0
SameReferences before after = (after.bench.ghost_name ≡ before.bench.ghost_name) × (after.limits.ghost_name ≡ before.limits.ghost_name) × SameTables before.limits.now after.limits.now

-- part k of a list that is cut into parts of a width
abbrev pub part : ℕ → ℕ → List ℕ → List ℕ
part width k l = take width (drop (width * k) l)

-- the message at place p, in five numbers: link, direction, view, number, discarded number
abbrev pub message_from : List ℕ → ℕ → Message
message_from m p =
    record {
      link = get_or m (5 * p) 0;
      direction = get_or m (5 * p + 1) 0;
      agreement = record { view = get_or m (5 * p + 2) 0; number = get_or m (5 * p + 3) 0; discarded = get_or m (5 * p + 4) 0 };
    }

abbrev pub numbers_of : Message → List ℕ
numbers_of m =
    m.link ∷ m.direction ∷ m.agreement.view ∷ m.agreement.number ∷ m.agreement.discarded ∷ []

-- the messages from place p on, so many of them
unfoldable pub messages_from : ℕ → ℕ → List ℕ → List Message
messages_from p zero m = []
messages_from p (suc k) m = message_from m p ∷ messages_from (suc p) k m

-- the network that stands in a state
abbrev pub network : State → Network
network s =
    record {
      plan =
          record {
            graph = graph_of s.bench.bridges s.bench.links s.bench.ends;
            views = s.bench.views;
            costs = λ t. costs_of (part 32 t s.costs);
          };
      view = λ b. get_or s.bench.view b 0;
      number = λ b. get_or s.bench.number b 0;
      records = lent_records s.bench.down s.bench.records s.sent s.held;
      messages = messages_from 0 s.bench.messages s.messages;
    }
