-- The ranges of a bench and of what is lent beside it: 17 where one of these fails. Assumes nothing.
use Rattle.std.specs.Prelude.{ℕ, ◌+◌, ◌*◌, Bool, ◌&&◌, List, length, get_or, leb, ltb}
use Rattle.distances.specs.Call.{graph_passes, costs_pass, all_below}
use Rattle.agreement.specs.Ranges.{records_in_range}
use Rattle.bench.specs.State.{State, part}
use Rattle.bench.specs.declared.Bench.{Bench}
use Rattle.bench.specs.Sizes.{cost_numbers, most_messages, flight_numbers}
use Rattle.agreement.specs.Sizes.{limit_numbers}

-- 1 to 32 views, 2 to 16 bridges, up to 32 links that each join two different bridges
unfoldable pub graph_in_range : Bench → Bool
graph_in_range b = leb 1 b.views && (leb b.views 32 && graph_passes b.bridges b.links b.ends)

-- each bridge's view, each end's record, and the count of messages in flight
unfoldable pub bench_in_range : Bench → Bool
bench_in_range b =
    graph_in_range b
    && (leb b.messages most_messages
    && (all_below b.bridges (λ y. ltb (get_or b.view y 0) b.views) && records_in_range b.views b.links b.records))

-- 32 rows of 32 costs, those of the views in range
unfoldable pub costs_in_range : Bench → List ℕ → Bool
costs_in_range b costs = leb cost_numbers (length costs) && all_below b.views (λ t. costs_pass b.links (part 32 t costs))

-- two tables of 64 rows of 16 limits, by their lengths
unfoldable pub limits_long : ℕ → ℕ → Bool
limits_long sent held = leb limit_numbers sent && leb limit_numbers held

-- a message's link, direction and view, and two numbers of 16 bits
unfoldable pub message_passes : ℕ → ℕ → ℕ → ℕ → ℕ → ℕ → ℕ → Bool
message_passes links views link direction view number discarded =
    ltb link links && (ltb direction 2 && (ltb view views && (ltb number 65536 && ltb discarded 65536)))

abbrev pub message_in_range : Bench → List ℕ → ℕ → Bool
message_in_range b m p =
    message_passes b.links b.views (get_or m (5 * p) 0) (get_or m (5 * p + 1) 0) (get_or m (5 * p + 2) 0) (get_or m (5 * p + 3) 0)
    (get_or m (5 * p + 4) 0)

-- room for 64 messages, and those in flight in range
unfoldable pub messages_in_range : Bench → List ℕ → Bool
messages_in_range b m = leb flight_numbers (length m) && all_below b.messages (message_in_range b m)

-- what most calls are handed: the bench, the views' costs, the limit tables
unfoldable pub parts_in_range : Bench → List ℕ → ℕ → ℕ → Bool
parts_in_range b costs sent held = bench_in_range b && (costs_in_range b costs && limits_long sent held)

abbrev pub network_in_range : State → Bool
network_in_range s = parts_in_range s.bench s.costs (length s.sent) (length s.held)

-- and the messages
abbrev pub state_in_range : State → Bool
state_in_range s = network_in_range s && messages_in_range s.bench s.messages
