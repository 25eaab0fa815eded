-- A view as layer 2 is lent it, and the network of a bench and messages alone. Assumes nothing.
use Rattle.std.specs.Prelude.{ℕ, List, [], replicate}
use Rattle.distances.specs.View.{table_numbers}
use Rattle.distances.specs.Call.{distances_of}
use Rattle.agreement.specs.Call.{ViewData, view_data}
use Rattle.protocol.specs.Net.{Network, Plan}
use Rattle.bench.specs.State.{state, network, part}
use Rattle.bench.specs.declared.Bench.{Bench}

-- the distances of view t, as layer 1 leaves them in a table that held nothing
unfoldable pub distance_table : ℕ → ℕ → List ℕ → List ℕ → ℕ → List ℕ
distance_table bridges links ends costs t = (distances_of bridges links ends (part 32 t costs) (replicate table_numbers 0)).table

-- view t as layer 2 is lent it
abbrev pub lent_view : Bench → List ℕ → ℕ → ViewData
lent_view b costs t =
    view_data b.bridges b.links b.ends (part 32 t costs) (distance_table b.bridges b.links b.ends costs t)

-- the network that stands in a bench and the messages, where a call is lent nothing else
abbrev pub network_of : Bench → List ℕ → Network
network_of b messages = network (state b [] [] [] messages)

-- the plan that stands in a bench and costs
abbrev pub plan_in : Bench → List ℕ → Plan
plan_in b costs = (network (state b costs [] [] [])).plan
