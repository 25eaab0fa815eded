-- The network with its views, records, ends and messages in flight (document 01, "Network and views", "Records of a bridge"; document 02,
-- Change 1).
-- Assumes nothing.
use Rattle.std.specs.Prelude.{ℕ, ◌+◌, ◌*◌, ◌<◌, ◌≤◌, false, List, []}
use Rattle.distances.specs.View.{Graph, Costs, NONE, InRange, CostsInRange}
use Rattle.distances.specs.Distance.{dist}
use Rattle.agreement.specs.Offer.{opposite, offer}
use Rattle.agreement.specs.Record.{fresh_record}
use Rattle.agreement.specs.Forwarding.{Records}
use Rattle.agreement.specs.declared.Agreement.{Agreement}

-- a message in flight: its link, its direction (0 from end 2 l, 1 from end 2 l + 1), and what the send put in
pub record Message : Type 0 where
  pub link : ℕ
  pub direction : ℕ
  pub agreement : Agreement

-- the end that sent it
abbrev pub sender : Message → ℕ
sender m = 2 * m.link + m.direction

-- and the one where it arrives
abbrev pub receiver : Message → ℕ
receiver m = opposite (sender m)

-- what stays: the graph, the number of views, each view's costs
pub record Plan : Type 0 where
  pub graph : Graph
  pub views : ℕ
  pub costs : ℕ → Costs

-- 2 to 16 bridges, up to 32 links, 1 to 32 views, costs in the range
pub record PlanInRange (p : Plan) : Type 0 where
  pub graph : InRange p.graph
  pub least : 1 ≤ p.views
  pub most : p.views ≤ 32
  pub costs : (t : ℕ) → t < p.views → CostsInRange p.graph (p.costs t)

-- the network: of each bridge its view and agreement number; of each end whether it is down, its record and rows of limits;
-- the messages in flight, oldest first
pub record Network : Type 0 where
  pub plan : Plan
  pub view : ℕ → ℕ
  pub number : ℕ → ℕ
  pub records : Records
  pub messages : List Message

-- distance and offer in view t
abbrev pub distance_in : Plan → ℕ → ℕ → ℕ → ℕ
distance_in p t = dist p.graph (p.costs t)

abbrev pub offer_in : Plan → ℕ → ℕ → ℕ → ℕ
offer_in p t = offer p.graph (p.costs t) (distance_in p t)

-- "A fresh network": every bridge on view 0 with number 1, sent limits from view 0, nothing held, no link cut (every end is up), no message in
-- flight
unfoldable pub fresh : Plan → Network
fresh p =
    record {
      plan = p;
      view = λ b. 0;
      number = λ b. 1;
      records = record { down = λ e. false; ends = λ e. fresh_record; sent = λ e. offer_in p 0 e; held = λ e d. NONE };
      messages = [];
    }
