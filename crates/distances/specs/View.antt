-- Document 01, "Network and views": the bridges and links that stay, and what a view adds to them, a cost for each link.
-- Assumes nothing.
use Rattle.std.specs.Prelude.{ℕ, ◌+◌, ◌*◌, ◌<◌, ◌≤◌, ◌≡◌, List, get_or}

-- NONE of document 01: an unreachable bridge, an absent limit
abbrev pub NONE : ℕ
NONE = 4294967295

abbrev pub max_cost : ℕ
max_cost = 16777215

-- a view's distances: 16 rows of 16
abbrev pub table_numbers : ℕ
table_numbers = 256

-- the greatest distance, 15 × 16,777,215
abbrev pub max_distance : ℕ
max_distance = 251658225

-- bridges and links are numbered from 0; link l joins the bridges at its two ends, 2 l and 2 l + 1
pub record Graph : Type 0 where
  pub bridges : ℕ
  pub links : ℕ
  pub bridge_at : ℕ → ℕ

-- a view's costs: 0 means absent
abbrev pub Costs : Type 0
Costs = ℕ → ℕ

-- the graph and the costs that stand in a caller's numbers
abbrev pub graph_of : ℕ → ℕ → List ℕ → Graph
graph_of bridges links ends = record { bridges = bridges; links = links; bridge_at = λ e. get_or ends e 0 }

abbrev pub costs_of : List ℕ → Costs
costs_of costs l = get_or costs l 0

-- the ranges of document 01, of a graph and of a view's costs
pub record InRange (g : Graph) : Type 0 where
  pub least : 2 ≤ g.bridges
  pub most : g.bridges ≤ 16
  pub links : g.links ≤ 32
  pub first : (l : ℕ) → l < g.links → g.bridge_at (2 * l) < g.bridges
  pub second : (l : ℕ) → l < g.links → g.bridge_at (2 * l + 1) < g.bridges
  pub differ : (l : ℕ) → l < g.links → g.bridge_at (2 * l) ≡ g.bridge_at (2 * l + 1) → ⊥

pub record CostsInRange (g : Graph) (c : Costs) : Type 0 where
  pub most : (l : ℕ) → l < g.links → c l ≤ max_cost
