-- What the private functions assume. No public contract cites this file. Assumes nothing.
use Rattle.std.specs.Prelude.{ℕ, ◌*◌, ◌<◌, ◌≤◌, List, length, get_or}
use Rattle.distances.specs.View.{table_numbers}
use Rattle.agreement.specs.Call.{ViewData}
use Rattle.agreement.specs.Ends.{Between}

-- a view as it is lent, with what the entry check has told of it
pub record ViewReady (v : ViewData) : Type 0 where
  pub few_bridges : v.bridges ≤ 16
  pub few_links : v.links ≤ 32
  pub ends_long : 2 * v.links ≤ length v.ends
  pub costs_long : v.links ≤ length v.costs
  pub table_long : table_numbers ≤ length v.table
  pub are_bridges : (e : ℕ) → e < 2 * v.links → get_or v.ends e 0 < v.bridges

-- what is seen from an end: two bridges of a few, and a table that is long enough
pub record SidesReady (w : Between) : Type 0 where
  pub few_bridges : w.bridges ≤ 16
  pub near_low : w.near < 16
  pub far_low : w.far < 16
  pub table_long : table_numbers ≤ length w.table

-- and limit tables that have the end's rows
pub record EndReady (w : Between) (sent held : List ℕ) (e : ℕ) : Type 0 where
  pub sides : SidesReady w
  pub end_low : e < 64
  pub sent_long : 1024 ≤ length sent
  pub held_long : 1024 ≤ length held

-- an end of a view that is ready, and limit tables that have its rows
pub record EndListed (v : ViewData) (sent held : List ℕ) (e : ℕ) : Type 0 where
  pub view : ViewReady v
  pub listed : e < 2 * v.links
  pub sent_long : 1024 ≤ length sent
  pub held_long : 1024 ≤ length held

-- a bridge and a destination of a view that is ready, and limit tables that are long enough
pub record PortReady (v : ViewData) (sent held : List ℕ) (y d : ℕ) : Type 0 where
  pub view : ViewReady v
  pub sent_long : 1024 ≤ length sent
  pub held_long : 1024 ≤ length held
  pub is_bridge : y < v.bridges
  pub is_dest : d < v.bridges
