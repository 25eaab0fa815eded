-- Demand 3 (document 01, "Whole lists"; document 02, Change 1): one claim about every list of calls from the fresh network. Assumes nothing.
use Rattle.std.specs.Prelude.{ℕ, ◌+◌, ◌*◌, ◌<◌, ◌≤◌, ◌-◌, ◌≡◌, ◌⊎◌, true, List, ◌++◌, length, Some}
use Rattle.distances.specs.View.{NONE}
use Rattle.distances.specs.Meaning.{total}
use Rattle.agreement.specs.Forwarding.{UpAt, DownAt}
use Rattle.protocol.specs.Net.{Network, Plan, PlanInRange, fresh, distance_in}
use Rattle.protocol.specs.Calls.{Call, run}
use Rattle.protocol.specs.Ports.{forwarding_port, Crosses}
use Rattle.protocol.specs.Rings.{NoRing}
use Rattle.protocol.specs.Paths.{path, delivered, hops, EndsByItself, links_crossed}
use Rattle.protocol.specs.Rounds.{has_round, has_no_change}

-- "'Uncut' in the settling statement means both ends up, 'cut' means both down"
abbrev pub Uncut : Network → ℕ → Type 0
Uncut n l = UpAt n.records (2 * l) × UpAt n.records (2 * l + 1)

abbrev pub Cut : Network → ℕ → Type 0
Cut n l = DownAt n.records (2 * l) × DownAt n.records (2 * l + 1)

-- the premises of the settling statement, at the point where the network is n: all bridges are on view t, every link is uncut or cut, t
-- gives each cut link no cost, and from there, through xs and then ys, no update, cut or restore is accepted and each of xs and ys holds a
-- round
pub record Settling (n : Network) (t : ℕ) (xs ys : List Call) : Type 0 where
  pub on_view : (b : ℕ) → b < n.plan.graph.bridges → n.view b ≡ t
  pub uncut_or_cut : (l : ℕ) → l < n.plan.graph.links → Uncut n l ⊎ Cut n l
  pub cut_absent : (l : ℕ) → l < n.plan.graph.links → Cut n l → n.plan.costs t l ≡ 0
  pub no_change : has_no_change n (xs ++ ys) ≡ true
  pub first_round : has_round n xs ≡ true
  pub second_round : has_round (run n xs) ys ≡ true

-- bridge y forwards for d, its path is delivered, and the costs in t of the links that it crosses add up to its distance in t
pub record Settled (n : Network) (t y d : ℕ) : Type 0 where
  pub forwards : (l : ℕ) × (forwarding_port n y d ≡ Some l)
  pub arrives : (h : ℕ) × (path n y d ≡ delivered h)
  pub shortest : total (n.plan.costs t) (links_crossed n y d) ≡ distance_in n.plan t y d

-- what holds after every list of calls. No number need be a bridge's: from or to anything else no frame crosses a link, and it has no path
pub record Holds (p : Plan) (cs : List Call) : Type 0 where
  -- the forwarding ports of a destination close no ring: "a ring means links crossed"
  pub no_ring : (d : ℕ) → NoRing (Crosses (run (fresh p) cs) d)
  -- every path ends by itself, within bridges less one hops
  pub path_ends : (s d : ℕ) → EndsByItself (run (fresh p) cs) d (path (run (fresh p) cs) s d)
  pub path_short : (s d : ℕ) → hops (path (run (fresh p) cs) s d) ≤ (run (fresh p) cs).plan.graph.bridges - 1
  -- its hop count is the number of links crossed
  pub path_counted : (s d : ℕ) → hops (path (run (fresh p) cs) s d) ≡ length (links_crossed (run (fresh p) cs) s d)
  -- settling: from any point of the list, the start included
  pub settles :
      (ks xs ys : List Call) (t : ℕ) → cs ≡ ks ++ (xs ++ ys) →
      Settling (run (fresh p) ks) t xs ys →
      (y d : ℕ) → (y ≡ d → ⊥) → (distance_in (run (fresh p) cs).plan t y d ≡ NONE → ⊥) → Settled (run (fresh p) cs) t y d

-- the demand: for every plan in the ranges and every list of calls
abbrev pub Demand3 : Type 0
Demand3 = (p : Plan) → PlanInRange p → (cs : List Call) → Holds p cs
