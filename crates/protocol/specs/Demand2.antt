-- Demand 2 (document 01, "Network and views", "Records of a bridge", "Forwarding"; document 02, Changes 1 and 2): what is told of a network, whatever stands in its
-- records, is by the shortest distances and by the forwarding rule; and after every list of calls from a fresh network the limits in its
-- records are those of document 01. Assumes nothing.
use Rattle.std.specs.Prelude.{ℕ, ◌-◌, ◌<◌, ◌≡◌, ◌⊎◌, List, None, Some}
use Rattle.distances.specs.Meaning.{IsDistance}
use Rattle.agreement.specs.Offer.{opposite}
use Rattle.agreement.specs.Forwarding.{UpAt}
use Rattle.agreement.specs.Rule.{Forwards}
use Rattle.agreement.specs.Reasons.{Means}
use Rattle.agreement.specs.declared.Verdict.{Verdict}
use Rattle.agreement.specs.declared.Verdict.TheVariants.{NoLink}
use Rattle.protocol.specs.Net.{Network, Plan, PlanInRange, distance_in, fresh}
use Rattle.protocol.specs.Calls.{Call, run}
use Rattle.protocol.specs.Ports.{own_distance, forwarding_verdict, forwarding_port, stays, hop, Crosses}
use Rattle.protocol.specs.Rings.{Trail}
use Rattle.protocol.specs.Paths.{PathResult, delivered, stops, path}
use Rattle.protocol.specs.LimitViews.{LimitsAsDefined}

-- the plan in the ranges, and each bridge on one of its views
pub record NetworkInRange (n : Network) : Type 0 where
  pub plan : PlanInRange n.plan
  pub views : (y : ℕ) → y < n.plan.graph.bridges → n.view y < n.plan.views

-- bridge y forwards for d on link l, by its end e: with the costs and distances of the view that y is on, and the limits that stand in the
-- records
abbrev pub ForwardsBy : Network → ℕ → ℕ → ℕ → ℕ → Type 0
ForwardsBy n y d l e = Forwards n.plan.graph (n.plan.costs (n.view y)) (distance_in n.plan (n.view y)) n.records y d l e

-- what verdict v says of y's port for d, by the same
abbrev pub MeansBy : Network → ℕ → ℕ → Verdict → Type 0
MeansBy n y d v = Means n.plan.graph (n.plan.costs (n.view y)) (distance_in n.plan (n.view y)) n.records y d v

-- a frame for d crosses link l from y to z: y forwards on l by its end e, "both ends are up", and z is at the other
pub record CrossesBy (n : Network) (d y l z e : ℕ) : Type 0 where
  pub forwards : ForwardsBy n y d l e
  pub near_up : UpAt n.records e
  pub far_up : UpAt n.records (opposite e)
  pub arrives : n.plan.graph.bridge_at (opposite e) ≡ z

-- a path from s for d "follows forwarding ports from a bridge until the destination, or a bridge that does not forward", and "also stops at a
-- bridge whose frame dies on the link"; "Unless delivered, it stops after as many links as there are bridges less one"
abbrev pub FollowsPorts : Network → ℕ → ℕ → PathResult → Type 0
FollowsPorts n s d (delivered h) = Trail (Crosses n d) s h d
FollowsPorts n s d (stops b h) = Trail (Crosses n d) s h b × (b ≡ d → ⊥) × ((hop n d b ≡ stays) ⊎ (h ≡ n.plan.graph.bridges - 1))

-- what is told of a network
pub record ByTheRule (n : Network) : Type 0 where
  -- "A bridge's distance is the least sum of costs of any path to it in the view": of y, in the view that y is on
  pub distance : (y d : ℕ) → y < n.plan.graph.bridges → IsDistance n.plan.graph (n.plan.costs (n.view y)) y d (own_distance n y d)
  -- and of any other bridge in that view, which the rule asks for
  pub others : (y z d : ℕ) → y < n.plan.graph.bridges → IsDistance n.plan.graph (n.plan.costs (n.view y)) z d (distance_in n.plan (n.view y) z d)
  -- a port is open on a link if and only if y forwards on it: "No other port forwards for that destination"
  pub opens : (y d l e : ℕ) → ForwardsBy n y d l e → forwarding_port n y d ≡ Some l
  pub forwards : (y d l : ℕ) → forwarding_port n y d ≡ Some l → (e : ℕ) × ForwardsBy n y d l e
  pub closed : (y d : ℕ) → ((l e : ℕ) → ForwardsBy n y d l e → ⊥) → forwarding_port n y d ≡ None
  -- "the first of these that applies", and otherwise that the port forwards: the verdict is so, and no other is; so it is that the port forwards on l if and
  -- only if y forwards on l. A bridge with a path to another has a chosen link
  pub verdict : (y d : ℕ) → MeansBy n y d (forwarding_verdict n y d)
  pub no_other_verdict : (y d : ℕ) (v : Verdict) → MeansBy n y d v → forwarding_verdict n y d ≡ v
  pub has_link : (y d : ℕ) → forwarding_verdict n y d ≡ NoLink → ⊥
  -- a frame crosses a link if and only if the port forwards on it and both its ends are up
  pub crosses : (d y l z : ℕ) → Crosses n d y l z → (e : ℕ) × CrossesBy n d y l z e
  pub crossed : (d y l z e : ℕ) → CrossesBy n d y l z e → Crosses n d y l z
  -- a path goes by these hops
  pub paths : (s d : ℕ) → FollowsPorts n s d (path n s d)

pub record Demand2 : Type 0 where
  -- of every network in range
  pub rule : (n : Network) → NetworkInRange n → ByTheRule n
  -- every list of calls from a fresh network leaves one in range, and with the limits that document 01 defines
  pub in_range : (p : Plan) → PlanInRange p → (cs : List Call) → NetworkInRange (run (fresh p) cs)
  pub limits : LimitsAsDefined
