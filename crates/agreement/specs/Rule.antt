-- Document 01, "Forwarding", with document 02's Change 1, as propositions, to be read beside them, and the claim that the port of the contracts follows them.
-- The bridge is y, the destination d, f the distances and c the costs of y's view. An end at y stands for its link. Assumes nothing.
use Rattle.std.specs.Prelude.{ℕ, ◌+◌, ◌*◌, ◌<◌, ◌≤◌, ◌≡◌, None, Some}
use Rattle.distances.specs.View.{Graph, Costs, NONE}
use Rattle.agreement.specs.Offer.{link_of, far_bridge}
use Rattle.agreement.specs.Record.{held_limit}
use Rattle.agreement.specs.Forwarding.{Records, UpAt, port}

-- a link of y that may be chosen
pub record Reaches (g : Graph) (c : Costs) (f : ℕ → ℕ → ℕ) (y d e : ℕ) : Type 0 where
  -- "its .. link": end e is at y
  pub own : g.bridge_at e ≡ y
  -- "present in Y's view"
  pub present : c (link_of e) ≡ 0 → ⊥
  -- "whose cost plus far bridge's distance equals Y's distance, in Y's view"
  pub sum : c (link_of e) + f (far_bridge g e) d ≡ f y d

-- "The chosen link of Y" is the link of end e
pub record IsChosen (g : Graph) (c : Costs) (f : ℕ → ℕ → ℕ) (y d e : ℕ) : Type 0 where
  -- e is an end of one of the links
  pub listed : e < 2 * g.links
  pub reaches : Reaches g c f y d e
  -- "its lowest-numbered link" of those
  pub lowest : (k : ℕ) → k < 2 * g.links → Reaches g c f y d k → link_of e ≤ link_of k

-- "Y forwards on it if": the link is that of end e
pub record Conditions (g : Graph) (f : ℕ → ℕ → ℕ) (r : Records) (y d e : ℕ) : Type 0 where
  -- "Y is not the destination"
  pub not_destination : y ≡ d → ⊥
  -- "and its distance is not NONE"
  pub has_path : f y d ≡ NONE → ⊥
  -- "the link is not cut", by Y's own end (document 02, Change 1)
  pub up : UpAt r e
  -- "its held limit is at most Y's distance"
  pub held : held_limit (r.ends e) (r.held e) d ≤ f y d
  -- "and Y's distance is below the sent limit of every uncut link of Y, the chosen one included": every link that is up at Y's end
  pub sent : (k : ℕ) → k < 2 * g.links → g.bridge_at k ≡ y → UpAt r k → f y d < r.sent k d

-- y forwards on link l, by its end e
pub record Forwards (g : Graph) (c : Costs) (f : ℕ → ℕ → ℕ) (r : Records) (y d l e : ℕ) : Type 0 where
  -- "The chosen link of Y"
  pub chosen : IsChosen g c f y d e
  -- is l
  pub link : link_of e ≡ l
  -- "Y forwards on it if"
  pub allowed : Conditions g f r y d e

-- links are "each joining two different bridges" ("Network and views"), so that a bridge has one end of a link at most
abbrev pub EndsDiffer : Graph → Type 0
EndsDiffer g = (l : ℕ) → l < g.links → g.bridge_at (2 * l) ≡ g.bridge_at (2 * l + 1) → ⊥

-- the port that the contracts speak of is open on link l if and only if y forwards on l, and closed if y forwards on none:
-- "No other port forwards for that destination". A distance is at most NONE: by a number above it the limit NONE of an end that holds nothing would be
-- "at most Y's distance"
abbrev pub PortFollowsRule : Type 0
PortFollowsRule =
    (g : Graph) (c : Costs) (f : ℕ → ℕ → ℕ) (r : Records) (y d : ℕ) →
    ((l : ℕ) → port g c f r y d ≡ Some l → (e : ℕ) × Forwards g c f r y d l e)
    × (EndsDiffer g → f y d ≤ NONE → (l : ℕ) → (e : ℕ) × Forwards g c f r y d l e → port g c f r y d ≡ Some l)
    × (((l e : ℕ) → Forwards g c f r y d l e → ⊥) → port g c f r y d ≡ None)
