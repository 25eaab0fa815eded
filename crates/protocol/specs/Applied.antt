-- Demands 2 and 3 applied to the triangle of document 01's examples. The proofs of these statements go by the demands, so that a premise which
-- nobody can meet, or a conclusion that says nothing, breaks them. Assumes nothing.
use Rattle.std.specs.Prelude.{ℕ, ◌≤◌, ◌≡◌, List, [], ◌++◌, length, None, Some}
use Rattle.distances.specs.Meaning.{IsPath, total}
use Rattle.distances.specs.Examples.{triangle, view1}
use Rattle.agreement.specs.Offer.{opposite}
use Rattle.agreement.specs.declared.Verdict.TheVariants.{IsDestination, NoLink, LinkDown, NothingHeld, HeldTooGreat, SentNotAbove}
use Rattle.protocol.specs.Net.{Network, offer_in, fresh}
use Rattle.protocol.specs.Ports.{forwarding_verdict, forwarding_port, stays, crosses, hop, Crosses}
use Rattle.protocol.specs.Rings.{Trail}
use Rattle.protocol.specs.Paths.{path, delivered, hops, links_crossed}
use Rattle.protocol.specs.LimitViews.{views_run, fresh_views, least_over, offer_held}
use Rattle.protocol.specs.Demand2.{ForwardsBy, MeansBy, CrossesBy, Demand2}
use Rattle.protocol.specs.Demand3.{Demand3}
use Rattle.protocol.specs.Examples.{plan, after, calls_e3, calls_one_end, calls_own_end, calls_e4, calls_e6, calls_e7}
use Rattle.protocol.specs.SettlingMet.{before, first, second, SettlingCanBeMet}

-- demand 2
pub record RuleAtExamples : Type 0 where
  -- E4: bridge 1 is on view 1, where its distance to bridge 0 is 4: some path there costs so much, and none costs less
  pub attained : (ls : List ℕ) × IsPath triangle view1 1 ls 0 × (total view1 ls ≡ 4)
  pub least : (ls : List ℕ) → IsPath triangle view1 1 ls 0 → 4 ≤ total view1 ls
  -- so of bridge 2 in that view, though it is on view 0 itself
  pub other : (ls : List ℕ) → IsPath triangle view1 2 ls 0 → 3 ≤ total view1 ls
  -- E3: bridge 2 uses link 1, by document 01's conditions; and by them its port is open on it
  pub forwards : (e : ℕ) × ForwardsBy (after calls_e3) 2 0 1 e
  pub opens : forwarding_port (after calls_e3) 2 0 ≡ Some 1
  -- E3: a frame crosses that link to bridge 1, both its ends being up. Of link 0 bridge 0's end alone is cut: bridge 1 forwards on it, and no frame
  -- crosses it
  pub crosses : (e : ℕ) × CrossesBy (after calls_e3) 0 2 1 1 e
  pub crossed : Crosses (after calls_e3) 0 2 1 1
  pub dies : ((e : ℕ) × ForwardsBy (after calls_one_end) 1 0 0 e) × ((z e : ℕ) → CrossesBy (after calls_one_end) 0 1 0 z e → ⊥)
  -- E2: fresh, bridge 2 forwards on no link, and so its port is closed
  pub closed : forwarding_port (after []) 2 0 ≡ None
  -- E2: over its chosen link 1 bridge 2 holds nothing; E4: what bridge 1 holds over link 1 is too great; E6: it suffices, but the sent limit there is not above
  -- the distance; after E3 bridge 1's own end of its chosen link 0 is cut. Nothing else is said of bridge 0 than that it is the destination; and bridge 1,
  -- which has a path, has a chosen link
  pub nothing : MeansBy (after []) 2 0 (NothingHeld 1)
  pub too_great : MeansBy (after calls_e4) 1 0 (HeldTooGreat 1)
  pub not_above : MeansBy (after calls_e6) 1 0 (SentNotAbove 1)
  pub link_down : MeansBy (after calls_own_end) 1 0 (LinkDown 0)
  pub is_destination : forwarding_verdict (after calls_e6) 0 0 ≡ IsDestination
  pub has_link : forwarding_verdict (after calls_e4) 1 0 ≡ NoLink → ⊥
  -- E3: the path from 2 goes to bridge 0 by two hops; E4: by one hop to bridge 1, from which no frame crosses a link
  pub arrives : Trail (Crosses (after calls_e3) 0) 2 2 0
  pub stops : Trail (Crosses (after calls_e4) 0) 2 1 1 × (hop (after calls_e4) 0 1 ≡ stays)
  -- of link 0 bridge 0's end alone is cut: the path from 2 goes by one hop to bridge 1, whose port is open and from which no frame crosses a link
  pub stops_dying : Trail (Crosses (after calls_one_end) 0) 2 1 1 × (hop (after calls_one_end) 0 1 ≡ stays)
  -- E6: bridge 1's sent limit on link 1 is 2, the least of its offers over the views since the last clearing; it holds 4, the far bridge's offer
  -- in the view held
  pub sent : least_over (λ t. offer_in plan t 2 0) (views_run (fresh plan) 2 fresh_views calls_e6).since ≡ 2
  pub held : offer_held (λ t. offer_in plan t (opposite 2) 0) (views_run (fresh plan) 2 fresh_views calls_e6).held ≡ 4

-- the network where the worked list of the settling statement ends
abbrev pub settled_there : Network
settled_there = after (before ++ (first ++ second))

-- demand 3
pub record ListsAtExamples : Type 0 where
  -- E7: bridge 1's frame goes to bridge 2, and so none of bridge 2 goes to bridge 1
  pub no_ring : (l : ℕ) → hop (after calls_e7) 0 2 ≡ crosses l 1 → ⊥
  -- E7: the path from 1 has at most two hops, as many as it crosses links
  pub short : hops (path (after calls_e7) 1 0) ≤ 2
  pub counted : hops (path (after calls_e7) 1 0) ≡ length (links_crossed (after calls_e7) 1 0)
  -- E4: the path from 2 stops at bridge 1, and ends there by itself
  pub ends : hop (after calls_e4) 0 1 ≡ stays
  -- of link 0 bridge 0's end alone is cut: the path from 2 stops at bridge 1, whose frame dies, and ends there by itself
  pub ends_dying : hop (after calls_one_end) 0 1 ≡ stays
  -- the settling list: bridge 1 forwards for bridge 0, its path is delivered, and the links crossed cost 4 in view 1
  pub forwards : (l : ℕ) × (forwarding_port settled_there 1 0 ≡ Some l)
  pub arrives : (h : ℕ) × (path settled_there 1 0 ≡ delivered h)
  pub shortest : total view1 (links_crossed settled_there 1 0) ≡ 4

-- the demands tell so, of a plan in the ranges and a list that meets the premises
pub record DemandsApply : Type 0 where
  pub demand2 : Demand2 → SettlingCanBeMet → RuleAtExamples
  pub demand3 : Demand3 → SettlingCanBeMet → ListsAtExamples
