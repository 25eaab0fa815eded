-- What holds of every network that a list of calls makes of a fresh one: both directions of every link are as `Direction` says, and
-- so is every message in flight. `h b m` is the view that bridge b had under number m. Assumes nothing.
use Prim.Native.Nat.{ℕ, ◌*◌, ◌<◌, ◌≤◌}
use mathlib.Core.Path.{◌≡◌}
use mathlib.Core.Bool.{true, false}
use lib.ListN.{length}
use Rattle.agreement.proofs.Direction.{Direction, InFlight}
use Rattle.agreement.specs.Offer.{opposite, far_bridge}
use Rattle.protocol.specs.Net.{Network, PlanInRange, sender, offer_in}
use Rattle.protocol.specs.Calls.{message_at}

module _ (n : Network) where
  -- nothing is held at end e; view v's offers are held there; the far bridge counts view v as sent
  abbrev pub HoldsNone : ℕ → Type 0
  HoldsNone e = (n.records.ends e).holding ≡ false

  abbrev pub HoldsView : ℕ → ℕ → Type 0
  HoldsView e v = ((n.records.ends e).holding ≡ true) × ((d : ℕ) → n.records.held e d ≡ offer_in n.plan v (opposite e) d)

  abbrev pub CountsView : ℕ → ℕ → Type 0
  CountsView e v = (d : ℕ) → n.records.sent (opposite e) d ≤ offer_in n.plan v (opposite e) d

  abbrev pub far : ℕ → ℕ
  far e = far_bridge n.plan.graph e

pub record InvariantBy (n : Network) (h : ℕ → ℕ → ℕ) : Type 0 where
  pub plan : PlanInRange n.plan
  pub numbered : (b : ℕ) → 1 ≤ n.number b
  pub present : (b : ℕ) → b < n.plan.graph.bridges → n.view b ≡ h b (n.number b)
  pub is_view : (b m : ℕ) → b < n.plan.graph.bridges → h b m < n.plan.views
  pub direction : (e : ℕ) → e < 2 * n.plan.graph.links → Direction (HoldsNone n e) (HoldsView n e) (CountsView n e) (h (far n e)) (n.number (far n e)) (n.records.ends e)
  pub link_of_message : (p : ℕ) → p < length n.messages → (message_at n p).link < n.plan.graph.links
  pub side_of_message : (p : ℕ) → p < length n.messages → (message_at n p).direction < 2
  pub in_flight : (p : ℕ) → p < length n.messages → InFlight (h (n.plan.graph.bridge_at (sender (message_at n p)))) (n.number (n.plan.graph.bridge_at (sender (message_at n p)))) (n.records.ends (sender (message_at n p))) (message_at n p).agreement

abbrev pub Invariant : Network → Type 0
Invariant n = (h : ℕ → ℕ → ℕ) × InvariantBy n h
