-- Laws of link ends, and of offers. Assumes nothing.
use Prim.Native.Nat.{ℕ, ◌+◌, ◌*◌, ◌<◌}
use native.Mathlib.Omega.{arith}
use mathlib.Core.Path.{◌≡◌, refl}
use mathlib.Core.Bool.{Bool, true, false, cond, ◌&&◌}
use lib.Dec.{ltb}
use borrow.Author.Tests.{lt-ltb}
use Rattle.distances.specs.View.{Graph, Costs, NONE, InRange}
use Rattle.distances.specs.Distance.{present}
use Rattle.distances.proofs.Ranges.{each-end}
use Rattle.distances.proofs.Joined.{present-cost, cost-present}
use Rattle.agreement.specs.Offer.{link_of, opposite, far_bridge, offer}

pub opposite-opposite : (e : ℕ) → opposite (opposite e) ≡ e
opposite-opposite e = omega arith

pub link_of-opposite : (e : ℕ) → link_of (opposite e) ≡ link_of e
link_of-opposite e = omega arith

pub opposite-below : (e links : ℕ) → e < 2 * links → opposite e < 2 * links
opposite-below e links h = omega arith

pub bridge-in-range : (g : Graph) → InRange g → (e : ℕ) → e < 2 * g.links → g.bridge_at e < g.bridges
bridge-in-range g r = each-end (λ e. g.bridge_at e < g.bridges) g.links (λ l h. (r.first l h, r.second l h))

module _ (g : Graph) (c : Costs) (f : ℕ → ℕ → ℕ) (e d : ℕ) where
  -- the offer over a present link to a bridge that is farther
  pub offer-given : (c (link_of e) ≡ 0 → ⊥) → f (g.bridge_at e) d < f (far_bridge g e) d → offer g c f e d ≡ c (link_of e) + f (g.bridge_at e) d
  unfolding offer
  offer-given p h = rw (cost-present c (link_of e) p, lt-ltb (f (g.bridge_at e) d) (f (far_bridge g e) d) h)

  -- an offer is above the distance of the bridge that makes it
  pub offer-above : f (g.bridge_at e) d < NONE → f (g.bridge_at e) d < offer g c f e d
  unfolding offer
  offer-above h = go (present c (link_of e)) (ltb (f (g.bridge_at e) d) (f (far_bridge g e) d)) (present-cost c (link_of e))
    where
      go : (a b : Bool) → (a ≡ true → c (link_of e) ≡ 0 → ⊥) → f (g.bridge_at e) d < cond (a && b) (c (link_of e) + f (g.bridge_at e) d) NONE
      go true true p = let cost : c (link_of e) ≡ 0 → ⊥ = p refl in omega arith
      go true false p = h
      go false b p = h
