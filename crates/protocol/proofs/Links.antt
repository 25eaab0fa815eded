-- The bridge across a link, and the end of a link at a bridge. Assumes nothing.
use Prim.Native.Nat.{ℕ, ◌+◌, ◌*◌, ◌%◌, ◌<◌}
use native.Mathlib.Omega.{arith}
use mathlib.Core.Path.{◌≡◌, refl, sym, ap, ◌∙◌}
use mathlib.Core.Logic.{◌⊎◌, inl, inr}
use mathlib.Core.Bool.{Bool, true, false, cond, ◌||◌}
use lib.Dec.{eqb}
use borrow.Author.Tests.{eqb-true, eq-eqb, ne_eqb}
use Rattle.distances.specs.View.{Graph, InRange}
use Rattle.distances.proofs.Booleans.{otherwise}
use Rattle.distances.proofs.Ranges.{side}
use Rattle.agreement.specs.Offer.{link_of, far_bridge}
use Rattle.protocol.specs.Calls.{end_of}
use Rattle.protocol.specs.Ports.{across}

-- the bridge across the link of an end is the far one
pub across-far : (g : Graph) → InRange g → (e y : ℕ) → e < 2 * g.links → g.bridge_at e ≡ y → across g (link_of e) y ≡ far_bridge g e
unfolding across
across-far g r e y listed own = go (side e)
  where
    go : (e ≡ 2 * link_of e) ⊎ (e ≡ 2 * link_of e + 1) → cond (eqb (g.bridge_at (2 * link_of e)) y) (g.bridge_at (2 * link_of e + 1)) (g.bridge_at (2 * link_of e)) ≡ far_bridge g e
    go (inl q) = rw (eq-eqb (g.bridge_at (2 * link_of e)) y (ap g.bridge_at (sym q) ∙ own)) (ap g.bridge_at (omega arith))
    go (inr q) =
        rw (ne_eqb (g.bridge_at (2 * link_of e)) y (λ z. r.differ (link_of e) (omega arith) (z ∙ sym own ∙ ap g.bridge_at q)))
        (ap g.bridge_at (omega arith))

-- it is a bridge
pub across-below : (g : Graph) → InRange g → (l y : ℕ) → l < g.links → across g l y < g.bridges
unfolding across
across-below g r l y h = go (eqb (g.bridge_at (2 * l)) y)
  where
    go : (b : Bool) → cond b (g.bridge_at (2 * l + 1)) (g.bridge_at (2 * l)) < g.bridges
    go true = r.second l h
    go false = r.first l h

-- the end of a link is one of the ends
pub end_of-below : (g : Graph) (y l links : ℕ) → l < links → end_of g y l < 2 * links
unfolding end_of
end_of-below g y l links h = go (eqb (g.bridge_at (2 * l)) y)
  where
    go : (b : Bool) → cond b (2 * l) (2 * l + 1) < 2 * links
    go true = omega arith
    go false = omega arith

module _ (g : Graph) (b l : ℕ) where
  -- the end of link l at b is at b, where b is on the link
  pub end-at-bridge : (eqb (g.bridge_at (2 * l)) b || eqb (g.bridge_at (2 * l + 1)) b) ≡ true → g.bridge_at (end_of g b l) ≡ b
  unfolding end_of
  end-at-bridge on = go (eqb (g.bridge_at (2 * l)) b) refl
    where
      go : (a : Bool) → eqb (g.bridge_at (2 * l)) b ≡ a → g.bridge_at (cond a (2 * l) (2 * l + 1)) ≡ b
      go true q = eqb-true (g.bridge_at (2 * l)) b q
      go false q = eqb-true (g.bridge_at (2 * l + 1)) b (otherwise _ _ on q)

  -- it is the sender of a message over l with its direction
  pub end-of-link : 2 * l + end_of g b l % 2 ≡ end_of g b l
  unfolding end_of
  end-of-link = go (eqb (g.bridge_at (2 * l)) b)
    where
      go : (c : Bool) → 2 * l + cond c (2 * l) (2 * l + 1) % 2 ≡ cond c (2 * l) (2 * l + 1)
      go true = omega arith
      go false = omega arith
