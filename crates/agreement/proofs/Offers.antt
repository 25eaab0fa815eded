-- Offers: in plain numbers, and, where the lent table holds the distances, the offers of the view. Assumes nothing.
use Prim.Native.Nat.{ℕ, ◌+◌, ◌*◌, ◌/◌, ◌≤◌, ◌<◌}
use native.Mathlib.Omega.{arith}
use mathlib.Core.Path.{◌≡◌, refl, sym, fun_ext}
use mathlib.Core.Bool.{Bool, true, false, cond, ◌&&◌}
use borrow.Author.Tests.{ltb-true}
use lib.ListN.{get_or}
use lib.Dec.{ltb}
use Rattle.distances.specs.View.{NONE, max_distance, costs_of}
use Rattle.distances.specs.Table.{cell}
use Rattle.distances.specs.Distance.{present, dist}
use Rattle.distances.proofs.Booleans.{both_true}
use Rattle.distances.proofs.Ranges.{in-range-told, at_bridge, graph-in-range, costs-in-range}
use Rattle.distances.proofs.Laws.{dist-bound, dist-le-none}
use Rattle.distances.proofs.Joined.{present-is}
use Rattle.agreement.specs.Offer.{opposite, offer}
use Rattle.agreement.specs.Limits.{limit_of}
use Rattle.agreement.specs.Call.{ViewData, lent_graph, lent_in_range, lent_offer, LentOffersAreOffers}

-- as the code computes it
pub lent-offer :
    (v : ViewData) (e d : ℕ) →
    lent_offer v e d
    ≡ limit_of (get_or v.costs (e / 2) 0) (cell v.table (get_or v.ends e 0) d) (cell v.table (get_or v.ends (opposite e) 0) d)
unfolding lent_offer offer limit_of
lent-offer v e d = rw present-is

-- the whole row of end e, o being that end, a its opposite and l its link
pub lent-offers :
    (v : ViewData) (e o a l : ℕ) →
    o ≡ e →
    a ≡ opposite e →
    l ≡ e / 2 →
    (λ d. limit_of (get_or v.costs l 0) (cell v.table (get_or v.ends o 0) d) (cell v.table (get_or v.ends a 0) d)) ≡ lent_offer v e
lent-offers v e o a l p q r = fun_ext (λ d. rw (p, q, r) (sym (lent-offer v e d)))

module _ (v : ViewData) (ok : lent_in_range v ≡ true) where
  -- no offer is above NONE
  pub offer-most : (e d : ℕ) → e < 2 * v.links → offer (lent_graph v) (costs_of v.costs) (dist (lent_graph v) (costs_of v.costs)) e d ≤ NONE
  unfolding offer
  offer-most e d he = go (present c (e / 2) && ltb near far) refl
    where
      c : ℕ → ℕ
      c = costs_of v.costs

      near : ℕ
      near = dist (lent_graph v) c (get_or v.ends e 0) d

      far : ℕ
      far = dist (lent_graph v) c (get_or v.ends (opposite e) 0) d

      small : near < far → near ≤ max_distance
      small h =
          dist-bound (lent_graph v) c (graph-in-range _ _ _ (in-range-told _ _ _ _ _ ok).0) (costs-in-range _ _ _ _ _ ok) _ d
          (λ z. absurd (omega (arith, dist-le-none (lent_graph v) c (get_or v.ends (opposite e) 0) d)))

      go : (b : Bool) → (present c (e / 2) && ltb near far) ≡ b → cond b (c (e / 2) + near) NONE ≤ NONE
      go true w =
          omega (
            arith,
            small (ltb-true near far (both_true (present c (e / 2)) (ltb near far) w).1),
            (costs-in-range v.bridges v.links v.ends v.costs _ ok).most (e / 2) (omega arith),
          )
      go false w = omega arith

-- where the table holds the distances a limit's offer is the view's
pub offer-is : LentOffersAreOffers
unfolding lent_offer offer
offer-is v ok holds e d he hd =
    let graph = (in-range-told _ _ _ _ _ ok).0 in
    rw (
      holds (get_or v.ends e 0) d (at_bridge _ _ _ graph e he) hd,
      holds (get_or v.ends (opposite e) 0) d (at_bridge _ _ _ graph (opposite e) (omega arith)) hd,
    )
    (omega (arith, offer-most v ok e d he))
