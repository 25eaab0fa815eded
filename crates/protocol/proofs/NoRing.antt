-- Distances, each in the bridge's own view, fall along hops between bridges from which frames cross, and ranks along every hop, so that
-- the hops for a destination close no ring. Assumes nothing.
use Rattle.std.specs.Prelude.{Some}
use Prim.Native.Nat.{ℕ, suc, ◌*◌, ◌≤◌, ◌<◌}
use mathlib.Core.Path.{◌≡◌, refl, sym, subst}
use mathlib.Core.Logic.{◌⊎◌, inl, inr}
use native.Mathlib.Omega.{arith}
use Rattle.distances.specs.View.{NONE}
use Rattle.agreement.specs.Offer.{opposite}
use Rattle.agreement.specs.Record.{held_limit}
use Rattle.agreement.specs.Forwarding.{UpAt}
use Rattle.agreement.proofs.Directions.{counted}
use Rattle.agreement.proofs.Ends.{opposite-below}
use Rattle.protocol.specs.Net.{Network}
use Rattle.protocol.specs.Ports.{Hop, stays, crosses, own_distance, forwarding_port, hop, Crosses}
use Rattle.protocol.specs.Rings.{NoRing}
use Rattle.protocol.proofs.Invariant.{Invariant, HoldsNone, HoldsView, CountsView, far}
use Rattle.protocol.proofs.Hops.{port-forwards, below_none, hop-crosses, hop-end}
use Rattle.protocol.proofs.Rings.{falling-no-ring}

-- the rank of a bridge for d: 0 where no frame crosses a link from it, else one above its distance
rank_by : ℕ → Hop → ℕ
rank_by x stays = 0
rank_by x (crosses l z) = suc x

pub rank : Network → ℕ → ℕ → ℕ
rank n d y = rank_by (own_distance n y d) (hop n d y)

module _ (n : Network) (inv : Invariant n) (d : ℕ) where
  -- of any end whose held limit is at most x, and whose far end is up: if the far bridge forwards, its distance is below x
  falls : (e x l : ℕ) → e < 2 * n.plan.graph.links → UpAt n.records (opposite e) → held_limit (n.records.ends e) (n.records.held e) d ≤ x → x < NONE → forwarding_port n (far n e) d ≡ Some l → own_distance n (far n e) d < x
  unfolding own_distance
  falls e x l listed up low some is = go (counted (inv.1.direction e listed))
    where
      sent : own_distance n (far n e) d < n.records.sent (opposite e) d
      sent =
          (port-forwards n (far n e) d l is).1.allowed.sent (opposite e) (opposite-below e n.plan.graph.links listed) refl up

      go : HoldsNone n e ⊎ ((v : ℕ) × HoldsView n e v × CountsView n e v) → own_distance n (far n e) d < x
      go (inl none) =
          let limit : NONE ≤ x = rw none at low in
          absurd (omega arith)
      go (inr q) =
          let limit : n.records.held e d ≤ x = rw q.1.0 at low in
          omega (arith, sent, limit, q.1.1 d, q.2 d)

  -- the same of a hop to a bridge from which a frame crosses, by the chosen end
  hop-falls : (y l z l' w : ℕ) → hop n d y ≡ crosses l z → hop n d z ≡ crosses l' w → own_distance n z d < own_distance n y d
  unfolding own_distance
  hop-falls y l z l' w first second =
      let by = hop-end n inv.1.plan.graph d y l z first in
      let so = by.1.forwards in
      subst (λ (x : ℕ). own_distance n x d < own_distance n y d) by.1.arrives
      (falls by.0 (own_distance n y d) l' so.chosen.listed by.1.far_up so.allowed.held
      (below_none n y d so.allowed.has_path)
      (subst (λ (x : ℕ). forwarding_port n x d ≡ Some l') (sym by.1.arrives) (hop-crosses n d z l' w second).0))

  pub rank_falls : (y l z : ℕ) → hop n d y ≡ crosses l z → rank n d z < rank n d y
  unfolding rank rank_by
  rank_falls y l z first = rw first (go (hop n d z) refl)
    where
      go : (p : Hop) → hop n d z ≡ p → rank_by (own_distance n z d) p < suc (own_distance n y d)
      go stays e = omega arith
      go (crosses k w) e = omega (arith, hop-falls y l z k w first e)

  pub no-ring : NoRing (Crosses n d)
  no-ring = falling-no-ring (Crosses n d) (rank n d) rank_falls
