-- What a forwarding port and a hop tell of the network. Assumes nothing.
use Rattle.std.specs.Prelude.{None, Some}
use Prim.Native.Nat.{ℕ, ◌+◌, ◌*◌, ◌<◌}
use mathlib.Core.Path.{◌≡◌, refl, sym, ◌∙◌, ap}
use mathlib.Core.Logic.{◌⊎◌, inl, inr}
use mathlib.Core.Bool.{Bool, true, false, cond, ◌&&◌, not}
use native.Mathlib.Omega.{arith}
use borrow.Author.Tests.{not-true}
use Rattle.distances.specs.View.{NONE, InRange}
use Rattle.distances.proofs.Booleans.{both_true}
use Rattle.distances.proofs.Laws.{dist-le-none}
use Rattle.distances.proofs.Ranges.{side}
use Rattle.agreement.specs.Offer.{link_of, opposite}
use Rattle.agreement.specs.Forwarding.{Records, UpAt, is_up, Port}
use Rattle.agreement.proofs.Ends.{opposite-below, bridge-in-range}
use Rattle.agreement.proofs.Forwards.{open-forwards}
use Rattle.protocol.specs.Net.{Network}
use Rattle.protocol.specs.Demand2.{ForwardsBy, CrossesBy}
use Rattle.protocol.specs.Ports.{stays, crosses, own_distance, forwarding_verdict, forwarding_port, across, is_live, hop_by, hop, Crosses}
use Rattle.protocol.proofs.Invariant.{far}
use Rattle.protocol.proofs.Links.{across-far}

pub stays-crosses : (l z : ℕ) → stays ≡ crosses l z → ⊥
stays-crosses l z e =
    let o : ◌≡◌ {A = ℕ} 0 1 = cc in
    omega arith

-- a link is live if and only if an end of it and the opposite one are up
module _ (r : Records) (e : ℕ) where
  pub live-ends : is_live r (link_of e) ≡ true → UpAt r e × UpAt r (opposite e)
  unfolding is_live is_up
  live-ends live = go (side e)
    where
      both : (r.down (2 * link_of e) ≡ false) × (r.down (2 * link_of e + 1) ≡ false)
      both =
          let parts = both_true (not (r.down (2 * link_of e))) (not (r.down (2 * link_of e + 1))) live in
          (not-true _ parts.0, not-true _ parts.1)

      go : (e ≡ 2 * link_of e) ⊎ (e ≡ 2 * link_of e + 1) → UpAt r e × UpAt r (opposite e)
      go (inl q) = (ap r.down q ∙ both.0, ap r.down (omega arith) ∙ both.1)
      go (inr q) = (ap r.down q ∙ both.1, ap r.down (omega arith) ∙ both.0)

  pub ends-live : UpAt r e → UpAt r (opposite e) → is_live r (link_of e) ≡ true
  unfolding is_live is_up
  ends-live near other = go (side e)
    where
      go : (e ≡ 2 * link_of e) ⊎ (e ≡ 2 * link_of e + 1) → (not (r.down (2 * link_of e)) && not (r.down (2 * link_of e + 1))) ≡ true
      go (inl q) =
          let first : r.down (2 * link_of e) ≡ false = ap r.down (sym q) ∙ near in
          let second : r.down (2 * link_of e + 1) ≡ false = ap r.down (omega arith) ∙ other in
          rw (first, second)
      go (inr q) =
          let first : r.down (2 * link_of e) ≡ false = ap r.down (omega arith) ∙ other in
          let second : r.down (2 * link_of e + 1) ≡ false = ap r.down (sym q) ∙ near in
          rw (first, second)

module _ (n : Network) where
  pub port-forwards : (y d l : ℕ) → forwarding_port n y d ≡ Some l → (e : ℕ) × ForwardsBy n y d l e
  unfolding forwarding_port forwarding_verdict
  port-forwards y d l e = open-forwards _ _ _ _ y d l e

  -- the bridge across the link is the far one of the end
  across-by : InRange n.plan.graph → (y d l e : ℕ) → ForwardsBy n y d l e → across n.plan.graph l y ≡ far n e
  across-by range y d l e by = rw (← by.link) (across-far n.plan.graph range e y by.chosen.listed by.chosen.reaches.own)

  -- a distance that is not NONE is below it
  pub below_none : (y d : ℕ) → (own_distance n y d ≡ NONE → ⊥) → own_distance n y d < NONE
  unfolding own_distance
  below_none y d some = omega (arith, dist-le-none n.plan.graph (n.plan.costs (n.view y)) y d)

  -- a frame crosses a link only by the forwarding port, and where the link is live
  pub hop-crosses : (d y l z : ℕ) → Crosses n d y l z → (forwarding_port n y d ≡ Some l) × (is_live n.records l ≡ true) × (across n.plan.graph l y ≡ z)
  unfolding hop hop_by
  hop-crosses d y l z = go (forwarding_port n y d) refl
    where
      live : (k : ℕ) (b : Bool) → cond b (crosses k (across n.plan.graph k y)) stays ≡ crosses l z → (k ≡ l) × (b ≡ true) × (across n.plan.graph k y ≡ z)
      live k true c = (cc, refl, cc)
      live k false c = absurd (stays-crosses l z c)

      go : (p : Port) → forwarding_port n y d ≡ p → hop_by n.plan.graph n.records y p ≡ crosses l z → (forwarding_port n y d ≡ Some l) × (is_live n.records l ≡ true) × (across n.plan.graph l y ≡ z)
      go None e c = absurd (stays-crosses l z c)
      go (Some k) e c =
          let parts = live k (is_live n.records k) c in
          rw (← parts.0) (e, parts.1, parts.2)

  module _ (range : InRange n.plan.graph) where
    -- the end by which it crosses, and the bridge that it comes to
    pub hop-end : (d y l z : ℕ) → Crosses n d y l z → (e : ℕ) × CrossesBy n d y l z e
    hop-end d y l z c =
        let crossed = hop-crosses d y l z c in
        let by = port-forwards y d l crossed.0 in
        let up = live-ends n.records by.0 (rw by.1.link crossed.1) in (
          by.0,
          record {
            forwards = by.1;
            near_up = up.0;
            far_up = up.1;
            arrives = sym (across-by range y d l by.0 by.1) ∙ crossed.2;
          },
        )

    -- where the port is open on the link of end e, which is at y, and both ends are up, the frame crosses it
    pub hop-open : (d y e : ℕ) → forwarding_port n y d ≡ Some (link_of e) → e < 2 * n.plan.graph.links → n.plan.graph.bridge_at e ≡ y → UpAt n.records e → UpAt n.records (opposite e) → Crosses n d y (link_of e) (far n e)
    unfolding hop hop_by
    hop-open d y e opens listed own near other =
        rw (opens, ends-live n.records e near other) (ap (crosses (link_of e)) (across-far n.plan.graph range e y listed own))

    pub hop-in-range : (d y l z : ℕ) → Crosses n d y l z → z < n.plan.graph.bridges
    hop-in-range d y l z c =
        let by = hop-end d y l z c in
        let listed : opposite by.0 < 2 * n.plan.graph.links = opposite-below by.0 n.plan.graph.links by.1.forwards.chosen.listed in
        rw by.1.arrives at (bridge-in-range n.plan.graph range (opposite by.0) listed)

    -- and the one that it comes from
    pub hop-from : (d y l z : ℕ) → Crosses n d y l z → y < n.plan.graph.bridges
    hop-from d y l z c =
        let by = hop-end d y l z c in
        rw by.1.forwards.chosen.reaches.own at (bridge-in-range n.plan.graph range by.0 by.1.forwards.chosen.listed)
