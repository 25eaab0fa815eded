-- A network after two rounds: all bridges are on view t, an end is up where the opposite one is, and every end that is up is told and cleared.
-- There every bridge
-- with a path forwards to a bridge that is nearer by the link's cost. Assumes nothing.
use Rattle.std.specs.Prelude.{Some}
use Prim.Native.Nat.{ℕ, ◌+◌, ◌*◌, ◌<◌, ◌≤◌}
use native.Mathlib.Omega.{arith}
use mathlib.Core.Path.{◌≡◌, refl, ap, ◌∙◌}
use mathlib.Core.Bool.{Bool, true, false}
use Rattle.distances.specs.View.{Graph, Costs, NONE, InRange}
use Rattle.distances.specs.Distance.{dist}
use Rattle.distances.proofs.Laws.{next-hop, dist-le-none}
use Rattle.agreement.specs.Offer.{link_of, opposite, far_bridge}
use Rattle.agreement.specs.Record.{held_limit}
use Rattle.agreement.specs.Forwarding.{UpAt, DownAt, chosen_end}
use Rattle.agreement.proofs.Ends.{opposite-opposite, link_of-opposite, offer-given, offer-above}
use Rattle.agreement.specs.Rule.{Reaches, IsChosen, Forwards}
use Rattle.agreement.proofs.Forwards.{chosen-exists, chosen_is, link-reaches, forwards-open}
use Rattle.protocol.specs.Net.{Network, distance_in}
use Rattle.protocol.specs.Ports.{forwarding_verdict, forwarding_port, Crosses}
use Rattle.protocol.proofs.Hops.{hop-open}
use Rattle.protocol.proofs.Deliveries.{InformedAt, ClearedAt, OneView}

pub record Ready (n : Network) (t : ℕ) : Type 0 where
  pub one_view : OneView n t
  pub paired : (e : ℕ) → e < 2 * n.plan.graph.links → UpAt n.records e → UpAt n.records (opposite e)
  pub down_absent : (e : ℕ) → e < 2 * n.plan.graph.links → DownAt n.records e → n.plan.costs t (link_of e) ≡ 0
  pub told : (e : ℕ) → e < 2 * n.plan.graph.links → UpAt n.records e → InformedAt n t e
  pub cleared : (e : ℕ) → e < 2 * n.plan.graph.links → UpAt n.records e → ClearedAt n t e

-- bridge y forwards for d over the link of end e, by what t says
pub record ForwardsOver (n : Network) (t y d e : ℕ) : Type 0 where
  pub by : Forwards n.plan.graph (n.plan.costs t) (distance_in n.plan t) n.records y d (link_of e) e
  pub opens : forwarding_port n y d ≡ Some (link_of e)
  pub hops : Crosses n d y (link_of e) (far_bridge n.plan.graph e)

-- the end that bridge y chooses for d in t
abbrev pub chosen_in : Network → ℕ → ℕ → ℕ → ℕ
chosen_in n t y d = chosen_end n.plan.graph (n.plan.costs t) (distance_in n.plan t) y d

module _ (n : Network) (t : ℕ) (ready : Ready n t) (y d : ℕ) (near : distance_in n.plan t y d < NONE) where
  -- a link that reaches the distance is up at its end, and what is held over it suffices
  link_up : (e : ℕ) → e < 2 * n.plan.graph.links → Reaches n.plan.graph (n.plan.costs t) (distance_in n.plan t) y d e → UpAt n.records e
  link_up e h r = go (n.records.down e) refl
    where
      go : (b : Bool) → n.records.down e ≡ b → n.records.down e ≡ false
      go true q = absurd (r.present (ready.down_absent e h q))
      go false q = q

  held-suffices : (e : ℕ) → e < 2 * n.plan.graph.links → Reaches n.plan.graph (n.plan.costs t) (distance_in n.plan t) y d e → held_limit (n.records.ends e) (n.records.held e) d ≤ distance_in n.plan t y d
  held-suffices e h r =
      let g : Graph = n.plan.graph in
      let c : Costs = n.plan.costs t in
      let f : ℕ → ℕ → ℕ = distance_in n.plan t in
      let told : InformedAt n t e = ready.told e h (link_up e h r) in
      let cost : c (link_of (opposite e)) ≡ 0 → ⊥ = rw link_of-opposite r.present in
      let back : far_bridge g (opposite e) ≡ y = ap g.bridge_at (opposite-opposite e) ∙ r.own in
      let nearer : f (g.bridge_at (opposite e)) d < f (far_bridge g (opposite e)) d = rw back (omega (arith, r.sum, r.present)) in
      let same : held_limit (n.records.ends e) (n.records.held e) d ≡ f y d =
      rw told.holding (told.row d) ∙ offer-given g c f (opposite e) d cost nearer ∙ ap (λ (l : ℕ). c l + f (far_bridge g e) d) (link_of-opposite e) ∙ r.sum in
      omega (arith, same)

  -- every sent limit of the bridge over a link that is up at its end is above its distance
  sent-allows : (e : ℕ) → e < 2 * n.plan.graph.links → n.plan.graph.bridge_at e ≡ y → UpAt n.records e → distance_in n.plan t y d < n.records.sent e d
  sent-allows e h own up =
      rw (ready.cleared e h up d)
      (rw own at (offer-above n.plan.graph (n.plan.costs t) (distance_in n.plan t) e d (rw own near)))

  -- where some end reaches the distance and d is another bridge, y forwards
  forwards-by : (e : ℕ) → y < n.plan.graph.bridges → (y ≡ d → ⊥) → e < 2 * n.plan.graph.links → Reaches n.plan.graph (n.plan.costs t) (distance_in n.plan t) y d e → ForwardsOver n t y d (chosen_in n t y d)
  unfolding forwarding_port forwarding_verdict
  forwards-by e there away h r =
      let g : Graph = n.plan.graph in
      let c : Costs = n.plan.costs t in
      let f : ℕ → ℕ → ℕ = distance_in n.plan t in
      let k : ℕ = chosen_in n t y d in
      let range : InRange g = ready.one_view.invariant.1.plan.graph in
      let chosen : IsChosen g c f y d k = chosen_is g c f y d (chosen-exists g c f y d e h r) in
      let by : Forwards g c f n.records y d (link_of k) k =
      record {
        chosen = chosen;
        link = refl;
        allowed =
            record {
              not_destination = away;
              has_path = λ z. absurd (omega arith);
              up = link_up k chosen.listed chosen.reaches;
              held = held-suffices k chosen.listed chosen.reaches;
              sent = sent-allows;
            };
      } in
      let up : UpAt n.records k = by.allowed.up in
      let opens : forwarding_port n y d ≡ Some (link_of k) = rw (ready.one_view.on_view y there) (forwards-open g c f n.records y d range.differ (omega arith) by) in
      record {
        by = by;
        opens = opens;
        hops = hop-open n range d y k opens chosen.listed chosen.reaches.own up (ready.paired k chosen.listed up);
      }

-- every bridge but the destination that has a path forwards
pub forwards : (n : Network) (t : ℕ) → Ready n t → (y d : ℕ) → y < n.plan.graph.bridges → (y ≡ d → ⊥) → (distance_in n.plan t y d ≡ NONE → ⊥) → ForwardsOver n t y d (chosen_in n t y d)
forwards n t ready y d there away reachable =
    let g : Graph = n.plan.graph in
    let c : Costs = n.plan.costs t in
    let next = next-hop g c ready.one_view.invariant.1.plan.graph y d away reachable in
    let at = link-reaches g c (dist g c) y d next.0 next.1 next.2 next.3 in
    forwards-by n t ready y d (omega (arith, dist-le-none g c y d, reachable)) at.0 there away at.1 at.2
