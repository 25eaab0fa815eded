-- Verdicts, ports, distances and paths in a state are those of the network that stands in it. Assumes nothing.
use Prim.Native.Nat.{ℕ, zero, suc, ◌+◌, ◌*◌, ◌-◌, ◌≤◌, ◌<◌}
use native.Mathlib.Omega.{arith}
use mathlib.Core.Path.{◌≡◌, refl, sym, ◌∙◌, ap}
use mathlib.Core.Bool.{cond}
use lib.ListN.{length, get_or}
use lib.Dec.{eqb}
use Rattle.distances.specs.View.{InRange}
use Rattle.distances.specs.Table.{cell}
use Rattle.agreement.specs.Offer.{link_of}
use Rattle.agreement.specs.Forwarding.{is_up, port_of}
use Rattle.agreement.specs.Forwarding.{Port}
use Rattle.std.specs.Prelude.{None, Some}
use Rattle.agreement.proofs.PortCong.{verdict-cong}
use Rattle.protocol.specs.Net.{Network, Plan}
use Rattle.protocol.specs.Ports.{Hop, stays, crosses, is_live, hop, own_distance}
use Rattle.protocol.specs.Ports as ports
use Rattle.protocol.specs.Paths.{delivered, follow, onward, path}
use Rattle.bench.specs.State.{State, network}
use Rattle.bench.specs.Private.Views.{lent_view}
use Rattle.bench.specs.Private.Answers.{verdict_in, port_in, hop_in}
use Rattle.bench.proofs.Represents.{Represents}
use Rattle.protocol.proofs.Links.{across-below}
use Rattle.protocol.proofs.Hops.{port-forwards, hop-crosses}
use Rattle.bench.proofs.TieRanges.{StateReady, told, network-ready, few, plan-in-range, lent-distances}
use Rattle.bench.proofs.ChoiceSteps.{verdict-in}

-- ---- hops that agree at the bridges that there are, and lead from one of them to another, make the same way

module _
    (next other : ℕ → Hop)
    (d bridges : ℕ)
    (same : (y : ℕ) → y < bridges → next y ≡ other y)
    (leads : (y l z : ℕ) → y < bridges → other y ≡ crosses l z → z < bridges) where
  onward-same : (left h y : ℕ) → y < bridges → onward next d left h y ≡ onward other d left h y
  unfolding onward follow
  onward-same zero h y low = refl
  onward-same (suc left) h y low = rw (same y low) (ap (cond (eqb y d) (delivered h)) (go (other y) refl (onward-same left (suc h))))
    where
      go :
          (x : Hop) →
          other y ≡ x →
          ((z : ℕ) → z < bridges → onward next d left (suc h) z ≡ onward other d left (suc h) z) →
          follow y h (onward next d left (suc h)) x ≡ follow y h (onward other d left (suc h)) x
      go stays e on = refl
      go (crosses l z) e on = on z (leads y l z low e)

module _ (s : State) (n : Network) (r : Represents s n) where
  inside : StateReady s
  inside = told s r.in_range

  small : (s.bench.bridges ≤ 16) × (s.bench.links ≤ 32) × (2 * s.bench.links ≤ length s.bench.ends)
  small = few s.bench s.costs inside.lasting

  graph-inside : InRange (network s).plan.graph
  graph-inside = (plan-in-range s.bench s.costs inside.lasting).graph

  -- ---- port

  module _ (y d : ℕ) (hy : y < s.bench.bridges) (hd : d < s.bench.bridges) where
    abbrev view_of : ℕ
    view_of = get_or s.bench.view y 0

    is_view : view_of < s.bench.views
    is_view = inside.view y hy

    pub verdict-same : verdict_in s y d ≡ ports.forwarding_verdict n y d
    unfolding ports.forwarding_verdict
    verdict-same =
        verdict-in s (network-ready s inside) y d hy hd
        ∙ rw (r.plan, r.view y hy)
        (verdict-cong (network s).plan.graph _ _ _ _ _ _ graph-inside y d hy
        (record {
          distances = λ i hi. lent-distances s.bench s.costs inside.lasting view_of is_view i d hi hd;
          costs = λ l hl. refl;
          down = λ e he. sym (r.down e he);
          ends = λ e he. sym (r.ends e he);
          sent = λ e he. sym (r.sent e d he hd);
          held = λ e he. sym (r.held e d he hd);
        }))

    pub port-same : port_in s y d ≡ ports.forwarding_port n y d
    unfolding ports.forwarding_port
    port-same = ap port_of verdict-same

  -- ---- distance

  pub own-distance :
      (y d : ℕ) →
      y < s.bench.bridges →
      d < s.bench.bridges →
      cell (lent_view s.bench s.costs (get_or s.bench.view y 0)).table y d ≡ own_distance n y d
  unfolding own_distance
  own-distance y d hy hd =
      let inside = told s r.in_range in
      rw (r.view y hy, r.plan) (lent-distances s.bench s.costs inside.lasting (get_or s.bench.view y 0) (inside.view y hy) y d hy hd)

  -- ---- path

  -- a port is open on a link that there is, and a link is live in the one where it is in the other
  port-link : (y d l : ℕ) → ports.forwarding_port n y d ≡ Some l → l < s.bench.links
  port-link y d l e =
      let by = port-forwards n y d l e in
      rw r.plan at (links by.0 by.1.chosen.listed by.1.link)
    where
      links : (e : ℕ) → e < 2 * n.plan.graph.links → link_of e ≡ l → l < n.plan.graph.links
      links e h q = omega arith

  live_same : (l : ℕ) → l < s.bench.links → is_live (network s).records l ≡ is_live n.records l
  unfolding is_live is_up
  live_same l h = rw (r.down (2 * l) (omega arith), r.down (2 * l + 1) (omega arith))

  hop-same : (d : ℕ) → d < s.bench.bridges → (y : ℕ) → y < s.bench.bridges → hop_in s d y ≡ hop n d y
  unfolding hop_in hop ports.hop_by
  hop-same d hd y hy = rw (port-same y d hy hd) (go (ports.forwarding_port n y d) refl)
    where
      go : (p : Port) → ports.forwarding_port n y d ≡ p → ports.hop_by (network s).plan.graph (network s).records y p ≡ ports.hop_by n.plan.graph n.records y p
      go None e = refl
      go (Some l) e = rw (live_same l (port-link y d l e), r.plan)

  hop-below : (d y l z : ℕ) → y < s.bench.bridges → hop n d y ≡ crosses l z → z < s.bench.bridges
  hop-below d y l z hy e =
      let crossed = hop-crosses n d y l z e in
      let low : l < n.plan.graph.links = rw r.plan (port-link y d l crossed.0) in
      rw (crossed.2, r.plan) at (across-below n.plan.graph (rw r.plan graph-inside) l y low)

  pub path-same : (y d : ℕ) → y < s.bench.bridges → d < s.bench.bridges → onward (hop_in s d) d (s.bench.bridges - 1) 0 y ≡ path n y d
  unfolding path
  path-same y d hy hd =
      onward-same (hop_in s d) (hop n d) d s.bench.bridges (hop-same d hd) (hop-below d) (s.bench.bridges - 1) 0 y hy
      ∙ ap (λ (p : Plan). onward (hop n d) d (p.graph.bridges - 1) 0 y) (sym r.plan)
