-- The steps of the code that follows ports and reports them: the link of an open port, the bridge a hop leads to, one hop of a walk;
-- bridges that the table lets pass; the report, row by row. Assumes nothing.
use Prim.Native.Nat.{ℕ, zero, suc, ◌+◌, ◌-◌, ◌*◌, ◌≤◌, ◌<◌}
use native.Mathlib.Numerals.{add-one}
use native.Mathlib.Omega.{arith}
use mathlib.Core.Path.{◌≡◌, refl, sym}
use mathlib.Core.Bool.{Bool, true, false, cond}
use mathlib.Core.List.{List, ◌∷◌}
use borrow.Author.Tests.{eq-eqb, ne_eqb}
use lib.ListN.{get_or}
use lib.Dec.{eqb}
use Rattle.distances.specs.View.{Graph, graph_of, costs_of}
use Rattle.distances.specs.Table.{cell}
use Rattle.distances.proofs.Booleans.{below}
use Rattle.distances.proofs.Checks.{passed}
use Rattle.distances.proofs.Tables.{cell-block}
use Rattle.agreement.specs.Forwarding.{port_of}
use Rattle.agreement.specs.Call.{ViewData, lent_graph, lent_records, verdict_outcome}
use Rattle.agreement.specs.declared.EndRecord.{EndRecord}
use Rattle.agreement.specs.Forwarding.{Port}
use Rattle.std.specs.Prelude.{None, Some}
use Rattle.agreement.proofs.Forwards.{open-forwards}
use Rattle.agreement.proofs.Outcomes.{port_ready, verdict-accepted, verdict-refused}
use Rattle.protocol.specs.Net.{Network}
use Rattle.protocol.specs.Calls.{Check, refusal, no_such_bridge}
use Rattle.protocol.specs.Ports.{Hop, stays, crosses, across, is_live, hop_by}
use Rattle.protocol.specs.Paths.{delivered, stops, follow, onward}
use Rattle.bench.specs.State.{State, network, part}
use Rattle.bench.specs.Private.Views.{lent_view}
use Rattle.bench.specs.Private.Answers.{found, verdict_in, port_in, hop_in}
use Rattle.bench.specs.Private.Steps.{Ready}
use Rattle.bench.specs.declared.Bench.{Bench}

-- ---- the link of an open port is one of the links

outcome-link :
    (v : ViewData) (views : ℕ) (down : List Bool) (records : List EndRecord) (sent held : List ℕ) (y d l : ℕ) →
    port_of (found (verdict_outcome v views down records sent held y d).value) ≡ Some l →
    l < v.links
unfolding found
outcome-link v views down records sent held y d l o = go (port_ready v views down records sent held y d) refl
  where
    go : (ok : Bool) → port_ready v views down records sent held y d ≡ ok → l < v.links
    go true e =
        let opens = rw (verdict-accepted v views down records sent held y d e) at o in
        let by = open-forwards (lent_graph v) (costs_of v.costs) (cell v.table) (lent_records down records sent held) y d l opens in
        omega (arith, by.1.chosen.listed, by.1.link)
    go false e =
        let closed : None ≡ Some l = rw (verdict-refused v views down records sent held y d e) at o in
        absurd (let z : ◌≡◌ {A = ℕ} 0 1 = cc in omega arith)

pub open-link : (s : State) (y d l : ℕ) → port_in s y d ≡ Some l → l < s.bench.links
unfolding verdict_in
open-link s y d l =
    let b : Bench = s.bench in
    outcome-link (lent_view b s.costs (get_or b.view y 0)) b.views b.down b.records s.sent s.held y d l

-- ---- a hop leads to a bridge

across-below :
    (g : Graph) → ((e : ℕ) → e < 2 * g.links → g.bridge_at e < g.bridges) → (l y : ℕ) → l < g.links → across g l y < g.bridges
unfolding across
across-below g are l y h = go (eqb (g.bridge_at (2 * l)) y)
  where
    go : (t : Bool) → cond t (g.bridge_at (2 * l + 1)) (g.bridge_at (2 * l)) < g.bridges
    go true = are (2 * l + 1) (omega arith)
    go false = are (2 * l) (omega arith)

pub hop-leads :
    (s : State) →
    Ready s.bench s.costs →
    (d y l z : ℕ) →
    hop_in s d y ≡ crosses l z →
    z < s.bench.bridges
unfolding hop_in hop_by
hop-leads s ready d y l z = go (port_in s y d) refl
  where
    g : Graph
    g = graph_of s.bench.bridges s.bench.links s.bench.ends

    live : (k : ℕ) (t : Bool) → cond t (crosses k (across g k y)) stays ≡ crosses l z → across g k y ≡ z
    live k true e = cc
    live k false e = absurd (let o : ◌≡◌ {A = ℕ} 0 1 = cc in omega arith)

    go : (p : Port) → port_in s y d ≡ p → hop_by g (network s).records y p ≡ crosses l z → z < s.bench.bridges
    go None at e = absurd (let o : ◌≡◌ {A = ℕ} 0 1 = cc in omega arith)
    go (Some k) at e = rw (live k (is_live (network s).records k) e) at (across-below g ready.are_bridges k y (open-link s y d k at))

-- ---- a walk, hop by hop

module _ (next : ℕ → Hop) (d : ℕ) where
  pub onward-here : (left h y : ℕ) → y ≡ d → onward next d left h y ≡ delivered h
  unfolding onward
  onward-here zero h y e = rw (eq-eqb y d e)
  onward-here (suc left) h y e = rw (eq-eqb y d e)

  pub onward_stops : (left h y : ℕ) → (y ≡ d → ⊥) → next y ≡ stays → onward next d left h y ≡ stops y h
  unfolding onward follow
  onward_stops zero h y apart e = rw (ne_eqb y d apart)
  onward_stops (suc left) h y apart e = rw (ne_eqb y d apart, e)

  onward-crosses : (left h y l z : ℕ) → (y ≡ d → ⊥) → next y ≡ crosses l z → onward next d (suc left) h y ≡ onward next d left (suc h) z
  unfolding onward follow
  onward-crosses left h y l z apart e = rw (ne_eqb y d apart, e)

  -- at most `most` hops in all
  pub onward-more :
      (most h y l z : ℕ) →
      h < most →
      (y ≡ d → ⊥) →
      next y ≡ crosses l z →
      onward next d (most - h) h y ≡ onward next d (most - (h + 1)) (h + 1) z
  onward-more most h y l z low apart e =
      let left : most - h ≡ suc (most - (h + 1)) = omega arith in
      rw (left, add-one) (onward-crosses (most - suc h) h y l z apart e)

  pub onward-last : (most h y : ℕ) → most ≤ h → onward next d (most - h) h y ≡ cond (eqb y d) (delivered h) (stops y h)
  unfolding onward
  onward-last most h y past = let none : most - h ≡ 0 = omega arith in rw none

-- ---- a bridge that the table lets pass

pub bridge-listed : (n : Network) (y : ℕ) (cs : List Check) → refusal (no_such_bridge n y ∷ cs) ≡ 0 → y < n.plan.graph.bridges
unfolding no_such_bridge
bridge-listed n y cs e = below y n.plan.graph.bridges (passed (no_such_bridge n y) cs (omega arith) e).0

-- and two of them
pub bridges-listed :
    (n : Network) (y d : ℕ) (cs : List Check) →
    refusal (no_such_bridge n y ∷ no_such_bridge n d ∷ cs) ≡ 0 →
    (y < n.plan.graph.bridges) × (d < n.plan.graph.bridges)
unfolding no_such_bridge
bridges-listed n y d cs e =
    let rest = (passed (no_such_bridge n y) (no_such_bridge n d ∷ cs) (omega arith) e).1 in
    (bridge-listed n y (no_such_bridge n d ∷ cs) e, bridge-listed n d cs rest)

-- ---- the report, row by row

-- bridge y's distance, in the block of its view
pub own-cell : (t y d : ℕ) (tables : List ℕ) → y < 16 → d < 16 → get_or tables (256 * t + 16 * y + d) 0 ≡ cell (part 256 t tables) y d
own-cell t y d tables hy hd = sym (cell-block t y d tables hy hd)
