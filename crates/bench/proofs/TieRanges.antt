-- What the entry check of a whole state tells, part by part, and that the parts together pass it. A lent view's offers are the plan's.
-- Assumes nothing.
use Prim.Native.Nat.{ℕ, ◌+◌, ◌*◌, ◌≤◌, ◌<◌}
use native.Mathlib.Omega.{arith}
use mathlib.Core.Path.{◌≡◌, refl, sym}
use mathlib.Core.Bool.{Bool, true, false, cond}
use mathlib.Core.List.{List}
use borrow.Author.Tests.{leb-true, le-leb, ltb-true, lt-ltb, eqb-true, eqb-false}
use lib.ListN.{length, get_or, set, replicate, length-take, length-drop}
use lib.Seq.{get_or-take, get_or-drop, get_or-set_same, get_or-set_other}
use lib.Dec.{eqb, leb, ltb}
use Rattle.distances.specs.View.{graph_of, costs_of}
use Rattle.distances.specs.Distance.{dist}
use Rattle.distances.specs.Table.{cell, with_pairs}
use Rattle.distances.specs.Call.{in_range, graph_passes, costs_pass, all_below}
use Rattle.distances.proofs.Booleans.{both_true, true-both}
use Rattle.distances.proofs.Ranges.{all_below-true, true-all_below, counts, at_bridge, graph-in-range, costs-told, in-range-made}
use Rattle.distances.proofs.Outcomes.{distances-accepted}
use Rattle.distances.proofs.Tables.{with_pairs-length, cell-with_pairs}
use Rattle.agreement.specs.Record.{fresh_record}
use Rattle.agreement.specs.Ranges.{record_in_range}
use Rattle.agreement.specs.Call.{lent_in_range, lent_offer}
use Rattle.agreement.proofs.Offers.{offer-is}
use Rattle.agreement.proofs.InRange.{records-pass, records-told}
use Rattle.protocol.specs.Net.{Network, PlanInRange, distance_in, offer_in}
use Rattle.bench.specs.State.{State, part}
use Rattle.bench.specs.Private.Views.{lent_view, distance_table}
use Rattle.bench.specs.Ranges.{graph_in_range, bench_in_range, costs_in_range, limits_long, message_in_range, messages_in_range, parts_in_range}
use Rattle.bench.specs.Ranges.{network_in_range}
use Rattle.bench.specs.Ranges.{state_in_range}
use Rattle.bench.proofs.Represents.{Represents}
use Rattle.bench.specs.Private.Views.{plan_in}
use Rattle.bench.specs.declared.Bench.{Bench}

-- ---- lists: one place stored, and parts

pub get_d-stored {ℓ} : {A : Type ℓ} (l : List A) (p : ℕ) (v : A) (q : ℕ) (d : A) → p < length l → get_or (set l p v) q d ≡ cond (eqb q p) v (get_or l q d)
get_d-stored {A} l p v q d h = go (eqb q p) refl
  where
    go : (b : Bool) → eqb q p ≡ b → get_or (set l p v) q d ≡ cond b v (get_or l q d)
    go true e = rw (eqb-true q p e) (get_or-set_same l p v d h)
    go false e = get_or-set_other l p q v d (eqb-false q p e)

pub part_at : (width k : ℕ) (l : List ℕ) (i : ℕ) → i < width → get_or (part width k l) i 0 ≡ get_or l (width * k + i) 0
part_at width k l i h = rw (get_or-take, get_or-drop)

pub part_length : (width k : ℕ) (l : List ℕ) → width * k + width ≤ length l → length (part width k l) ≡ width
part_length width k l h = simp (length-take, length-drop) (omega arith)

-- ---- what no call changes: the counts, the ends and the costs

pub record Lasting (bridges links views : ℕ) (ends costs : List ℕ) : Type 0 where
  pub views_least : 1 ≤ views
  pub views_most : views ≤ 32
  pub graph : graph_passes bridges links ends ≡ true
  pub costs_long : 1024 ≤ length costs
  pub each_view : (t : ℕ) → t < views → costs_pass links (part 32 t costs) ≡ true

abbrev pub LastingOf : Bench → List ℕ → Type 0
LastingOf b costs = Lasting b.bridges b.links b.views b.ends costs

module _ (b : Bench) (costs : List ℕ) where
  pub lasting-told : graph_in_range b ≡ true → costs_in_range b costs ≡ true → LastingOf b costs
  unfolding graph_in_range costs_in_range
  lasting-told graph long =
      let g = both_true (leb 1 b.views) _ graph in
      let h = both_true (leb b.views 32) _ g.1 in
      let c = both_true (leb 1024 (length costs)) _ long in
      record {
        views_least = leb-true 1 b.views g.0;
        views_most = leb-true b.views 32 h.0;
        graph = h.1;
        costs_long = leb-true 1024 (length costs) c.0;
        each_view = all_below-true b.views _ c.1;
      }

  module _ (l : LastingOf b costs) where
    pub graph-kept : graph_in_range b ≡ true
    unfolding graph_in_range
    graph-kept = true-both (le-leb _ _ l.views_least) (true-both (le-leb _ _ l.views_most) l.graph)

    pub costs-kept : costs_in_range b costs ≡ true
    unfolding costs_in_range
    costs-kept = true-both (le-leb _ _ l.costs_long) (true-all_below b.views _ l.each_view)

    pub few : (b.bridges ≤ 16) × (b.links ≤ 32) × (2 * b.links ≤ length b.ends)
    few = counts _ _ _ l.graph

    pub are-bridges : (e : ℕ) → e < 2 * b.links → get_or b.ends e 0 < b.bridges
    are-bridges = at_bridge _ _ _ l.graph

    pub plan-in-range : PlanInRange (plan_in b costs)
    plan-in-range =
        record {
          graph = graph-in-range _ _ _ l.graph;
          least = l.views_least;
          most = l.views_most;
          costs = λ t low. record { most = (costs-told _ _ (l.each_view t low)).1 };
        }

    module _ (t : ℕ) (low : t < b.views) where
      -- a view, as layer 1 asks it
      pub view-in-range : in_range b.bridges b.links b.ends (part 32 t costs) 256 ≡ true
      view-in-range = in-range-made _ _ _ _ _ l.graph (l.each_view t low) (omega arith)

      -- what layer 1 leaves in the view's table
      distances-are :
          (lent_view b costs t).table
          ≡ with_pairs b.bridges (dist (graph_of b.bridges b.links b.ends) (costs_of (part 32 t costs))) (replicate 256 0)
      unfolding distance_table
      distances-are = rw (distances-accepted b.bridges b.links b.ends (part 32 t costs) (replicate 256 0) view-in-range)

      distances-long : length (lent_view b costs t).table ≡ 256
      distances-long = rw distances-are (with_pairs-length b.bridges (replicate 256 0) _)

      pub lent-in-range : lent_in_range (lent_view b costs t) ≡ true
      lent-in-range = rw distances-long view-in-range

      -- its distances are the plan's
      pub lent-distances : (i j : ℕ) → i < b.bridges → j < b.bridges → cell (lent_view b costs t).table i j ≡ distance_in (plan_in b costs) t i j
      lent-distances i j hi hj = rw distances-are (cell-with_pairs b.bridges (replicate 256 0) _ i j few.0 (omega arith) hi hj)

      pub lent-offer-in :
          (e d : ℕ) →
          e < 2 * b.links →
          d < b.bridges →
          lent_offer (lent_view b costs t) e d ≡ offer_in (plan_in b costs) t e d
      lent-offer-in = offer-is (lent_view b costs t) lent-in-range lent-distances

-- ---- the whole check

pub record StateReady (s : State) : Type 0 where
  pub lasting : LastingOf s.bench s.costs
  pub sent_long : 1024 ≤ length s.sent
  pub held_long : 1024 ≤ length s.held
  pub count : s.bench.messages ≤ 64
  pub view : (y : ℕ) → y < s.bench.bridges → get_or s.bench.view y 0 < s.bench.views
  pub records : (e : ℕ) → e < 2 * s.bench.links → record_in_range s.bench.views (get_or s.bench.records e fresh_record) ≡ true
  pub messages_long : 320 ≤ length s.messages
  pub message : (p : ℕ) → p < s.bench.messages → message_in_range s.bench s.messages p ≡ true

module _ (s : State) where
  pub bench-ready : StateReady s → bench_in_range s.bench ≡ true
  unfolding bench_in_range
  bench-ready r =
      true-both (graph-kept _ _ r.lasting)
      (true-both (le-leb _ _ r.count)
      (true-both (true-all_below _ _ (λ y h. lt-ltb _ _ (r.view y h)))
      (records-pass _ _ _ (few s.bench s.costs r.lasting).1 r.records)))

  pub network-ready : StateReady s → network_in_range s ≡ true
  unfolding parts_in_range limits_long
  network-ready r =
      true-both (bench-ready r)
      (true-both (costs-kept _ _ r.lasting)
      (true-both (le-leb _ _ r.sent_long) (le-leb _ _ r.held_long)))

  pub messages-ready : StateReady s → messages_in_range s.bench s.messages ≡ true
  unfolding messages_in_range
  messages-ready r = true-both (le-leb _ _ r.messages_long) (true-all_below _ _ r.message)

  pub ready : StateReady s → state_in_range s ≡ true
  ready r = true-both (network-ready r) (messages-ready r)

  pub told : state_in_range s ≡ true → StateReady s
  unfolding parts_in_range bench_in_range limits_long messages_in_range
  told ok =
      let b = s.bench in
      let all = both_true (network_in_range s) _ ok in
      let bench = both_true (bench_in_range b) _ all.0 in
      let graph = both_true (graph_in_range b) _ bench.0 in
      let count = both_true (leb b.messages 64) _ graph.1 in
      let views = both_true (all_below b.bridges (λ y. ltb (get_or b.view y 0) b.views)) _ count.1 in
      let costs = both_true (costs_in_range b s.costs) _ bench.1 in
      let limits = both_true (leb 1024 (length s.sent)) _ costs.1 in
      let messages = both_true (leb 320 (length s.messages)) _ all.1 in
      record {
        lasting = lasting-told b s.costs graph.0 costs.0;
        sent_long = leb-true _ _ limits.0;
        held_long = leb-true _ _ limits.1;
        count = leb-true _ _ count.0;
        view = λ y h. ltb-true _ _ (all_below-true _ _ views.0 y h);
        records = (records-told b.views b.links b.records views.1).1;
        messages_long = leb-true _ _ messages.0;
        message = all_below-true _ _ messages.1;
      }

-- an offer in the network that stands in a state, as the lent view makes it
pub offer-stands :
    (s : State) (n : Network) →
    Represents s n →
    (t : ℕ) →
    t < s.bench.views →
    (e d : ℕ) →
    e < 2 * s.bench.links →
    d < s.bench.bridges →
    offer_in n.plan t e d ≡ lent_offer (lent_view s.bench s.costs t) e d
offer-stands s n r t low e d he hd =
    rw r.plan
    (sym (lent-offer-in s.bench s.costs (told s r.in_range).lasting t low e d he hd))
