-- Demand 3's last sentence: after two fresh rounds in view t every bridge with a path forwards, its path is delivered, and the costs of
-- the links that it crosses add up to its distance. Assumes nothing.
use Prim.Native.Nat.{ℕ, zero, suc, ◌+◌, ◌-◌, ◌*◌, ◌<◌}
use native.Mathlib.Omega.{arith}
use mathlib.Core.Path.{◌≡◌, refl, sym, ap, ◌∙◌, subst}
use mathlib.Core.Logic.{◌⊎◌, inl, inr}
use mathlib.Core.Bool.{Bool, true, false, cond, false≢true}
use mathlib.Core.List.{List, [], ◌++◌}
use lib.Dec.{eqb}
use borrow.Author.Tests.{eqb-true, eqb-false}
use Rattle.distances.specs.View.{NONE}
use Rattle.distances.specs.Meaning.{total}
use Rattle.distances.proofs.Laws.{dist-self, dist-le-none, next-hop, joins-bridge}
use Rattle.distances.proofs.Paths.{total-none, total-more}
use Rattle.distances.proofs.Ranges.{each-end}
use Rattle.agreement.specs.Offer.{link_of, opposite, far_bridge}
use Rattle.agreement.specs.Forwarding.{UpAt, DownAt}
use Rattle.agreement.proofs.Ends.{opposite-below, bridge-in-range}
use Rattle.protocol.specs.Net.{Network, Plan, PlanInRange, fresh, distance_in}
use Rattle.protocol.specs.Calls.{Call, run}
use Rattle.protocol.specs.Ports.{hop}
use Rattle.protocol.specs.Paths.{delivered, stops, follow, onward, path, follow_links, onward_links, links_crossed, EndsByItself}
use Rattle.protocol.specs.Rounds.{has_no_change}
use Rattle.protocol.specs.Demand3.{Uncut, Cut, Settling, Settled}
use Rattle.protocol.proofs.Invariant.{Invariant}
use Rattle.protocol.proofs.Runs.{run-append, plan_run, parts-allowed, fixed-run}
use Rattle.protocol.proofs.Steps.{invariant-run}
use Rattle.protocol.proofs.Hops.{stays-crosses}
use Rattle.protocol.proofs.PathEnds.{path-ends}
use Rattle.protocol.proofs.Deliveries.{InformedAt, ClearedAt, OneView}
use Rattle.protocol.proofs.RoundLaws.{one_view-run, round-told}
use Rattle.protocol.proofs.AfterRounds.{Ready, ForwardsOver, chosen_in, forwards}

-- an end that is up, and so before the calls too
abbrev Up : Network → ℕ → Type 0
Up n e = (e < 2 * n.plan.graph.links) × UpAt n.records e

up-before : (n : Network) (cs : List Call) → has_no_change n cs ≡ true → (e : ℕ) → Up (run n cs) e → Up n e
up-before n cs h e = fixed-run (λ p v k down. (e < 2 * p.graph.links) × (down e ≡ false) → Up n e) n cs h (λ u. u)

-- where every link is uncut or cut, and the cut ones have no cost: an end is up where the opposite one is, and the link of one that is down has
-- no cost
abbrev Paired : Plan → (ℕ → ℕ) → (ℕ → ℕ) → (ℕ → Bool) → Type 0
Paired p v k down = (e : ℕ) → e < 2 * p.graph.links → down e ≡ false → down (opposite e) ≡ false

abbrev Absent : ℕ → Plan → (ℕ → ℕ) → (ℕ → ℕ) → (ℕ → Bool) → Type 0
Absent t p v k down = (e : ℕ) → e < 2 * p.graph.links → down e ≡ true → p.costs t (link_of e) ≡ 0

module _ (n : Network) (t : ℕ) (each : (l : ℕ) → l < n.plan.graph.links → Uncut n l ⊎ Cut n l) (absent : (l : ℕ) → l < n.plan.graph.links → Cut n l → n.plan.costs t l ≡ 0) where
  paired_by : (e : ℕ) → e < 2 * n.plan.graph.links → UpAt n.records e → UpAt n.records (opposite e)
  paired_by = each-end (λ e. UpAt n.records e → UpAt n.records (opposite e)) n.plan.graph.links (λ l h. go l (each l h))
    where
      go : (l : ℕ) → Uncut n l ⊎ Cut n l → (UpAt n.records (2 * l) → UpAt n.records (opposite (2 * l))) × (UpAt n.records (2 * l + 1) → UpAt n.records (opposite (2 * l + 1)))
      go l (inl up) = (λ q. ap n.records.down (omega arith) ∙ up.1, λ q. ap n.records.down (omega arith) ∙ up.0)
      go l (inr down) = (λ q. absurd (false≢true (sym q ∙ down.0)), λ q. absurd (false≢true (sym q ∙ down.1)))

  absent_by : (e : ℕ) → e < 2 * n.plan.graph.links → DownAt n.records e → n.plan.costs t (link_of e) ≡ 0
  absent_by = each-end (λ e. DownAt n.records e → n.plan.costs t (link_of e) ≡ 0) n.plan.graph.links (λ l h. go l h (each l h))
    where
      go : (l : ℕ) → l < n.plan.graph.links → Uncut n l ⊎ Cut n l → (DownAt n.records (2 * l) → n.plan.costs t (link_of (2 * l)) ≡ 0) × (DownAt n.records (2 * l + 1) → n.plan.costs t (link_of (2 * l + 1)) ≡ 0)
      go l h (inl up) = (λ q. absurd (false≢true (sym up.0 ∙ q)), λ q. absurd (false≢true (sym up.1 ∙ q)))
      go l h (inr down) = (λ q. ap (n.plan.costs t) (omega arith) ∙ absent l h down, λ q. ap (n.plan.costs t) (omega arith) ∙ absent l h down)

-- two rounds make a network ready
module _ (n : Network) (t : ℕ) (xs ys : List Call) (invariant : Invariant n) (s : Settling n t xs ys) where
  first : has_no_change n xs ≡ true
  first = (parts-allowed n xs ys s.no_change).0

  second : has_no_change (run n xs) ys ≡ true
  second = (parts-allowed n xs ys s.no_change).1

  one_view : OneView n t
  one_view = record { invariant = invariant; on_view = s.on_view }

  paired : (e : ℕ) → e < 2 * n.plan.graph.links → UpAt n.records e → UpAt n.records (opposite e)
  paired = paired_by n t s.uncut_or_cut s.cut_absent

  paired-first : (e : ℕ) → e < 2 * (run n xs).plan.graph.links → UpAt (run n xs).records e → UpAt (run n xs).records (opposite e)
  paired-first = fixed-run Paired n xs first paired

  told-first : (e : ℕ) → Up (run n xs) e → InformedAt (run n xs) t e
  told-first e u =
      let v : Up n e = up-before n xs first e u in
      (round-told t n xs e first one_view s.first_round v.0 (paired e v.0 v.1)).0

  heard-second : (e : ℕ) → Up (run (run n xs) ys) e → InformedAt (run (run n xs) ys) t e × ClearedAt (run (run n xs) ys) t e
  heard-second e u =
      let v : Up (run n xs) e = up-before (run n xs) ys second e u in
      let other : UpAt (run n xs).records (opposite e) = paired-first e v.0 v.1 in
      let done = round-told t (run n xs) ys e second (one_view-run t n xs first one_view) s.second_round v.0 other in
      (done.0, done.1 (told-first (opposite e) (opposite-below e (run n xs).plan.graph.links v.0, other)))

  two-rounds : Ready (run n (xs ++ ys)) t
  two-rounds =
      rw run-append
      (record {
        one_view = one_view-run t (run n xs) ys second (one_view-run t n xs first one_view);
        paired = fixed-run Paired (run n xs) ys second paired-first;
        down_absent = fixed-run (Absent t) (run n xs) ys second (fixed-run (Absent t) n xs first (absent_by n t s.uncut_or_cut s.cut_absent));
        told = λ e h up. (heard-second e (h, up)).0;
        cleared = λ e h up. (heard-second e (h, up)).1;
      })

-- from y with h hops behind it, over at most `left` links more, the frame for d is delivered, and the costs add up
abbrev Arrives : Network → ℕ → ℕ → ℕ → ℕ → ℕ → Type 0
Arrives n t d left h y =
    ((k : ℕ) × (onward (hop n d) d left h y ≡ delivered k)) × (total (n.plan.costs t) (onward_links (hop n d) d left y) ≡ distance_in n.plan t y d)

-- in a ready network a path that ends by itself is delivered, and crosses links whose costs add up to the distance
module _ (n : Network) (t : ℕ) (ready : Ready n t) (d : ℕ) where
  own-distance : (y : ℕ) → y ≡ d → 0 ≡ distance_in n.plan t y d
  own-distance y e = rw e (sym (dist-self n.plan.graph (n.plan.costs t) d))

  -- y forwards, and the bridge that it forwards to has a path too
  module _ (y : ℕ) (there : y < n.plan.graph.bridges) (away : y ≡ d → ⊥) (reachable : distance_in n.plan t y d ≡ NONE → ⊥) where
    on : ForwardsOver n t y d (chosen_in n t y d)
    on = forwards n t ready y d there away reachable

    abbrev next : ℕ
    next = far_bridge n.plan.graph (chosen_in n t y d)

    next-there : next < n.plan.graph.bridges
    next-there =
        bridge-in-range n.plan.graph ready.one_view.invariant.1.plan.graph (opposite (chosen_in n t y d))
        (opposite-below (chosen_in n t y d) n.plan.graph.links on.by.chosen.listed)

    next-reachable : distance_in n.plan t next d ≡ NONE → ⊥
    next-reachable q =
        omega (arith, on.by.chosen.reaches.sum, on.by.chosen.reaches.present, dist-le-none n.plan.graph (n.plan.costs t) y d)

  arrival : (left h y : ℕ) → y < n.plan.graph.bridges → (distance_in n.plan t y d ≡ NONE → ⊥) → EndsByItself n d (onward (hop n d) d left h y) → Arrives n t d left h y
  unfolding onward onward_links follow follow_links
  arrival zero h y there reachable ends = go (eqb y d) refl ends
    where
      go : (b : Bool) → eqb y d ≡ b → EndsByItself n d (cond b (delivered h) (stops y h)) → ((k : ℕ) × (cond b (delivered h) (stops y h) ≡ delivered k)) × (total (n.plan.costs t) [] ≡ distance_in n.plan t y d)
      go true q ends = ((h, refl), total-none _ ∙ own-distance y (eqb-true y d q))
      go false q ends = absurd (stays-crosses _ _ (sym ends ∙ (on y there (eqb-false y d q) reachable).hops))
  arrival (suc left) h y there reachable ends = go (eqb y d) refl ends (arrival left (suc h))
    where
      Later : Type 0
      Later = (z : ℕ) → z < n.plan.graph.bridges → (distance_in n.plan t z d ≡ NONE → ⊥) → EndsByItself n d (onward (hop n d) d left (suc h) z) → Arrives n t d left (suc h) z

      go : (b : Bool) → eqb y d ≡ b → EndsByItself n d (cond b (delivered h) (follow y h (onward (hop n d) d left (suc h)) (hop n d y))) → Later → ((k : ℕ) × (cond b (delivered h) (follow y h (onward (hop n d) d left (suc h)) (hop n d y)) ≡ delivered k)) × (total (n.plan.costs t) (cond b [] (follow_links (onward_links (hop n d) d left) (hop n d y))) ≡ distance_in n.plan t y d)
      go true q ends later = ((h, refl), total-none _ ∙ own-distance y (eqb-true y d q))
      go false q ends later =
          let away : y ≡ d → ⊥ = eqb-false y d q in
          let by : ForwardsOver n t y d (chosen_in n t y d) = on y there away reachable in
          let rest : Arrives n t d left (suc h) (next y there away reachable) = later _ (next-there y there away reachable) (next-reachable y there away reachable) (rw by.hops at ends) in
          rw by.hops
          (rest.0, total-more _ _ _ ∙ ap (λ (x : ℕ). n.plan.costs t (link_of (chosen_in n t y d)) + x) rest.1 ∙ by.by.chosen.reaches.sum)

ready-settled : (n : Network) (t : ℕ) → Ready n t → (y d : ℕ) → y < n.plan.graph.bridges → (y ≡ d → ⊥) → (distance_in n.plan t y d ≡ NONE → ⊥) → Settled n t y d
unfolding path links_crossed
ready-settled n t ready y d there away reachable =
    let all : Arrives n t d (n.plan.graph.bridges - 1) 0 y = arrival n t ready d (n.plan.graph.bridges - 1) 0 y there reachable (path-ends n ready.one_view.invariant y d) in
    record {
      forwards = (link_of (chosen_in n t y d), (forwards n t ready y d there away reachable).opens);
      arrives = all.0;
      shortest = all.1;
    }

-- from any network of which the invariant holds
settles-from : (n : Network) (t : ℕ) (xs ys : List Call) → Invariant n → Settling n t xs ys → (y d : ℕ) → y < n.plan.graph.bridges → (y ≡ d → ⊥) → (distance_in n.plan t y d ≡ NONE → ⊥) → Settled (run n (xs ++ ys)) t y d
settles-from n t xs ys invariant s y d there away reachable =
    let same : (run n (xs ++ ys)).plan ≡ n.plan = plan_run n (xs ++ ys) in
    ready-settled (run n (xs ++ ys)) t (two-rounds n t xs ys invariant s) y d (rw same there) away (rw same reachable)

-- from any point of a list of calls
pub settles : (p : Plan) → PlanInRange p → (cs ks xs ys : List Call) (t : ℕ) → cs ≡ ks ++ (xs ++ ys) → Settling (run (fresh p) ks) t xs ys → (y d : ℕ) → (y ≡ d → ⊥) → (distance_in (run (fresh p) cs).plan t y d ≡ NONE → ⊥) → Settled (run (fresh p) cs) t y d
unfolding fresh
settles p in_range cs ks xs ys t split s y d away some =
    let same : (run (fresh p) ks).plan ≡ p = plan_run (fresh p) ks in
    let reachable : distance_in p t y d ≡ NONE → ⊥ = subst (λ (q : Plan). distance_in q t y d ≡ NONE → ⊥) (plan_run (fresh p) cs) some in
    -- what has a path to another bridge is a bridge
    let there : y < p.graph.bridges = joins-bridge in_range.graph (next-hop p.graph (p.costs t) in_range.graph y d away reachable).2 in
    rw (split, run-append)
    (settles-from (run (fresh p) ks) t xs ys (invariant-run p in_range ks) s y d (rw same there) away (rw same reachable))
