-- Demand 2 holds. Assumes nothing.
use Prim.Native.Nat.{ℕ, zero, suc, ◌+◌, ◌-◌}
use native.Mathlib.Omega.{arith}
use mathlib.Core.Path.{◌≡◌, refl, ◌∙◌, ap, subst}
use mathlib.Core.Logic.{◌⊎◌, inl, inr}
use mathlib.Core.Bool.{Bool, true, false, cond}
use mathlib.Core.List.{List}
use lib.Dec.{eqb}
use borrow.Author.Tests.{eqb-true, eqb-false}
use Rattle.distances.proofs.Laws.{dist-is-distance, dist-le-none}
use Rattle.agreement.specs.Offer.{link_of}
use Rattle.agreement.proofs.Forwards.{verdict-is-so, no-other-verdict, verdict-has-link, port-follows-rule}
use Rattle.protocol.specs.Net.{Network, Plan, PlanInRange, fresh}
use Rattle.protocol.specs.Calls.{Call, run}
use Rattle.protocol.specs.Ports.{Hop, stays, crosses, own_distance, forwarding_verdict, forwarding_port, hop, Crosses}
use Rattle.protocol.specs.Rings.{Trail, Trail.stay, Trail.cross}
use Rattle.protocol.specs.Paths.{PathResult, delivered, stops, follow, onward, path}
use Rattle.protocol.specs.Demand2.{NetworkInRange, CrossesBy, FollowsPorts, ByTheRule, Demand2}
use Rattle.protocol.proofs.Hops.{hop-end, hop-open}
use Rattle.protocol.proofs.Steps.{invariant-run}
use Rattle.protocol.proofs.LimitsKept.{limits-as-defined}

module _ (n : Network) (d : ℕ) where
  -- where a path from y ends that has h hops behind it and crosses at most `left` links more
  abbrev Ends : ℕ → ℕ → ℕ → PathResult → Type 0
  Ends left h y (delivered k) = (m : ℕ) × (k ≡ h + m) × Trail (Crosses n d) y m d
  Ends left h y (stops b k) = (m : ℕ) × (k ≡ h + m) × Trail (Crosses n d) y m b × (b ≡ d → ⊥) × ((hop n d b ≡ stays) ⊎ (m ≡ left))

  here : (h y : ℕ) → y ≡ d → (left : ℕ) → Ends left h y (delivered h)
  here h y e left = (0, omega arith, subst (Trail (Crosses n d) y 0) e stay)

  -- one hop before it
  further : (left h y l z : ℕ) → Crosses n d y l z → (p : PathResult) → Ends left (suc h) z p → Ends (suc left) h y p
  further left h y l z e (delivered k) w = (suc w.0, omega (arith, w.1), cross e w.2)
  further left h y l z e (stops b k) w = (suc w.0, omega (arith, w.1), cross e w.2, w.3, last w.4)
    where
      last : (hop n d b ≡ stays) ⊎ (w.0 ≡ left) → (hop n d b ≡ stays) ⊎ (suc w.0 ≡ suc left)
      last (inl x) = inl x
      last (inr x) = inr (omega arith)

  onward-ends : (left h y : ℕ) → Ends left h y (onward (hop n d) d left h y)
  unfolding onward follow
  onward-ends zero h y = go (eqb y d) refl
    where
      go : (b : Bool) → eqb y d ≡ b → Ends 0 h y (cond b (delivered h) (stops y h))
      go true e = here h y (eqb-true y d e) 0
      go false e = (0, omega arith, stay, eqb-false y d e, inr refl)
  onward-ends (suc left) h y = go (onward-ends left (suc h)) (eqb y d) (hop n d y) refl refl
    where
      go : ((z : ℕ) → Ends left (suc h) z (onward (hop n d) d left (suc h) z)) → (b : Bool) (p : Hop) → eqb y d ≡ b → hop n d y ≡ p →
          Ends (suc left) h y (cond b (delivered h) (follow y h (onward (hop n d) d left (suc h)) p))
      go rest true p e f = here h y (eqb-true y d e) (suc left)
      go rest false stays e f = (0, omega arith, stay, eqb-false y d e, inl f)
      go rest false (crosses l z) e f = further left h y l z f (onward (hop n d) d left (suc h) z) (rest z)

  follows-ports : (s : ℕ) → FollowsPorts n s d (path n s d)
  unfolding path
  follows-ports s = go (onward (hop n d) d (n.plan.graph.bridges - 1) 0 s) (onward-ends (n.plan.graph.bridges - 1) 0 s)
    where
      go : (p : PathResult) → Ends (n.plan.graph.bridges - 1) 0 s p → FollowsPorts n s d p
      go (delivered k) w = let same : k ≡ w.0 = omega (arith, w.1) in rw same w.2
      go (stops b k) w = let same : k ≡ w.0 = omega (arith, w.1) in rw same (w.2, w.3, w.4)

-- a frame crosses where the port forwards and both ends are up
crossed : (n : Network) → NetworkInRange n → (d y l z e : ℕ) → CrossesBy n d y l z e → Crosses n d y l z
unfolding forwarding_port forwarding_verdict
crossed n ok d y l z e by =
    let range = ok.plan.graph in
    let so = by.forwards in
    let opens = (port-follows-rule _ _ _ n.records y d).1 range.differ (dist-le-none _ _ y d) l (e, so) in
    rw (← so.link) (hop-open n range d y e (rw so.link opens) so.chosen.listed so.chosen.reaches.own by.near_up by.far_up ∙ ap (crosses (link_of e)) by.arrives)

by-the-rule : (n : Network) → NetworkInRange n → ByTheRule n
unfolding own_distance forwarding_port forwarding_verdict
by-the-rule n ok =
    record {
      distance = λ y d low. dist-is-distance _ _ ok.plan.graph (ok.plan.costs (n.view y) (ok.views y low)) y d;
      others = λ y z d low. dist-is-distance _ _ ok.plan.graph (ok.plan.costs (n.view y) (ok.views y low)) z d;
      opens = λ y d l e w. (port-follows-rule _ _ _ n.records y d).1 ok.plan.graph.differ (dist-le-none _ _ y d) l (e, w);
      forwards = λ y d. (port-follows-rule _ _ _ n.records y d).0;
      closed = λ y d. (port-follows-rule _ _ _ n.records y d).2;
      verdict = λ y d. verdict-is-so _ _ _ _ y d;
      no_other_verdict = λ y d. no-other-verdict _ ok.plan.graph.differ _ _ n.records y d (dist-le-none _ _ y d);
      has_link = λ y d. verdict-has-link _ _ ok.plan.graph n.records y d;
      crosses = hop-end n ok.plan.graph;
      crossed = crossed n ok;
      paths = λ s d. follows-ports n d s;
    }

in-range : (p : Plan) → PlanInRange p → (cs : List Call) → NetworkInRange (run (fresh p) cs)
in-range p ok cs =
    let inv = (invariant-run p ok cs).1 in
    record { plan = inv.plan; views = λ y low. rw (inv.present y low) (inv.is_view y _ low) }

pub demand2 : Demand2
demand2 = record { rule = by-the-rule; in_range = in-range; limits = limits-as-defined }
