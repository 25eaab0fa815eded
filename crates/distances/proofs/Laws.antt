-- The laws of the distance of two bridges in a view, for the layers above. Assumes nothing.
use Prim.Native.Nat.{ℕ, ◌+◌, ◌<◌, ◌≤◌}
use mathlib.Core.Path.{◌≡◌, refl, sym, ◌∙◌, subst}
use mathlib.Core.Logic.{◌⊎◌, inl, inr}
use mathlib.Core.List.{List}
use native.Mathlib.Decide.{ℕ_discrete}
use native.Mathlib.Omega.{arith}
use Rattle.distances.specs.View.{Graph, Costs, NONE, max_cost, max_distance, InRange, CostsInRange}
use Rattle.distances.specs.Meaning.{Joins, IsPath, IsPath.here, IsPath.hop, total, IsDistance}
use Rattle.distances.specs.Distance.{unjoined, joined_below, dist}
use Rattle.distances.specs.Theorem.{DistIsDistance, NothingElseIs, NoneIsApart}
use Rattle.distances.proofs.Count.{nearer-less, falls-bound}
use Rattle.distances.proofs.Relaxed.{relaxed-le, relaxed-triangle, relaxed-symmetric, relaxed-attained}
use Rattle.distances.proofs.Joined.{unjoined-self, unjoined-le, crossing-le, joined-le, joined-le-crossing, joined-symmetric, joined-told}
use Rattle.distances.proofs.Paths.{Reaches, reaches-self, reaches-link, reaches-on}
-- two starts that agree give one result; a link joins in both directions, and joins bridges
pub use Rattle.distances.proofs.Relaxed.{relaxed-agrees}
pub use Rattle.distances.proofs.Paths.{joins-back, joins-bridge}

-- what holds of every graph and all costs
module _ (g : Graph) (c : Costs) where
  -- a distance is at most the cost of at most one link
  dist-le-joined : (i j : ℕ) → dist g c i j ≤ joined_below g c unjoined g.links i j
  unfolding dist
  dist-le-joined i j = relaxed-le (joined_below g c unjoined g.links) g.bridges i j

  dist-le-unjoined : (i j : ℕ) → dist g c i j ≤ unjoined i j
  dist-le-unjoined i j = omega (arith, dist-le-joined i j, joined-le g c g.links i j)

  pub dist-self : (i : ℕ) → dist g c i i ≡ 0
  dist-self i = omega (arith, dist-le-unjoined i i, unjoined-self i)

  pub dist-le-none : (i j : ℕ) → dist g c i j ≤ NONE
  dist-le-none i j = omega (arith, dist-le-unjoined i j, unjoined-le i j)

  pub dist-triangle : (i j k : ℕ) → k < g.bridges → dist g c i j ≤ dist g c i k + dist g c k j
  unfolding dist
  dist-triangle i j k h = relaxed-triangle (joined_below g c unjoined g.links) g.bridges i j k h

  pub dist-symmetric : (i j : ℕ) → dist g c i j ≡ dist g c j i
  unfolding dist
  dist-symmetric i j = relaxed-symmetric (joined_below g c unjoined g.links) (joined-symmetric g c g.links) g.bridges i j

  -- a distance but NONE is the total of a path
  pub dist-attained : (i j : ℕ) → (dist g c i j ≡ NONE → ⊥) → (ls : List ℕ) × IsPath g c i ls j × (total c ls ≡ dist g c i j)
  unfolding dist
  dist-attained i j n =
      relaxed-attained
      (Reaches g c)
      reaches-on
      J
      (λ i j. omega (arith, joined-le g c g.links i j, unjoined-le i j))
      (λ i j m. start i j (joined-told g c g.links i j (omega arith) m))
      g.bridges
      i
      j
      n
    where
      J : ℕ → ℕ → ℕ
      J i j = joined_below g c unjoined g.links i j

      start : (i j : ℕ) → ((i ≡ j) × (J i j ≡ 0)) ⊎ ((l : ℕ) × Joins g c l i j × (J i j ≡ c l)) → Reaches g c i j (J i j)
      start i j (inl h) = rw h.1 (subst (λ (k : ℕ). Reaches g c i k 0) h.0 (reaches-self i))
      start i j (inr h) = rw h.2 (reaches-link h.1)

module _ (g : Graph) (c : Costs) (range : InRange g) where
  -- over a link, the distance to any bridge is at most the link's cost more
  pub dist-relax : {l x y : ℕ} → Joins g c l x y → (z : ℕ) → dist g c x z ≤ c l + dist g c y z
  dist-relax {l} {x} {y} h z =
      omega (
        arith,
        dist-triangle g c x z y (joins-bridge range (joins-back h)),
        dist-le-joined g c x y,
        joined-le-crossing g c g.links x y l h.listed,
        crossing-le g c h,
      )

  pub no-path-cheaper : {i j : ℕ} {ls : List ℕ} → IsPath g c i ls j → dist g c i j ≤ total c ls
  unfolding total
  no-path-cheaper (here {x}) = omega (arith, dist-self g c x)
  no-path-cheaper (hop {z = z} h p) = omega (arith, dist-relax h z, no-path-cheaper p)

  -- some link of a bridge leads on a path of least cost
  pub next-hop :
      (y d : ℕ) →
      (y ≡ d → ⊥) →
      (dist g c y d ≡ NONE → ⊥) →
      (l : ℕ) × (z : ℕ) × Joins g c l y z × (c l + dist g c z d ≡ dist g c y d)
  unfolding total
  next-hop y d apart n = let t = dist-attained g c y d n in go t.1 apart t.2
    where
      go : {y d : ℕ} {ls : List ℕ} → IsPath g c y ls d → (y ≡ d → ⊥) → total c ls ≡ dist g c y d →
          (l : ℕ) × (z : ℕ) × Joins g c l y z × (c l + dist g c z d ≡ dist g c y d)
      go here apart e = absurd (apart refl)
      go (hop {l} {x} {y} {z} {ls} h p) apart e = (l, y, h, omega (arith, dist-relax h z, no-path-cheaper p))

module _ (g : Graph) (c : Costs) (range : InRange g) (costs : CostsInRange g c) where
  -- by way of next hops, each of which has a smaller distance
  bound-apart : (i j : ℕ) → i < g.bridges → (dist g c i j ≡ NONE → ⊥) → dist g c i j ≤ max_distance
  bound-apart i j b n =
      omega (
        arith,
        falls-bound (λ y. dist g c y j) g.bridges max_cost NONE (λ y s. step y s (ℕ_discrete y j)) i (omega (arith, dist-le-none g c i j)),
        nearer-less (λ y. dist g c y j) g.bridges i b,
        range.most,
      )
    where
      step : (y : ℕ) → dist g c y j < NONE → Dec (y ≡ j) →
          (dist g c y j ≡ 0) ⊎ ((z : ℕ) × (z < g.bridges) × (dist g c z j < dist g c y j) × (dist g c y j ≤ max_cost + dist g c z j))
      step y s (yes e) = inl (subst (λ (k : ℕ). dist g c y k ≡ 0) e (dist-self g c y))
      step y s (no e) =
          let t = next-hop g c range y j e (omega arith) in
          let h = t.2 in
          let positive : c t.0 ≡ 0 → ⊥ = h.present in
          inr (t.1, joins-bridge range (joins-back h), omega arith, omega (arith, costs.most t.0 h.listed))

  -- the greatest distance
  pub dist-bound : (i j : ℕ) → (dist g c i j ≡ NONE → ⊥) → dist g c i j ≤ max_distance
  dist-bound i j n = go (ℕ_discrete i j)
    where
      go : Dec (i ≡ j) → dist g c i j ≤ max_distance
      go (yes e) = subst (λ (k : ℕ). dist g c i k ≤ max_distance) e (omega (arith, dist-self g c i))
      go (no e) = bound-apart i j (joins-bridge range (next-hop g c range i j e n).2) n

  -- where there is a path, the distance is not NONE
  pub path-bound : {i j : ℕ} {ls : List ℕ} → IsPath g c i ls j → dist g c i j ≤ max_distance
  path-bound (here {x}) = omega (arith, dist-self g c x)
  path-bound (hop {l} {x} {y} {z} h p) =
      dist-bound x z (λ e. absurd (omega (arith, dist-relax g c range h z, path-bound p, costs.most l h.listed)))

pub none-iff : NoneIsApart
none-iff g c range costs i j = (λ e ls p. omega (arith, path-bound g c range costs p), λ apart. go apart (ℕ_discrete (dist g c i j) NONE))
  where
    go : ((ls : List ℕ) → IsPath g c i ls j → ⊥) → Dec (dist g c i j ≡ NONE) → dist g c i j ≡ NONE
    go apart (yes e) = e
    go apart (no n) = let t = dist-attained g c i j n in absurd (apart t.0 t.1)

pub dist-is-distance : DistIsDistance
dist-is-distance g c range costs i j = go (ℕ_discrete (dist g c i j) NONE)
  where
    go : Dec (dist g c i j ≡ NONE) → IsDistance g c i j (dist g c i j)
    go (yes e) = inr (record { none = e; apart = (none-iff g c range costs i j).0 e })
    go (no n) = inl (record { attained = dist-attained g c i j n; least = λ ls p. no-path-cheaper g c range p })

pub nothing-else-is : NothingElseIs
nothing-else-is g c i j x y (inl p) (inl q) = least p.attained q.attained
  where
    least : (ls : List ℕ) × IsPath g c i ls j × (total c ls ≡ x) → (ls : List ℕ) × IsPath g c i ls j × (total c ls ≡ y) → x ≡ y
    least a b = omega (arith, p.least b.0 b.1, q.least a.0 a.1, a.2, b.2)
nothing-else-is g c i j x y (inl p) (inr q) = absurd (q.apart p.attained.0 p.attained.1)
nothing-else-is g c i j x y (inr p) (inl q) = absurd (p.apart q.attained.0 q.attained.1)
nothing-else-is g c i j x y (inr p) (inr q) = p.none ∙ sym q.none
