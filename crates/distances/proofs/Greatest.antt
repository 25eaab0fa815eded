-- The greatest distance, and a row of sixteen bridges whose ends have it. Assumes nothing.
use Prim.Native.Nat.{ℕ, zero, suc, ◌+◌, ◌*◌, ◌/◌, ◌≤◌}
use mathlib.Core.Path.{◌≡◌, refl}
use mathlib.Core.Logic.{◌⊎◌, inl, inr}
use mathlib.Core.List.{List, [], ◌∷◌}
use native.Mathlib.Omega.{arith}
use Rattle.distances.specs.View.{Graph, Costs, max_cost, max_distance, InRange, CostsInRange}
use Rattle.distances.specs.Meaning.{Joins, IsPath, IsPath.here, IsPath.hop, total}
use Rattle.distances.specs.Distance.{dist}
use Rattle.distances.specs.Theorem.{GreatestDistance}
use Rattle.distances.proofs.Laws.{dist-attained, dist-bound, path-bound}

-- link l joins bridges l and l + 1
abbrev row : Graph
row = record { bridges = 16; links = 15; bridge_at = λ e. (e + 1) / 2 }

abbrev dearest : Costs
dearest l = max_cost

row-in-range : InRange row
row-in-range =
    record {
      least = omega arith;
      most = omega arith;
      links = omega arith;
      first = λ l h. omega arith;
      second = λ l h. omega arith;
      differ = λ l h e. omega arith;
    }

costs-in-range : CostsInRange row dearest
costs-in-range = record { most = λ l h. omega arith }

-- from a bridge to the last one, k links on
along : (k x : ℕ) → x + k ≡ 15 → (ls : List ℕ) × IsPath row dearest x ls 15
along zero x e = let last : x ≡ 15 = omega arith in ([], rw last here)
along (suc k) x e =
    let rest = along k (suc x) (omega arith) in
    let next : Joins row dearest x x (suc x) =
    record { listed = omega arith; present = λ z. omega arith; joined = inl (omega arith, omega arith) } in
    (x ∷ rest.0, hop next rest.1)

-- a link leads to a neighbour
next-to : {l x y : ℕ} → Joins row dearest l x y → y ≤ x + 1
next-to {l} {x} {y} h = go h.joined
  where
    go : (((2 * l + 1) / 2 ≡ x) × ((2 * l + 1 + 1) / 2 ≡ y)) ⊎ (((2 * l + 1) / 2 ≡ y) × ((2 * l + 1 + 1) / 2 ≡ x)) → y ≤ x + 1
    go (inl e) = omega (arith, e.0, e.1)
    go (inr e) = omega (arith, e.0, e.1)

-- so a path costs as much for each bridge that it goes on
path-costs : {x z : ℕ} {ls : List ℕ} → IsPath row dearest x ls z → max_cost * z ≤ max_cost * x + total dearest ls
unfolding total
path-costs here = omega arith
path-costs (hop h p) = omega (arith, next-to h, path-costs p)

pub greatest-distance : GreatestDistance
greatest-distance =
    record {
      product = refl;
      most = dist-bound;
      reached = (row, dearest, row-in-range, costs-in-range, omega (arith, few, path-costs whole.1, whole.2));
    }
  where
    few : dist row dearest 0 15 ≤ max_distance
    few = path-bound row dearest row-in-range costs-in-range (along 15 0 refl).1

    whole : (ls : List ℕ) × IsPath row dearest 0 ls 15 × (total dearest ls ≡ dist row dearest 0 15)
    whole = dist-attained row dearest 0 15 (λ e. omega (arith, few))
