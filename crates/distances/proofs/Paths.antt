-- Paths of links: one after the other, and what a link's ends are. Assumes nothing.
use Prim.Native.Nat.{ℕ, ◌+◌, ◌<◌}
use mathlib.Core.Path.{◌≡◌, refl, sym, subst}
use mathlib.Core.Logic.{inl, inr, ⊎_swap}
use mathlib.Core.List.{List, [], ◌∷◌, ◌++◌}
use native.Mathlib.Nat.{zero-add, add-zero}
use native.Mathlib.Omega.{arith}
use Rattle.distances.specs.View.{Graph, Costs, InRange}
use Rattle.distances.specs.Meaning.{Joins, IsPath, IsPath.here, IsPath.hop, total}
use Rattle.distances.proofs.Joined.{AreEnds}

-- some path from i to j has the total x
abbrev pub Reaches : Graph → Costs → ℕ → ℕ → ℕ → Type 0
Reaches g c i j x = (ls : List ℕ) × IsPath g c i ls j × (total c ls ≡ x)

-- the total of no link, and of one link more
pub total-none : (c : Costs) → total c [] ≡ 0
unfolding total
total-none c = refl

pub total-more : (c : Costs) (l : ℕ) (ls : List ℕ) → total c (l ∷ ls) ≡ c l + total c ls
unfolding total
total-more c l ls = refl

total-append : (c : Costs) (ls ms : List ℕ) → total c (ls ++ ms) ≡ total c ls + total c ms
unfolding total
total-append c [] ms = sym (zero-add _)
total-append c (l ∷ ls) ms = omega (arith, total-append c ls ms)

module _ {g : Graph} {c : Costs} where
  path-append : {i k j : ℕ} {ls ms : List ℕ} → IsPath g c i ls k → IsPath g c k ms j → IsPath g c i (ls ++ ms) j
  path-append here q = q
  path-append (hop h p) q = hop h (path-append p q)

  pub reaches-self : (i : ℕ) → Reaches g c i i 0
  unfolding total
  reaches-self i = ([], here, refl)

  pub reaches-link : {l i j : ℕ} → Joins g c l i j → Reaches g c i j (c l)
  unfolding total
  reaches-link {l} h = (l ∷ [], hop h here, add-zero (c l))

  pub reaches-on : (i k j a b : ℕ) → Reaches g c i k a → Reaches g c k j b → Reaches g c i j (a + b)
  reaches-on i k j a b p q = (p.0 ++ q.0, path-append p.1 q.1, omega (arith, total-append c p.0 q.0, p.2, q.2))

-- a link joins in both directions
pub joins-back : {g : Graph} {c : Costs} {l x y : ℕ} → Joins g c l x y → Joins g c l y x
joins-back h = record { listed = h.listed; present = h.present; joined = ⊎_swap h.joined }

-- a bridge that a link joins is in range
pub joins-bridge : {g : Graph} {c : Costs} {l x y : ℕ} → InRange g → Joins g c l x y → x < g.bridges
joins-bridge {g} {l = l} {x} {y} range h = go h.joined
  where
    go : AreEnds g l x y → x < g.bridges
    go (inl e) = subst (λ (z : ℕ). z < g.bridges) e.0 (range.first l h.listed)
    go (inr e) = subst (λ (z : ℕ). z < g.bridges) e.1 (range.second l h.listed)
