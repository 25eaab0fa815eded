-- What a distance is (document 01, "Network and views"): the least sum of costs of any path, NONE exactly where there is no path.
-- Assumes nothing.
use Rattle.std.specs.Prelude.{ℕ, ◌+◌, ◌*◌, ◌<◌, ◌≤◌, ◌≡◌, ◌⊎◌, List, [], ◌∷◌}
use Rattle.distances.specs.View.{Graph, Costs, NONE}

-- link l is present in the view and joins x and y, in either direction
pub record Joins (g : Graph) (c : Costs) (l x y : ℕ) : Type 0 where
  pub listed : l < g.links
  pub present : c l ≡ 0 → ⊥
  pub joined : ((g.bridge_at (2 * l) ≡ x) × (g.bridge_at (2 * l + 1) ≡ y)) ⊎ ((g.bridge_at (2 * l) ≡ y) × (g.bridge_at (2 * l + 1) ≡ x))

-- the links of a path from one bridge to another, in order
pub data IsPath (g : Graph) (c : Costs) : ℕ → List ℕ → ℕ → Type 0 where
  here : {x : ℕ} → IsPath g c x [] x
  hop : {l x y z : ℕ} {ls : List ℕ} → Joins g c l x y → IsPath g c y ls z → IsPath g c x (l ∷ ls) z

-- the sum of the costs of a path's links
unfoldable pub total : Costs → List ℕ → ℕ
total c [] = 0
total c (l ∷ ls) = c l + total c ls

-- x is the least total of any path from i to j
pub record IsLeast (g : Graph) (c : Costs) (i j x : ℕ) : Type 0 where
  pub attained : (ls : List ℕ) × IsPath g c i ls j × (total c ls ≡ x)
  pub least : (ls : List ℕ) → IsPath g c i ls j → x ≤ total c ls

-- x is NONE, and no path leads from i to j
pub record IsUnreachable (g : Graph) (c : Costs) (i j x : ℕ) : Type 0 where
  pub none : x ≡ NONE
  pub apart : (ls : List ℕ) → IsPath g c i ls j → ⊥

-- x is the distance of i to j
abbrev pub IsDistance : Graph → Costs → ℕ → ℕ → ℕ → Type 0
IsDistance g c i j x = IsLeast g c i j x ⊎ IsUnreachable g c i j x
