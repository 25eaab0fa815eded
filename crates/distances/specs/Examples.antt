-- Document 01's known examples on the triangle: E1, as it is computed and by what a distance means. Assumes nothing.
use Rattle.std.specs.Prelude.{ℕ, ◌≤◌, ◌≡◌, Bool, true, false, ◌&&◌, eqb}
use mathlib.Core.List.{List, [], ◌∷◌, map, Memᴰ}
use Rattle.distances.specs.View.{Graph, Costs, NONE, graph_of, costs_of}
use Rattle.distances.specs.Meaning.{IsPath, total}
use Rattle.distances.specs.Distance.{dist}
use Rattle.distances.specs.Theorem.{DistIsDistance}
use Rattle.distances.specs.Call.{every}

-- links 0 (0–1), 1 (1–2), 2 (0–2)
abbrev pub triangle : Graph
triangle = graph_of 3 3 (0 ∷ 1 ∷ 1 ∷ 2 ∷ 0 ∷ 2 ∷ [])

abbrev pub view0 : Costs
view0 = costs_of (1 ∷ 1 ∷ 3 ∷ [])

abbrev pub view1 : Costs
view1 = costs_of (0 ∷ 1 ∷ 3 ∷ [])

-- the distances of bridges 0, 1 and 2 to destination 0
abbrev pub to_zero : Costs → List ℕ
to_zero c = dist triangle c 0 0 ∷ dist triangle c 1 0 ∷ dist triangle c 2 0 ∷ []

-- an entry: the numbers that are computed, and those that document 01 states
pub record Example : Type 0 where
  pub found : List ℕ
  pub stated : List ℕ

-- every entry of a table holds
abbrev pub AllHold : List Example → Type 0
AllHold es = (e : Example) → Memᴰ e es → e.found ≡ e.stated

-- E1, by the view's costs
abbrev pub examples : List Example
examples = record { found = to_zero view0; stated = 0 ∷ 1 ∷ 2 ∷ [] } ∷ record { found = to_zero view1; stated = 0 ∷ 4 ∷ 3 ∷ [] } ∷ []

unfoldable pub same : List ℕ → List ℕ → Bool
same [] [] = true
same [] (y ∷ ys) = false
same (x ∷ xs) [] = false
same (x ∷ xs) (y ∷ ys) = eqb x y && same xs ys

-- the test over a whole table
unfoldable pub all_pass : List Example → Bool
all_pass es = every (map (λ e. same e.found e.stated) es)

-- E1 by the meaning of a distance: from bridge 1 to destination 0 in view 1 a path costs 4, and none costs less; in a view that gives no link
-- a cost the distance is NONE, and there is no path
pub record MeaningAtE1 : Type 0 where
  pub attained : (ls : List ℕ) × IsPath triangle view1 1 ls 0 × (total view1 ls ≡ 4)
  pub least : (ls : List ℕ) → IsPath triangle view1 1 ls 0 → 4 ≤ total view1 ls
  pub none : dist triangle (λ l. 0) 1 0 ≡ NONE
  pub apart : (ls : List ℕ) → IsPath triangle (λ l. 0) 1 ls 0 → ⊥

-- the claim tells so
abbrev pub DistancesApply : Type 0
DistancesApply = DistIsDistance → MeaningAtE1
