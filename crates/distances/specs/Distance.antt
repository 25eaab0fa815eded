-- The distance of two bridges in a view, as a computation: first by at most one link, then by way of more and more bridges
-- (the method of Floyd and Warshall). Assumes nothing.
use Rattle.std.specs.Prelude.{ℕ, zero, suc, ◌+◌, ◌*◌, min, Bool, cond, ◌&&◌, ◌||◌, not, eqb}
use Rattle.distances.specs.View.{Graph, Costs, NONE}

-- is link l present in the view, does it join i and j
unfoldable pub present : Costs → ℕ → Bool
present c l = not (eqb (c l) 0)

unfoldable pub joins : Graph → ℕ → ℕ → ℕ → Bool
joins g l i j =
    eqb (g.bridge_at (2 * l)) i && eqb (g.bridge_at (2 * l + 1)) j || eqb (g.bridge_at (2 * l)) j && eqb (g.bridge_at (2 * l + 1)) i

-- the cost of crossing from i to j over link l, NONE where it is absent or joins others
unfoldable pub crossing : Graph → Costs → ℕ → ℕ → ℕ → ℕ
crossing g c l i j = cond (present c l && joins g l i j) (c l) NONE

-- by no link: 0 from a bridge to itself
unfoldable pub unjoined : ℕ → ℕ → ℕ
unjoined i j = cond (eqb i j) 0 NONE

-- f, and what is less by one of the links below l
unfoldable pub joined_below : Graph → Costs → (ℕ → ℕ → ℕ) → ℕ → ℕ → ℕ → ℕ
joined_below g c f zero i j = f i j
joined_below g c f (suc l) i j = min (joined_below g c f l i j) (crossing g c l i j)

-- f, and what is less by way of bridge k
unfoldable pub relaxed : (ℕ → ℕ → ℕ) → ℕ → ℕ → ℕ → ℕ
relaxed f k i j = min (f i j) (f i k + f k j)

-- f, and what is less by way of the bridges below k
unfoldable pub relaxed_below : (ℕ → ℕ → ℕ) → ℕ → ℕ → ℕ → ℕ
relaxed_below f zero i j = f i j
relaxed_below f (suc k) i j = relaxed (relaxed_below f k) k i j

-- the distance of i to j: the least cost by at most one link, or by way of any bridges
unfoldable pub dist : Graph → Costs → ℕ → ℕ → ℕ
dist g c i j = relaxed_below (joined_below g c unjoined g.links) g.bridges i j
