-- What the private functions do to the lent table, step by step. No public contract cites this file. Assumes nothing.
use Rattle.std.specs.Prelude.{ℕ, zero, suc, ◌+◌, ◌*◌, ◌%◌, min, cond, List, get_or, set, eqb}
use Rattle.distances.specs.View.{NONE}
use Rattle.distances.specs.Distance.{relaxed}
use Rattle.distances.specs.Table.{cell, rewritten, is_in_row}

-- a link's cost as a crossing's: NONE where it is absent
unfoldable pub weight : ℕ → ℕ
weight cost = cond (eqb cost 0) NONE cost

-- the number at place p, lowered
unfoldable pub lowered : List ℕ → ℕ → ℕ → List ℕ
lowered t p to = set t p (min (get_or t p 0) to)

-- both cells of a link, lowered
unfoldable pub with_link : ℕ → ℕ → ℕ → List ℕ → List ℕ
with_link first second cost t = lowered (lowered t (16 * first + second) (weight cost)) (16 * second + first) (weight cost)

-- the links below l, one after the other
unfoldable pub with_links : List ℕ → List ℕ → ℕ → List ℕ → List ℕ
with_links ends costs zero t = t
with_links ends costs (suc l) t =
    with_link (get_or ends (2 * l) 0) (get_or ends (2 * l + 1) 0) (get_or costs l 0) (with_links ends costs l t)

-- row i by way of bridge k
unfoldable pub with_row : ℕ → ℕ → ℕ → List ℕ → List ℕ
with_row n k i t = rewritten (is_in_row n i) (λ p. relaxed (cell t) k i (p % 16)) t
