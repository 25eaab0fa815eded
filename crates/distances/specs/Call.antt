-- What the call does, for every input: the number of its reply in the table of refusals, and the lent table. Assumes nothing.
use Rattle.std.specs.Prelude.{ℕ, zero, suc, ◌+◌, ◌*◌, Bool, true, cond, ◌&&◌, not, List, [], ◌∷◌, length, get_or, leb, ltb, eqb}
use Rattle.distances.specs.View.{graph_of, costs_of, max_cost, table_numbers}
use Rattle.distances.specs.Distance.{dist}
use Rattle.distances.specs.Table.{with_pairs}

-- every test of a list holds
unfoldable pub every : List Bool → Bool
every [] = true
every (b ∷ bs) = b && every bs

-- the test holds of every number below n
unfoldable pub all_below : ℕ → (ℕ → Bool) → Bool
all_below zero test = true
all_below (suc n) test = all_below n test && test n

-- a link's two ends are different bridges
unfoldable pub link_passes : ℕ → ℕ → ℕ → Bool
link_passes bridges first second = ltb first bridges && (ltb second bridges && not (eqb first second))

unfoldable pub link_in_range : ℕ → List ℕ → ℕ → Bool
link_in_range bridges ends l = link_passes bridges (get_or ends (2 * l) 0) (get_or ends (2 * l + 1) 0)

-- 2 to 16 bridges, up to 32 links that each join two different bridges, the list long enough for the ends of all
unfoldable pub graph_passes : ℕ → ℕ → List ℕ → Bool
graph_passes bridges links ends =
    every
    (leb 2 bridges
    ∷ leb bridges 16
    ∷ leb links 32
    ∷ leb (2 * links) (length ends)
    ∷ all_below links (link_in_range bridges ends)
    ∷ [])

-- a view gives each of so many links a cost in the range
unfoldable pub costs_pass : ℕ → List ℕ → Bool
costs_pass links costs = leb links (length costs) && all_below links (λ l. leb (get_or costs l 0) max_cost)

-- the ranges of a network and the lengths that the call needs, the table's being `size`
unfoldable pub in_range : ℕ → ℕ → List ℕ → List ℕ → ℕ → Bool
in_range bridges links ends costs size = graph_passes bridges links ends && (costs_pass links costs && leb table_numbers size)

-- the reply's number, and the table afterwards
pub record Outcome : Type 0 where
  pub reply : ℕ
  pub table : List ℕ

abbrev pub outcome : ℕ → List ℕ → Outcome
outcome reply table = record { reply = reply; table = table }

-- refused: 17, the table as it was; else the pairs of bridges hold their distance
unfoldable pub distances_of : ℕ → ℕ → List ℕ → List ℕ → List ℕ → Outcome
distances_of bridges links ends costs table =
    cond (in_range bridges links ends costs (length table))
    (outcome 0 (with_pairs bridges (dist (graph_of bridges links ends) (costs_of costs)) table))
    (outcome 17 table)
