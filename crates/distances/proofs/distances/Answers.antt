-- `distances` meets its contract. An accepted call has its sizes and ends in range, and the three steps together are the distances (`whole`).
-- Assumes nothing.
use Prim.Native.Nat.{ℕ}
use native.Mathlib.Omega.{arith}
use mathlib.Core.Bool.{true}
use mathlib.Core.List.{List}
use mathlib.Core.Path.{◌≡◌, sym, ◌∙◌, ap}
use lib.ListN.{length}
use Rattle.distances.specs.Call.{in_range, Outcome}
use Rattle.distances.proofs.Steps.{whole}
use Rattle.distances.proofs.Ranges.{in-range-told, sizes, both_ends, ends-below}
use Rattle.distances.proofs.Outcomes.{distances-accepted, distances-refused}
use Rattle.distances.proofs.distances.Goals as goal
use Rattle.distances.proofs.distances.Goals.{Else-not-in_range}

-- what goes on is in range
accepted : (c : Else-not-in_range) →
    in_range c.args.graph.now.bridges c.args.graph.now.links c.args.graph.now.ends.now c.args.costs.now (length c.args.table.now) ≡ true
accepted c = sym c.in_range.ensures ∙ c.if-not-in_range.false

pub returns-then-not-in_range : goal.returns-then-not-in_range
returns-then-not-in_range c = rw (distances-refused _ _ _ _ _ (sym c.in_range.ensures ∙ c.if-not-in_range.true))

pub clear-requires : goal.clear-requires
clear-requires c = omega (arith, sizes _ _ _ _ _ (accepted (goal.at.clear-requires c).Else-not-in_range))

pub join-requires : goal.join-requires
join-requires c =
    let ok = accepted (goal.at.join-requires c).Else-not-in_range in
    record { links_bound = omega (arith, sizes _ _ _ _ _ ok); by_index = ends-below _ _ _ (in-range-told _ _ _ _ _ ok).0 }

pub passes-requires : goal.passes-requires
passes-requires c = omega (arith, sizes _ _ _ _ _ (accepted (goal.at.passes-requires c).Else-not-in_range))

pub returns : goal.returns
returns c =
    let ok = accepted (goal.at.returns c).Else-not-in_range in
    let h = sizes _ _ _ _ _ ok in
    rw (distances-accepted _ _ _ _ _ ok)
    (ap {B = Outcome} (λ (t : List ℕ). record { reply = 0; table = t })
    (c.passes.ensures
    ∙ whole _ _ _ _ _ h.0 h.4 (both_ends _ _ _ (in-range-told _ _ _ _ _ ok).0) _ _
    c.clear.ensures
    c.join.ensures))
