-- The row that a view's costs are stored in, for the layers above: as long as before, with the costs first. Assumes nothing.
use Prim.Native.Nat.{ℕ, zero, suc, ◌+◌, ◌*◌, ◌≤◌, ◌<◌}
use native.Mathlib.Omega.{arith}
use mathlib.Core.Path.{◌≡◌, refl, sym, ap, ◌∙◌}
use mathlib.Core.Bool.{Bool, true, false, cond, not}
use mathlib.Core.List.{List}
use borrow.Author.Tests.{ltb-true, ltb-false, lt-ltb, le-ltb, le-leb, eqb-true, eqb-false}
use lib.ListN.{length, get_or, length-set}
use lib.Seq.{get_or-set_same, get_or-set_other}
use lib.Dec.{eqb, leb, ltb}
use Rattle.distances.specs.View.{max_cost}
use Rattle.distances.specs.Refusal.{refusal}
use Rattle.distances.proofs.Ranges.{true-all_below}
use Rattle.distances.proofs.Checks.{First.none, First.next, first}
use Rattle.plan.specs.Sizes.{most_links, header_bytes, cost_bytes}
use Rattle.plan.specs.Fields.{cost_in}
use Rattle.plan.specs.Reading.{with_costs, costs_checks, stored, costs_reply}
use Rattle.plan.proofs.Laws.{fits_below}

module _ (rest : List ℕ) where
  -- a row with the costs of the first k links
  costs-length : (k : ℕ) (row : List ℕ) → length (with_costs rest k row) ≡ length row
  unfolding with_costs
  costs-length zero row = refl
  costs-length (suc k) row = length-set (with_costs rest k row) k (cost_in rest k) ∙ costs-length k row

  costs-at : (k : ℕ) (row : List ℕ) (l : ℕ) → k ≤ length row → get_or (with_costs rest k row) l 0 ≡ cond (ltb l k) (cost_in rest l) (get_or row l 0)
  unfolding with_costs
  costs-at zero row l g = rw (le-ltb l 0 (omega arith))
  costs-at (suc k) row l g = go (eqb l k) (ltb l k) refl refl (costs-at k row l (omega arith))
    where
      go : (p q : Bool) → eqb l k ≡ p → ltb l k ≡ q → get_or (with_costs rest k row) l 0 ≡ cond (ltb l k) (cost_in rest l) (get_or row l 0) →
          get_or (with_costs rest (suc k) row) l 0 ≡ cond (ltb l (suc k)) (cost_in rest l) (get_or row l 0)
      go true q same low before =
          rw (lt-ltb l (suc k) (omega (arith, eqb-true l k same)), eqb-true l k same)
          (get_or-set_same (with_costs rest k row) k (cost_in rest k) 0 (omega (arith, costs-length k row)))
      go false true same low before =
          rw (lt-ltb l (suc k) (omega (arith, ltb-true l k low)))
          (get_or-set_other (with_costs rest k row) k l (cost_in rest k) 0 (eqb-false l k same) ∙ before ∙ rw low)
      go false false same low before =
          rw (le-ltb l (suc k) (omega (arith, ltb-false l k low, eqb-false l k same)))
          (get_or-set_other (with_costs rest k row) k l (cost_in rest k) 0 (eqb-false l k same) ∙ before ∙ rw low)

  module _ (links : ℕ) (row : List ℕ) where
    pub row-length : length (costs_reply rest links row).row ≡ length row
    unfolding costs_reply
    row-length = go (refusal (costs_checks rest links (length row)))
      where
        either : (n : ℕ) (b : Bool) → length (cond b (stored 0 (with_costs rest links row)) (stored n row)).row ≡ length row
        either n true = costs-length links row
        either n false = refl

        go : (n : ℕ) → length (cond (eqb n 0) (stored 0 (with_costs rest links row)) (stored n row)).row ≡ length row
        go n = either n (eqb n 0)

    accepted :
        links ≤ most_links →
        most_links ≤ length row →
        header_bytes + cost_bytes * links ≤ length rest →
        ((l : ℕ) → l < links → cost_in rest l ≤ max_cost) →
        0 ≡ refusal (costs_checks rest links (length row))
    unfolding costs_checks
    accepted few long whole each =
        let fit = fits_below rest links ∙ true-all_below links (λ l. leb (cost_in rest l) max_cost) (λ l h. le-leb (cost_in rest l) max_cost (each l h)) in
        first (next (le-ltb _ _ few) (next (le-ltb _ _ long) (next (le-ltb _ _ whole) (next (ap not fit) none))))

    pub row-cost :
        links ≤ most_links →
        most_links ≤ length row →
        header_bytes + cost_bytes * links ≤ length rest →
        ((l : ℕ) → l < links → cost_in rest l ≤ max_cost) →
        (l : ℕ) → get_or (costs_reply rest links row).row l 0 ≡ cond (ltb l links) (cost_in rest l) (get_or row l 0)
    unfolding costs_reply
    row-cost few long whole each l = rw (sym (accepted few long whole each)) (costs-at links row l (omega arith))
