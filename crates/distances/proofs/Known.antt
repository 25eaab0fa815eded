-- Document 01's known examples hold: the test over their table passes by computation, so that each entry's equation holds; and what the
-- claim of distances tells of E1.
-- Assumes nothing.
use Prim.Native.Nat.{ℕ, zero, suc, ◌+◌, ◌*◌, ◌<◌, ◌≤◌}
use native.Mathlib.Omega.{arith}
use mathlib.Core.Bool.{true, false≢true}
use mathlib.Core.Path.{◌≡◌, refl, sym, subst}
use mathlib.Core.List.{List, [], ◌∷◌, Memᴰ}
use mathlib.Core.Logic.{inl, inr}
use lib.Dec.{eqb}
use borrow.Author.Tests.{eqb-true}
use Rattle.distances.specs.View.{Graph, NONE, max_cost, InRange, CostsInRange}
use Rattle.distances.specs.Meaning.{IsPath, IsPath.here, IsPath.hop, IsLeast, IsUnreachable, IsDistance}
use Rattle.distances.specs.Distance.{present, joins, crossing, unjoined, joined_below, relaxed, relaxed_below, dist}
use Rattle.distances.specs.Call.{every}
use Rattle.distances.specs.Examples.{Example, AllHold, examples, same, all_pass, triangle, view1, DistancesApply}
use Rattle.distances.proofs.Booleans.{both_true}

pub same-eq : (xs ys : List ℕ) → same xs ys ≡ true → xs ≡ ys
unfolding same
same-eq [] [] t = refl
same-eq [] (y ∷ ys) t = absurd (false≢true t)
same-eq (x ∷ xs) [] t = absurd (false≢true t)
same-eq (x ∷ xs) (y ∷ ys) t =
    let h = both_true (eqb x y) (same xs ys) t in
    cc (eqb-true x y h.0, same-eq xs ys h.1)

-- each entry of a table that passes holds
pub each_holds : (e : Example) {es : List Example} → Memᴰ e es → all_pass es ≡ true → e.found ≡ e.stated
unfolding all_pass every
each_holds e (Memᴰ.head {x} {xs} q) t =
    subst (λ (z : Example). z.found ≡ z.stated) (sym q) (same-eq x.found x.stated (both_true (same x.found x.stated) (all_pass xs) t).0)
each_holds e (Memᴰ.tail {x} {xs} m) t = each_holds e m (both_true (same x.found x.stated) (all_pass xs) t).1

examples-pass : all_pass examples ≡ true
unfolding all_pass every same dist relaxed_below relaxed joined_below unjoined crossing joins present
examples-pass = refl

pub examples-hold : AllHold examples
examples-hold e m = each_holds e m examples-pass

-- ---- E1 by the meaning of a distance

pub below-three : (P : ℕ → Type 0) → P 0 → P 1 → P 2 → (l : ℕ) → l < 3 → P l
below-three P a b c zero h = a
below-three P a b c (suc zero) h = b
below-three P a b c (suc (suc zero)) h = c
below-three P a b c (suc (suc (suc l))) h = absurd (omega arith)

pub triangle-in-range : InRange triangle
triangle-in-range =
    record {
      least = omega arith;
      most = omega arith;
      links = omega arith;
      first = below-three (λ l. triangle.bridge_at (2 * l) < 3) (omega arith) (omega arith) (omega arith);
      second = below-three (λ l. triangle.bridge_at (2 * l + 1) < 3) (omega arith) (omega arith) (omega arith);
      differ = below-three (λ l. triangle.bridge_at (2 * l) ≡ triangle.bridge_at (2 * l + 1) → ⊥) (omega arith) (omega arith) (omega arith);
    }

pub view1-in-range : CostsInRange triangle view1
view1-in-range = record { most = below-three (λ l. view1 l ≤ max_cost) (omega arith) (omega arith) (omega arith) }

-- no link, no path to another bridge
no_way : {g : Graph} {x y : ℕ} {ls : List ℕ} → IsPath g (λ l. 0) x ls y → (x ≡ y → ⊥) → ⊥
no_way here apart = apart refl
no_way (hop j p) apart = j.present refl

pub distances-apply : DistancesApply
unfolding dist relaxed_below relaxed joined_below unjoined crossing joins present
distances-apply claim =
    let reached = joined (claim triangle view1 triangle-in-range view1-in-range 1 0) in
    let none = parted (claim triangle (λ l. 0) triangle-in-range (record { most = λ l h. omega arith }) 1 0) in
    record { attained = reached.attained; least = reached.least; none = none.none; apart = none.apart }
  where
    joined : IsDistance triangle view1 1 0 4 → IsLeast triangle view1 1 0 4
    joined (inl p) = p
    joined (inr q) = absurd (omega (arith, q.none))

    parted : IsDistance triangle (λ l. 0) 1 0 NONE → IsUnreachable triangle (λ l. 0) 1 0 NONE
    parted (inl p) = absurd (no_way p.attained.1 (λ e. omega arith))
    parted (inr q) = q
