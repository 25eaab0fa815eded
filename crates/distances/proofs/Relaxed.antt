-- The laws of `relaxed_below`, the least by way of the bridges below a number, over any start. Assumes nothing.
use Prim.Native.Nat.{ℕ, zero, suc, ◌+◌, ◌<◌, ◌≤◌, min}
use mathlib.Core.Path.{◌≡◌}
use mathlib.Core.Logic.{◌⊎◌, inl, inr}
use native.Mathlib.Nat.{le_refl, le_of_suc-le-suc, not-suc-le-zero, eq-or-lt_of_le, min-eq_left, min-eq_right}
use native.Mathlib.Decide.{dec_le}
use native.Mathlib.Omega.{arith}
use Rattle.distances.specs.View.{NONE}
use Rattle.distances.specs.Distance.{relaxed, relaxed_below}

-- the start is the greatest
pub relaxed-le : (f : ℕ → ℕ → ℕ) (m i j : ℕ) → relaxed_below f m i j ≤ f i j
unfolding relaxed relaxed_below
relaxed-le f zero i j = le_refl _
relaxed-le f (suc m) i j = omega (arith, relaxed-le f m i j)

-- no way through a bridge below m is less
pub relaxed-triangle :
    (f : ℕ → ℕ → ℕ) (m i j k : ℕ) → k < m → relaxed_below f m i j ≤ relaxed_below f m i k + relaxed_below f m k j
unfolding relaxed relaxed_below
relaxed-triangle f zero i j k h = absurd (not-suc-le-zero h)
relaxed-triangle f (suc m) i j k h = go (eq-or-lt_of_le (le_of_suc-le-suc h)) (λ a b l. relaxed-triangle f m a b k l)
  where
    F : ℕ → ℕ → ℕ
    F a b = relaxed_below f m a b

    go : (k ≡ m) ⊎ (k < m) → ((a b : ℕ) → k < m → F a b ≤ F a k + F k b) →
        min (F i j) (F i m + F m j) ≤ min (F i k) (F i m + F m k) + min (F k j) (F k m + F m j)
    go (inl e) rec = rw e (omega arith)
    go (inr l) rec = omega (arith, rec i j l, rec i m l, rec m j l)

pub relaxed-symmetric :
    (f : ℕ → ℕ → ℕ) → ((i j : ℕ) → f i j ≡ f j i) → (m i j : ℕ) → relaxed_below f m i j ≡ relaxed_below f m j i
unfolding relaxed relaxed_below
relaxed-symmetric f h zero i j = h i j
relaxed-symmetric f h (suc m) i j =
    omega (arith, relaxed-symmetric f h m i j, relaxed-symmetric f h m i m, relaxed-symmetric f h m m j)

-- two starts that agree on the pairs of the first n agree there by way of one of them, and of any below a number
pub relaxed-once :
    (f h : ℕ → ℕ → ℕ) (n : ℕ) →
    ((i j : ℕ) → i < n → j < n → f i j ≡ h i j) →
    (k : ℕ) → k < n → (i j : ℕ) → i < n → j < n → relaxed f k i j ≡ relaxed h k i j
unfolding relaxed
relaxed-once f h n same k b i j p q = rw (same i j p q, same i k p b, same k j b q)

pub relaxed-agrees :
    (f h : ℕ → ℕ → ℕ) (n : ℕ) →
    ((i j : ℕ) → i < n → j < n → f i j ≡ h i j) →
    (m : ℕ) → m ≤ n → (i j : ℕ) → i < n → j < n → relaxed_below f m i j ≡ relaxed_below h m i j
unfolding relaxed_below
relaxed-agrees f h n same zero b i j p q = same i j p q
relaxed-agrees f h n same (suc m) b i j p q =
    relaxed-once (relaxed_below f m) (relaxed_below h m) n (relaxed-agrees f h n same m (omega arith)) m b i j p q

-- what is known of each number of the start but NONE, and of the sum of two in a row, is known of each number by way of bridges
pub relaxed-attained :
    (P : ℕ → ℕ → ℕ → Type 0) →
    ((i k j a b : ℕ) → P i k a → P k j b → P i j (a + b)) →
    (f : ℕ → ℕ → ℕ) →
    ((i j : ℕ) → f i j ≤ NONE) →
    ((i j : ℕ) → (f i j ≡ NONE → ⊥) → P i j (f i j)) →
    (m i j : ℕ) → (relaxed_below f m i j ≡ NONE → ⊥) → P i j (relaxed_below f m i j)
unfolding relaxed relaxed_below
relaxed-attained P join f most start zero i j n = start i j n
relaxed-attained P join f most start (suc m) i j n =
    go (dec_le (F i j) (F i m + F m j)) (λ a b. relaxed-attained P join f most start m a b)
  where
    F : ℕ → ℕ → ℕ
    F a b = relaxed_below f m a b

    go : Dec (F i j ≤ F i m + F m j) → ((a b : ℕ) → (F a b ≡ NONE → ⊥) → P a b (F a b)) → P i j (min (F i j) (F i m + F m j))
    go (yes l) rec = rw (min-eq_left l) (rec i j (λ e. n (omega arith)))
    go (no l) rec =
        let least : F i j ≤ NONE = omega (arith, relaxed-le f m i j, most i j) in
        rw
        (min-eq_right {n = F i m + F m j} {m = F i j} (omega arith))
        (join i m j (F i m) (F m j) (rec i m (λ e. n (omega arith))) (rec m j (λ e. n (omega arith))))
