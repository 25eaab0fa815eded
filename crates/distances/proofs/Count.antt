-- How many of the numbers below n pass a test, and how many have a smaller value than a given one. Assumes nothing.
use Prim.Native.Nat.{ℕ, zero, suc, ◌+◌, ◌*◌, ◌<◌, ◌≤◌}
use mathlib.Core.Bool.{Bool, true, false, cond, false≢true}
use mathlib.Core.Path.{◌≡◌, refl, subst}
use mathlib.Core.Logic.{◌⊎◌, inl, inr}
use native.Mathlib.Nat.{le_refl, le_of_suc-le-suc, not-suc-le-zero, eq-or-lt_of_le, mul-suc, mul-le-mul_left}
use native.Mathlib.Omega.{arith}
use lib.Dec.{ltb}
use borrow.Author.Tests.{ltb-true, lt-ltb, le-ltb}

unfoldable pub count : (ℕ → Bool) → ℕ → ℕ
count test zero = 0
count test (suc n) = cond (test n) 1 0 + count test n

-- one test's share
share-le : (b : Bool) → cond b 1 0 ≤ 1
share-le true = omega arith
share-le false = omega arith

share-mono : (a b : Bool) → (a ≡ true → b ≡ true) → ◌≤◌ (cond a 1 0) (cond b 1 0)
share-mono true true h = omega arith
share-mono true false h = absurd (false≢true (h refl))
share-mono false true h = omega arith
share-mono false false h = omega arith

share-more : (a b : Bool) → a ≡ false → b ≡ true → ◌<◌ (cond a 1 0) (cond b 1 0)
share-more a b e f = rw (e, f) (omega arith)

-- no more pass than there are
pub count-le : (p : ℕ → Bool) (n : ℕ) → count p n ≤ n
unfolding count
count-le p zero = omega arith
count-le p (suc n) = omega (arith, share-le (p n), count-le p n)

-- a wider test counts no fewer
pub count-mono : (p q : ℕ → Bool) (n : ℕ) → ((z : ℕ) → z < n → p z ≡ true → q z ≡ true) → count p n ≤ count q n
unfolding count
count-mono p q zero h = omega arith
count-mono p q (suc n) h = omega (arith, share-mono (p n) (q n) (h n (le_refl _)), count-mono p q n (λ z l. h z (omega arith)))

-- a wider test that one more number passes counts more
pub count-more :
    (p q : ℕ → Bool) (n : ℕ) → ((z : ℕ) → z < n → p z ≡ true → q z ≡ true) → (y : ℕ) → y < n → p y ≡ false → q y ≡ true → count p n < count q n
unfolding count
count-more p q zero h y l out here = absurd (not-suc-le-zero l)
count-more p q (suc n) h y l out here =
    go (eq-or-lt_of_le (le_of_suc-le-suc l)) (λ m. count-more p q n (λ z k. h z (omega arith)) y m out here)
  where
    go : (y ≡ n) ⊎ (y < n) → (y < n → count p n < count q n) → cond (p n) 1 0 + count p n < cond (q n) 1 0 + count q n
    go (inl e) rec =
        omega (
          arith,
          share-more (p n) (q n) (subst (λ (x : ℕ). p x ≡ false) e out) (subst (λ (x : ℕ). q x ≡ true) e here),
          count-mono p q n (λ z k. h z (omega arith)),
        )
    go (inr m) rec = omega (arith, share-mono (p n) (q n) (h n (le_refl _)), rec m)

-- not all pass where one does not
pub count-missing : (p : ℕ → Bool) (n y : ℕ) → y < n → p y ≡ false → count p n < n
count-missing p n y l out = omega (arith, count-more p (λ z. true) n (λ z k e. refl) y l out refl, count-le (λ z. true) n)

-- how many of the numbers below n have a smaller value than y
unfoldable pub nearer : (ℕ → ℕ) → ℕ → ℕ → ℕ
nearer value n y = count (λ z. ltb (value z) (value y)) n

module _ (value : ℕ → ℕ) (n : ℕ) where
  -- fewer for a smaller value
  pub nearer-falls : (z y : ℕ) → z < n → value z < value y → nearer value n z < nearer value n y
  unfolding nearer
  nearer-falls z y l h =
      count-more
      (λ x. ltb (value x) (value z))
      (λ x. ltb (value x) (value y))
      n
      (λ x k e. lt-ltb (value x) (value y) (omega (arith, ltb-true (value x) (value z) e)))
      z
      l
      (le-ltb (value z) (value z) (le_refl _))
      (lt-ltb (value z) (value y) h)

  -- y itself is not among them
  pub nearer-less : (y : ℕ) → y < n → nearer value n y < n
  unfolding nearer
  nearer-less y l = count-missing (λ x. ltb (value x) (value y)) n y l (le-ltb (value y) (value y) (le_refl _))

  -- where each value that is neither 0 nor limit or more falls by at most m to that of some number below n, it is at most m for
  -- each smaller value
  pub falls-bound :
      (m limit : ℕ) →
      ((y : ℕ) → value y < limit → (value y ≡ 0) ⊎ ((z : ℕ) × (z < n) × (value z < value y) × (value y ≤ m + value z))) →
      (y : ℕ) → value y < limit → value y ≤ m * nearer value n y
  falls-bound m limit step y small = go (value y) y (le_refl _) small
    where
      more : (z y : ℕ) → z < n → value z < value y → m + m * nearer value n z ≤ m * nearer value n y
      more z y l h = omega (arith, mul-suc m (nearer value n z), mul-le-mul_left m (nearer-falls z y l h))

      case : (y : ℕ) → (value y ≡ 0) ⊎ ((z : ℕ) × (z < n) × (value z < value y) × (value y ≤ m + value z)) →
          ((z : ℕ) → value z < value y → value z ≤ m * nearer value n z) → value y ≤ m * nearer value n y
      case y (inl e) rec = omega arith
      case y (inr h) rec = omega (arith, rec h.0 h.2, more h.0 y h.1 h.2)

      go : (k y : ℕ) → value y ≤ k → value y < limit → value y ≤ m * nearer value n y
      go zero y b s = omega arith
      go (suc k) y b s = case y (step y s) (λ z h. go k z (omega arith) (omega arith))
