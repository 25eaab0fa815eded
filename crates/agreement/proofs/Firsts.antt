-- Laws of the least number below n that passes a test. Assumes nothing.
use Prim.Native.Nat.{ℕ, zero, suc, ◌≤◌, ◌<◌}
use native.Mathlib.Omega.{arith}
use mathlib.Core.Bool.{Bool, true, false, cond, ◌&&◌, ◌||◌, not}
use mathlib.Core.Path.{◌≡◌, refl}
use borrow.Author.Tests.{ltb-true, ltb-false, lt-ltb, le-ltb, eqb-true, eqb-false}
use lib.Dec.{eqb, ltb}
use Rattle.agreement.specs.Tests.{first_below}

-- what a function gives at the least number that passes, z where none does
abbrev pub at_first : {A : Type 0} → (ℕ → Bool) → ℕ → (ℕ → A) → A → A
at_first test n at z = cond (ltb (first_below n test) n) (at (first_below n test)) z

module _ (test : ℕ → Bool) where
  -- what is found passes
  pub first_passes : (n : ℕ) → first_below n test < n → test (first_below n test) ≡ true
  unfolding first_below
  first_passes zero h = absurd (omega arith)
  first_passes (suc n) h = go (ltb (first_below n test) n) (test n) refl refl (first_passes n) h
    where
      go : (b t : Bool) → ltb (first_below n test) n ≡ b → test n ≡ t → (first_below n test < n → test (first_below n test) ≡ true) →
          cond b (first_below n test) (cond t n (suc n)) < suc n → test (cond b (first_below n test) (cond t n (suc n))) ≡ true
      go true t e d below h = below (ltb-true (first_below n test) n e)
      go false true e d below h = d
      go false false e d below h = absurd (omega arith)

  -- where k passes, something is found, at most k
  pub first-at-most : (n k : ℕ) → k < n → test k ≡ true → first_below n test ≤ k
  unfolding first_below
  first-at-most zero k h t = absurd (omega arith)
  first-at-most (suc n) k h t = go (ltb (first_below n test) n) (eqb k n) refl refl (first-at-most n k)
    where
      go : (b d : Bool) → ltb (first_below n test) n ≡ b → eqb k n ≡ d → (k < n → test k ≡ true → first_below n test ≤ k) →
          cond b (first_below n test) (cond (test n) n (suc n)) ≤ k
      go true true e d below = omega (arith, ltb-true (first_below n test) n e, eqb-true k n d)
      go true false e d below = below (omega (arith, eqb-false k n d)) t
      go false true e d below =
          let z : n ≡ k = omega (arith, eqb-true k n d) in
          rw (z, t) (omega arith)
      go false false e d below =
          let b : k < n = omega (arith, eqb-false k n d) in
          absurd (omega (arith, ltb-false (first_below n test) n e, below b t))

  -- with one number more: something is found if it was before, or if that number passes
  pub found-more : (n : ℕ) → ltb (first_below (suc n) test) (suc n) ≡ (ltb (first_below n test) n || test n)
  unfolding first_below
  found-more n = go (ltb (first_below n test) n) (test n) refl
    where
      go : (b t : Bool) → ltb (first_below n test) n ≡ b → ltb (cond b (first_below n test) (cond t n (suc n))) (suc n) ≡ (b || t)
      go true t e = lt-ltb (first_below n test) (suc n) (omega (arith, ltb-true (first_below n test) n e))
      go false true e = lt-ltb n (suc n) (omega arith)
      go false false e = le-ltb (suc n) (suc n) (omega arith)

  -- and it is that number if nothing was found before
  pub at-first-more :
      {A : Type 0} (at : ℕ → A) (z : A) (n : ℕ) →
      at_first test (suc n) at z ≡ cond (not (ltb (first_below n test) n) && test n) (at n) (at_first test n at z)
  unfolding first_below
  at-first-more {A} at z n = go (ltb (first_below n test) n) (test n) refl
    where
      found : Bool → Bool → ℕ
      found b t = cond b (first_below n test) (cond t n (suc n))

      go :
          (b t : Bool) →
          ltb (first_below n test) n ≡ b →
          cond (ltb (found b t) (suc n)) (at (found b t)) z ≡ cond (not b && t) (at n) (cond b (at (first_below n test)) z)
      go true t e = rw (lt-ltb (first_below n test) (suc n) (omega (arith, ltb-true (first_below n test) n e)))
      go false true e = rw (lt-ltb n (suc n) (omega arith))
      go false false e = rw (le-ltb (suc n) (suc n) (omega arith))

pub first_cong : (n : ℕ) (test other : ℕ → Bool) → ((k : ℕ) → k < n → test k ≡ other k) → first_below n test ≡ first_below n other
unfolding first_below
first_cong zero test other h = refl
first_cong (suc n) test other h = rw (first_cong n test other (λ k b. h k (omega arith)), h n (omega arith))
