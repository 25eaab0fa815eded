-- Tests: what a conjunction, a disjunction or a negated test tells, and a choice by a test. Assumes nothing.
use mathlib.Core.Bool.{Bool, true, false, cond, ◌&&◌, ◌||◌, not, false≢true}
use mathlib.Core.Path.{◌≡◌, refl, sym}
use mathlib.Core.Logic.{◌⊎◌, inl, inr}
use Prim.Native.Nat.{ℕ, ◌<◌}
use lib.Dec.{eqb, ltb}
use borrow.Author.Tests.{eqb-false, ltb-true, not-true, not-false}

pub both_true : (p q : Bool) → (p && q) ≡ true → (p ≡ true) × (q ≡ true)
both_true true q e = (refl, e)
both_true false q e = absurd (false≢true e)

pub true-both : {p q : Bool} → p ≡ true → q ≡ true → (p && q) ≡ true
true-both e d = rw (e, d)

pub not-both : (p q : Bool) → q ≡ false → (p && q) ≡ false
not-both true q e = e
not-both false q e = refl

pub one-true : (p q : Bool) → (p || q) ≡ true → (p ≡ true) ⊎ (q ≡ true)
one-true true q e = inl refl
one-true false q e = inr e

-- the second where the first fails
pub otherwise : (p q : Bool) → (p || q) ≡ true → p ≡ false → q ≡ true
otherwise true q e f = absurd (false≢true (sym f))
otherwise false q e f = e

-- the first fails where the second holds and not both do
pub other-false : (p q : Bool) → not (p && q) ≡ true → q ≡ true → p ≡ false
other-false true q e f = absurd (false≢true (rw f at e))
other-false false q e f = refl

-- negated tests on numbers
pub unequal : (a b : ℕ) → not (eqb a b) ≡ true → a ≡ b → ⊥
unequal a b e = eqb-false a b (not-true (eqb a b) e)

pub below : (i n : ℕ) → not (ltb i n) ≡ false → i < n
below i n e = ltb-true i n (not-false (ltb i n) e)

pub same_test : (p q : Bool) → (p ≡ true → q ≡ true) → (q ≡ true → p ≡ true) → p ≡ q
same_test true q f g = sym (f refl)
same_test false true f g = g refl
same_test false false f g = refl

pub cond-by : (b : Bool) {x y z : ℕ} → (b ≡ true → z ≡ x) → (b ≡ false → z ≡ y) → z ≡ cond b x y
cond-by true yes' no' = yes' refl
cond-by false yes' no' = no' refl
