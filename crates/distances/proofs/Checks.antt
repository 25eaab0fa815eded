-- Laws of a list of checks: the number that an early return gives, what a list tells where none applies, and when two lists give the
-- same number. Assumes nothing.
use Prim.Native.Nat.{ℕ, ◌≤◌, ◌<◌}
use mathlib.Core.Path.{◌≡◌, refl}
use mathlib.Core.Bool.{Bool, true, false, cond, ◌&&◌, not}
use mathlib.Core.List.{List, [], ◌∷◌}
use lib.Dec.{leb}
use borrow.Author.Tests.{le-leb, lt-leb}
use Rattle.distances.specs.Refusal.{Check, check, refusal}
use Rattle.distances.proofs.Booleans.{not-both}

-- the list's first check that applies has the number, 0 where none does
pub data First : List Check → ℕ → Type 0 where
  none : First [] 0
  here : {b : Bool} {n : ℕ} {cs : List Check} → b ≡ true → First (check b n ∷ cs) n
  next : {b : Bool} {n m : ℕ} {cs : List Check} → b ≡ false → First cs m → First (check b n ∷ cs) m

pub first : {cs : List Check} {n : ℕ} → First cs n → n ≡ refusal cs
unfolding refusal
first none = refl
first (here e) = rw e
first (next e f) = rw e (first f)

pub passed : (c : Check) (cs : List Check) → (c.number ≡ 0 → ⊥) → refusal (c ∷ cs) ≡ 0 → (c.when ≡ false) × (refusal cs ≡ 0)
unfolding refusal
passed c cs positive = go c.when refl
  where
    go : (b : Bool) → c.when ≡ b → cond b c.number (refusal cs) ≡ 0 → (c.when ≡ false) × (refusal cs ≡ 0)
    go true w e = absurd (positive e)
    go false w e = (w, e)

-- a check that does not apply leaves the number to the later ones
pub later : (c : Check) (cs : List Check) → c.when ≡ false → refusal (c ∷ cs) ≡ refusal cs
unfolding refusal
later c cs e = rw e

-- the first checks agree, and where they do not apply the later ones do
pub refusal-next :
    (x y : Check) (xs ys : List Check) →
    x.when ≡ y.when →
    x.number ≡ y.number →
    (y.when ≡ false → refusal xs ≡ refusal ys) →
    refusal (x ∷ xs) ≡ refusal (y ∷ ys)
unfolding refusal
refusal-next x y xs ys when number later = rw (when, number) (go y.when later)
  where
    go : (b : Bool) → (b ≡ false → refusal xs ≡ refusal ys) → cond b y.number (refusal xs) ≡ cond b y.number (refusal ys)
    go true later = refl
    go false later = later refl

-- the check that a number lies between two
module _ (a n b : ℕ) where
  pub within : a ≤ n → n ≤ b → not (leb a n && leb n b) ≡ false
  within low high = rw (le-leb a n low, le-leb n b high)

  pub too-low : n < a → not (leb a n && leb n b) ≡ true
  too-low h = rw (lt-leb a n h)

  pub too-high : b < n → not (leb a n && leb n b) ≡ true
  too-high h = rw (not-both (leb a n) (leb n b) (lt-leb n b h))
