-- Tests over numbers, and the least number that passes one. Assumes nothing.
use Rattle.std.specs.Prelude.{ℕ, zero, suc, Bool, cond, ltb}

-- the least number below n that passes the test, n where none does
unfoldable pub first_below : ℕ → (ℕ → Bool) → ℕ
first_below zero test = zero
first_below (suc n) test = cond (ltb (first_below n test) n) (first_below n test) (cond (test n) n (suc n))
