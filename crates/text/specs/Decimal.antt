-- A number in decimal, as bytes. Assumes nothing.
use Rattle.std.specs.Prelude.{ℕ, zero, suc, ◌+◌, ◌*◌, ◌/◌, ◌%◌, ◌^◌, ◌<◌, ◌≤◌, ◌≡◌, cond, List, [], ◌∷◌, ◌++◌, length, get_or, ltb}

-- the byte of a digit
abbrev pub digit : ℕ → ℕ
digit d = 48 + d

-- a number of at most k + 1 digits
unfoldable pub digits : ℕ → ℕ → List ℕ
digits zero n = digit (n % 10) ∷ []
digits (suc k) n = cond (ltb n 10) (digit n ∷ []) (digits k (n / 10) ++ (digit (n % 10) ∷ []))

-- a number of 32 bits has at most ten
abbrev pub decimal : ℕ → List ℕ
decimal n = digits 9 n

-- the number that digits stand for
unfoldable pub value_from : ℕ → List ℕ → ℕ
value_from v [] = v
value_from v (b ∷ bs) = value_from (10 * v + (b % 48)) bs

-- the claim: the bytes of a number of 32 bits are digits, `0` to `9`, that stand for it; 0 is `0`, and no other begins with `0`
pub record DecimalTells : Type 0 where
  pub value : (n : ℕ) → n < 2 ^ 32 → value_from 0 (decimal n) ≡ n
  pub digits : (n i : ℕ) → i < length (decimal n) → (48 ≤ get_or (decimal n) i 0) × (get_or (decimal n) i 0 ≤ 57)
  pub zero : decimal 0 ≡ 48 ∷ []
  pub first : (n : ℕ) → 0 < n → n < 2 ^ 32 → 48 < get_or (decimal n) 0 0
