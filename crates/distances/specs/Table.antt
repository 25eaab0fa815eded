-- A table of 16 rows of 16 numbers in a lent list: place 16 i + j is row i, column j. Assumes nothing.
use Rattle.std.specs.Prelude.{ℕ, suc, ◌+◌, ◌*◌, ◌/◌, ◌%◌, Bool, cond, ◌&&◌, List, [], ◌∷◌, get_or, ltb, eqb}

-- the number in row i, column j
unfoldable pub cell : List ℕ → ℕ → ℕ → ℕ
cell t i j = get_or t (16 * i + j) 0

-- the list in which each place p that is chosen, counted from k, holds f p, and every other is as before
unfoldable pub rewritten_from : {A : Type 0} → ℕ → (ℕ → Bool) → (ℕ → A) → List A → List A
rewritten_from k chosen f [] = []
rewritten_from k chosen f (x ∷ xs) = cond (chosen k) (f k) x ∷ rewritten_from (suc k) chosen f xs

unfoldable pub rewritten : {A : Type 0} → (ℕ → Bool) → (ℕ → A) → List A → List A
rewritten chosen f t = rewritten_from 0 chosen f t

-- is place p in row i, in the first n columns
unfoldable pub is_in_row : ℕ → ℕ → ℕ → Bool
is_in_row n i p = eqb (p / 16) i && ltb (p % 16) n

-- is place p a pair of the first n rows and columns
unfoldable pub is_pair : ℕ → ℕ → Bool
is_pair n p = ltb (p / 16) n && ltb (p % 16) n

-- the table in which each pair (i, j) of the first n holds f i j, and every other number is as before
unfoldable pub with_pairs : ℕ → (ℕ → ℕ → ℕ) → List ℕ → List ℕ
with_pairs n f t = rewritten (is_pair n) (λ p. f (p / 16) (p % 16)) t
