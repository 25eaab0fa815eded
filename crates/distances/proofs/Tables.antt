-- Laws of the lent table: of a list rewritten at its chosen places, of its pairs, of one place stored. Assumes nothing.
use Prim.Native.Nat.{ℕ, zero, suc, ◌+◌, ◌*◌, ◌/◌, ◌%◌, ◌≤◌, ◌<◌}
use native.Mathlib.Nat.{zero-add, suc-add, add-suc, add-zero, not-suc-le-zero, le_of_suc-le-suc}
use native.Mathlib.Omega.{arith}
use mathlib.Core.Path.{◌≡◌, refl, sym, ◌∙◌, ap}
use mathlib.Core.Bool.{Bool, true, false, cond, ◌&&◌}
use mathlib.Core.List.{List, [], ◌∷◌}
use borrow.Author.Tests.{ltb-true, lt-ltb, eqb-true, eqb-false}
use lib.ListN.{length, get_or, set, length-set, take, drop}
use lib.Seq.{ext_get_or, get_or-set_same, get_or-set_other, get_or-take, get_or-drop}
use lib.Dec.{eqb, ltb}
use Rattle.distances.specs.Table.{cell, rewritten_from, rewritten, is_in_row, is_pair, with_pairs}
use Rattle.distances.proofs.Booleans.{cond-by, both_true, true-both}

-- ---- places

-- the place where a cell stands
pub cell-is : (t : List ℕ) (i j : ℕ) → cell t i j ≡ get_or t (16 * i + j) 0
unfolding cell
cell-is t i j = refl

-- what tells that a place is in a row: its row, and its column
pub is_in_row-is : (n i p : ℕ) → is_in_row n i p ≡ (eqb (p / 16) i && ltb (p % 16) n)
unfolding is_in_row
is_in_row-is n i p = refl

-- ---- a list rewritten

module _ {A : Type 0} (c : ℕ → Bool) (f : ℕ → A) where
  rewritten_from-length : (k : ℕ) (t : List A) → length (rewritten_from k c f t) ≡ length t
  unfolding rewritten_from
  rewritten_from-length k [] = refl
  rewritten_from-length k (x ∷ xs) = ap suc (rewritten_from-length (suc k) xs)

  rewritten_from-at : (d : A) (k : ℕ) (t : List A) (p : ℕ) → p < length t → get_or (rewritten_from k c f t) p d ≡ cond (c (p + k)) (f (p + k)) (get_or t p d)
  unfolding rewritten_from
  rewritten_from-at d k [] p h = absurd (not-suc-le-zero h)
  rewritten_from-at d k (x ∷ xs) zero h = rw zero-add
  rewritten_from-at d k (x ∷ xs) (suc p) h = rw (suc-add, ← add-suc) (rewritten_from-at d (suc k) xs p (le_of_suc-le-suc h))

  module _ (t : List A) where
    pub rewritten-length : length (rewritten c f t) ≡ length t
    unfolding rewritten
    rewritten-length = rewritten_from-length 0 t

    module _ (d : A) where
      -- what stands at a place, whatever stands past the end
      pub element-at : (p : ℕ) → p < length t → get_or (rewritten c f t) p d ≡ cond (c p) (f p) (get_or t p d)
      unfolding rewritten
      element-at p h = rw add-zero at (rewritten_from-at d 0 t p h)

      pub elements-are : (l : List A) → length l ≡ length t → ((p : ℕ) → p < length t → get_or l p d ≡ cond (c p) (f p) (get_or t p d)) → l ≡ rewritten c f t
      elements-are l e h =
          ext_get_or d l (rewritten c f t) (e ∙ sym rewritten-length) (λ p b. h p (rw e at b) ∙ sym (element-at p (rw e at b)))

module _ (c : ℕ → Bool) (f : ℕ → ℕ) (t : List ℕ) where
  pub rewritten-at : (p : ℕ) → p < length t → get_or (rewritten c f t) p 0 ≡ cond (c p) (f p) (get_or t p 0)
  rewritten-at = element-at c f t 0

  -- a list of the same length with the same numbers
  pub rewritten-is : (l : List ℕ) → length l ≡ length t → ((p : ℕ) → p < length t → get_or l p 0 ≡ cond (c p) (f p) (get_or t p 0)) → l ≡ rewritten c f t
  rewritten-is = elements-are c f t 0

  pub rewritten-none : ((p : ℕ) → c p ≡ false) → t ≡ rewritten c f t
  rewritten-none h = rewritten-is t refl (λ p b. rw (h p))

pub rewritten-same : (c d : ℕ → Bool) (f : ℕ → ℕ) (t : List ℕ) → ((p : ℕ) → c p ≡ d p) → rewritten c f t ≡ rewritten d f t
rewritten-same c d f t h = rewritten-is d f t (rewritten c f t) (rewritten-length c f t) (λ p b. rewritten-at c f t p b ∙ rw (h p))

pub get_d_set : (l : List ℕ) (p v q : ℕ) → p < length l → get_or (set l p v) q 0 ≡ cond (eqb q p) v (get_or l q 0)
get_d_set l p v q h = cond-by (eqb q p) (λ e. rw (eqb-true q p e) (get_or-set_same l p v 0 h)) (λ e. get_or-set_other l p q v 0 (eqb-false q p e))

-- one place more, stored: every other place is chosen as it was
pub rewritten-set :
    (c d : ℕ → Bool) (f : ℕ → ℕ) (t : List ℕ) (p v : ℕ) →
    p < length t →
    v ≡ cond (d p) (f p) (get_or t p 0) →
    ((q : ℕ) → (q ≡ p → ⊥) → c q ≡ d q) →
    set (rewritten c f t) p v ≡ rewritten d f t
rewritten-set c d f t p v h ev same = rewritten-is d f t (set (rewritten c f t) p v) (length-set (rewritten c f t) p v ∙ rewritten-length c f t) at
  where
    at : (q : ℕ) → q < length t → get_or (set (rewritten c f t) p v) q 0 ≡ cond (d q) (f q) (get_or t q 0)
    at q b =
        get_d_set (rewritten c f t) p v q (rw rewritten-length h)
        ∙ sym (cond-by (eqb q p) (λ e. rw (eqb-true q p e) (sym ev)) (λ e. rw (rewritten-at c f t q b, same q (eqb-false q p e))))

-- ---- pairs

pub pair-true : (n p : ℕ) → is_pair n p ≡ true → (p / 16 < n) × (p % 16 < n)
unfolding is_pair
pair-true n p e =
    let h = both_true (ltb (p / 16) n) (ltb (p % 16) n) e in
    (ltb-true (p / 16) n h.0, ltb-true (p % 16) n h.1)

pub true-pair : (n p : ℕ) → p / 16 < n → p % 16 < n → is_pair n p ≡ true
unfolding is_pair
true-pair n p h k = true-both (lt-ltb (p / 16) n h) (lt-ltb (p % 16) n k)

pub row_of : (i j : ℕ) → j < 16 → (16 * i + j) / 16 ≡ i
row_of i j h = omega arith

pub column-of : (i j : ℕ) → j < 16 → (16 * i + j) % 16 ≡ j
column-of i j h = omega arith

pub place_of : (p : ℕ) → 16 * (p / 16) + p % 16 ≡ p
place_of p = omega arith

module _ (n : ℕ) (t : List ℕ) where
  pub with_pairs-length : (f : ℕ → ℕ → ℕ) → length (with_pairs n f t) ≡ length t
  unfolding with_pairs
  with_pairs-length f = rewritten-length (is_pair n) (λ p. f (p / 16) (p % 16)) t

  pub with_pairs-at : (f : ℕ → ℕ → ℕ) (p : ℕ) → p < length t → get_or (with_pairs n f t) p 0 ≡ cond (is_pair n p) (f (p / 16) (p % 16)) (get_or t p 0)
  unfolding with_pairs
  with_pairs-at f p h = rewritten-at (is_pair n) (λ q. f (q / 16) (q % 16)) t p h

  pub with_pairs-is :
      (f : ℕ → ℕ → ℕ) (l : List ℕ) →
      length l ≡ length t →
      ((p : ℕ) → p < length t → get_or l p 0 ≡ cond (is_pair n p) (f (p / 16) (p % 16)) (get_or t p 0)) →
      l ≡ with_pairs n f t
  unfolding with_pairs
  with_pairs-is f l e h = rewritten-is (is_pair n) (λ q. f (q / 16) (q % 16)) t l e h

  pub with_pairs-cong : (f g : ℕ → ℕ → ℕ) → ((i j : ℕ) → i < n → j < n → f i j ≡ g i j) → with_pairs n f t ≡ with_pairs n g t
  with_pairs-cong f g h =
      with_pairs-is g (with_pairs n f t) (with_pairs-length f) (λ p b. with_pairs-at f p b ∙ cond-by (is_pair n p) (λ e. rw e (at p (pair-true n p e))) (λ e. rw e))
    where
      at : (p : ℕ) → (p / 16 < n) × (p % 16 < n) → f (p / 16) (p % 16) ≡ g (p / 16) (p % 16)
      at p w = h (p / 16) (p % 16) w.0 w.1

  pub cell-with_pairs : (f : ℕ → ℕ → ℕ) (i j : ℕ) → n ≤ 16 → 256 ≤ length t → i < n → j < n → cell (with_pairs n f t) i j ≡ f i j
  unfolding cell
  cell-with_pairs f i j h k hi hj =
      let b : j < 16 = omega arith in
      let e : is_pair n (16 * i + j) ≡ true = true-pair n (16 * i + j) (omega arith) (omega arith) in
      with_pairs-at f (16 * i + j) (omega arith) ∙ rw (e, row_of i j b, column-of i j b)

-- rewritten twice: the last one stays
pub with_pairs-twice : (n : ℕ) (t : List ℕ) (f g : ℕ → ℕ → ℕ) → with_pairs n g (with_pairs n f t) ≡ with_pairs n g t
with_pairs-twice n t f g =
    with_pairs-is n t g (with_pairs n g (with_pairs n f t)) (with_pairs-length n (with_pairs n f t) g ∙ with_pairs-length n t f) at
  where
    at : (p : ℕ) → p < length t → get_or (with_pairs n g (with_pairs n f t)) p 0 ≡ cond (is_pair n p) (g (p / 16) (p % 16)) (get_or t p 0)
    at p b =
        with_pairs-at n (with_pairs n f t) g p (rw (with_pairs-length n t f) b)
        ∙ cond-by (is_pair n p) (λ e. rw e) (λ e. rw (e, with_pairs-at n t f p b, e))

-- a cell of the k-th block of 256 numbers
pub cell-block : (k i j : ℕ) (l : List ℕ) → i < 16 → j < 16 → cell (take 256 (drop (256 * k) l)) i j ≡ get_or l (256 * k + 16 * i + j) 0
unfolding cell
cell-block k i j l hi hj =
    let low : 16 * i + j < 256 = omega arith in
    get_or-take 256 (drop (256 * k) l) (16 * i + j) 0 low
    ∙ get_or-drop (256 * k) l (16 * i + j) 0
    ∙ ap (λ (p : ℕ). get_or l p 0) (omega arith)
