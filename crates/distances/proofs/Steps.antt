-- Laws of the private steps: links joined into the table, rows and passes. Assumes nothing.
use Prim.Native.Nat.{ℕ, zero, suc, ◌+◌, ◌*◌, ◌/◌, ◌%◌, ◌≤◌, ◌<◌, min}
use native.Mathlib.Numerals.{add-one}
use native.Mathlib.Omega.{arith}
use mathlib.Core.Path.{◌≡◌, refl, sym, ◌∙◌}
use mathlib.Core.Bool.{Bool, true, false, cond, ◌&&◌, ◌||◌, not, and_comm, and-true}
use mathlib.Core.List.{List}
use borrow.Author.Tests.{ltb-true, lt-ltb, le-ltb, eqb-true, eqb-false, eq-eqb}
use lib.ListN.{length, get_or, set, length-set}
use lib.Dec.{eqb, ltb}
use Rattle.distances.specs.View.{Graph, Costs, graph_of, costs_of, NONE}
use Rattle.distances.specs.Distance.{present, joins, crossing, unjoined, joined_below, relaxed, relaxed_below, dist}
use Rattle.distances.specs.Table.{is_in_row, cell, rewritten, is_pair, with_pairs}
use Rattle.distances.specs.Steps.{weight, lowered, with_link, with_links, with_row}
use Rattle.distances.proofs.Booleans.{cond-by, same_test, both_true, true-both, not-both}
use Rattle.distances.proofs.Relaxed.{relaxed-once, relaxed-agrees}
use Rattle.distances.proofs.Joined.{unjoined-le, joined-le}
use Rattle.distances.proofs.Tables.{
  rewritten-length,
  rewritten-at,
  rewritten-is,
  rewritten-none,
  rewritten-same,
  rewritten-set,
  get_d_set,
  pair-true,
  true-pair,
  row_of,
  column-of,
  place_of,
  with_pairs-length,
  with_pairs-at,
  with_pairs-is,
  with_pairs-cong,
  with_pairs-twice,
  cell-with_pairs,
}

-- ---- clear

-- the pairs of places below p
abbrev pub pairs_below : ℕ → ℕ → ℕ → Bool
pairs_below n p q = is_pair n q && ltb q p

pub ltb-more : (p q : ℕ) → (q ≡ p → ⊥) → ltb q p ≡ ltb q (p + 1)
ltb-more p q h =
    same_test (ltb q p) (ltb q (p + 1)) (λ e. lt-ltb q (p + 1) (omega (arith, ltb-true q p e))) (λ e. lt-ltb q p (omega (arith, ltb-true q (p + 1) e)))

module _ (n : ℕ) (f : ℕ → ℕ) (t : List ℕ) where
  pub clear_none : t ≡ rewritten (pairs_below n 0) f t
  clear_none = rewritten-none (pairs_below n 0) f t (λ q. not-both (is_pair n q) (ltb q 0) (le-ltb q 0 (omega arith)))

  pub clear-more :
      (p v : ℕ) (l : List ℕ) →
      l ≡ rewritten (pairs_below n p) f t →
      p < length t →
      v ≡ cond (is_pair n p) (f p) (get_or l p 0) →
      set l p v ≡ rewritten (pairs_below n (p + 1)) f t
  clear-more p v l e h ev =
      let old : get_or (rewritten (pairs_below n p) f t) p 0 ≡ get_or t p 0 = rewritten-at (pairs_below n p) f t p h ∙ rw (not-both (is_pair n p) (ltb p p) (le-ltb p p (omega arith))) in
      rw e
      (rewritten-set (pairs_below n p) (pairs_below n (p + 1)) f t p v h (ev ∙ rw (e, old, chosen p)) (λ q d. rw (ltb-more p q d)))
    where
      chosen : (p : ℕ) → pairs_below n (p + 1) p ≡ is_pair n p
      chosen p = same_test (pairs_below n (p + 1) p) (is_pair n p) (λ e. (both_true (is_pair n p) (ltb p (p + 1)) e).0) (λ e. true-both e (lt-ltb p (p + 1) (omega arith)))

  pub clear-all : n ≤ 16 → rewritten (pairs_below n (16 * n)) f t ≡ rewritten (is_pair n) f t
  clear-all h = rewritten-same (pairs_below n (16 * n)) (is_pair n) f t same
    where
      same : (q : ℕ) → pairs_below n (16 * n) q ≡ is_pair n q
      same q = same_test (pairs_below n (16 * n) q) (is_pair n q) (λ e. (both_true (is_pair n q) (ltb q (16 * n)) e).0) (λ e. true-both e (lt-ltb q (16 * n) (omega (arith, pair-true n q e))))

-- ---- one link

lowered-at : (t : List ℕ) (p to q : ℕ) → p < length t → get_or (lowered t p to) q 0 ≡ cond (eqb q p) (min (get_or t q 0) to) (get_or t q 0)
unfolding lowered
lowered-at t p to q h =
    get_d_set t p (min (get_or t p 0) to) q h ∙ cond-by (eqb q p) (λ e. rw (e, eqb-true q p e)) (λ e. rw e)

pub lowered-length : (t : List ℕ) (p to : ℕ) → length (lowered t p to) ≡ length t
unfolding lowered
lowered-length t p to = length-set t p (min (get_or t p 0) to)

pub with_link-length : (a b cost : ℕ) (t : List ℕ) → length (with_link a b cost t) ≡ length t
unfolding with_link
with_link-length a b cost t =
    lowered-length (lowered t (16 * a + b) (weight cost)) (16 * b + a) (weight cost) ∙ lowered-length t (16 * a + b) (weight cost)

pub with_links-length : (ends costs : List ℕ) (l : ℕ) (t : List ℕ) → length (with_links ends costs l t) ≡ length t
unfolding with_links
with_links-length ends costs zero t = refl
with_links-length ends costs (suc l) t =
    with_link-length (get_or ends (2 * l) 0) (get_or ends (2 * l + 1) 0) (get_or costs l 0) (with_links ends costs l t) ∙ with_links-length ends costs l t

lowered-twice : (x y : Bool) (v w : ℕ) → cond y (min (cond x (min v w) v) w) (cond x (min v w) v) ≡ cond (x || y) (min v w) v
lowered-twice true true v w = omega arith
lowered-twice true false v w = refl
lowered-twice false true v w = refl
lowered-twice false false v w = refl

with_link-at :
    (a b cost : ℕ) (t : List ℕ) (q : ℕ) →
    16 * a + b < length t →
    16 * b + a < length t →
    get_or (with_link a b cost t) q 0 ≡ cond (eqb q (16 * a + b) || eqb q (16 * b + a)) (min (get_or t q 0) (weight cost)) (get_or t q 0)
unfolding with_link
with_link-at a b cost t q h k =
    lowered-at (lowered t (16 * a + b) (weight cost)) (16 * b + a) (weight cost) q (rw lowered-length k)
    ∙ rw (lowered-at t (16 * a + b) (weight cost) q h) (lowered-twice (eqb q (16 * a + b)) (eqb q (16 * b + a)) (get_or t q 0) (weight cost))

eqb-place : (a b q : ℕ) → b < 16 → eqb q (16 * a + b) ≡ (eqb a (q / 16) && eqb b (q % 16))
eqb-place a b q h =
    same_test (eqb q (16 * a + b)) (eqb a (q / 16) && eqb b (q % 16))
    (λ e. true-both (eq-eqb a (q / 16) (omega (arith, eqb-true q (16 * a + b) e))) (eq-eqb b (q % 16) (omega (arith, eqb-true q (16 * a + b) e))))
    (λ e. eq-eqb q (16 * a + b) (whole (both_true (eqb a (q / 16)) (eqb b (q % 16)) e)))
  where
    whole : (eqb a (q / 16) ≡ true) × (eqb b (q % 16) ≡ true) → q ≡ 16 * a + b
    whole w = omega (arith, eqb-true a (q / 16) w.0, eqb-true b (q % 16) w.1)

-- an absent link, or one that joins others, lowers nothing
lowered-crossing : (absent joined : Bool) (v cost : ℕ) → v ≤ NONE → cond joined (min v (cond absent NONE cost)) v ≡ min v (cond (not absent && joined) cost NONE)
lowered-crossing true true v cost h = refl
lowered-crossing true false v cost h = omega arith
lowered-crossing false true v cost h = refl
lowered-crossing false false v cost h = omega arith

-- a place that is no pair is no cell of a link
off-place : (n a b q : ℕ) → n ≤ 16 → a < n → b < n → is_pair n q ≡ false → eqb q (16 * a + b) ≡ false
off-place n a b q most ha hb e =
    same_test (eqb q (16 * a + b)) false (λ d. sym e ∙ true-pair n q (omega (arith, eqb-true q (16 * a + b) d)) (omega (arith, eqb-true q (16 * a + b) d))) (λ z. cc)

module _ (g : Graph) (c : Costs) (n : ℕ) (t : List ℕ) (most : n ≤ 16) (long : 256 ≤ length t) where
  pub with_link-pairs :
      (l a b : ℕ) (f : ℕ → ℕ → ℕ) →
      g.bridge_at (2 * l) ≡ a →
      g.bridge_at (2 * l + 1) ≡ b →
      a < n →
      b < n →
      ((i j : ℕ) → f i j ≤ NONE) →
      with_link a b (c l) (with_pairs n f t) ≡ with_pairs n (λ i j. min (f i j) (crossing g c l i j)) t
  unfolding crossing present joins weight
  with_link-pairs l a b f ea eb ha hb small =
      with_pairs-is n t (λ i j. min (f i j) (crossing g c l i j)) (with_link a b (c l) (with_pairs n f t)) (with_link-length a b (c l) (with_pairs n f t) ∙ with_pairs-length n t f) at
    where
      old : (q : ℕ) → q < length t → get_or (with_pairs n f t) q 0 ≡ cond (is_pair n q) (f (q / 16) (q % 16)) (get_or t q 0)
      old q h = with_pairs-at n t f q h

      at : (q : ℕ) → q < length t → get_or (with_link a b (c l) (with_pairs n f t)) q 0 ≡ cond (is_pair n q) (min (f (q / 16) (q % 16)) (crossing g c l (q / 16) (q % 16))) (get_or t q 0)
      at q h =
          with_link-at a b (c l) (with_pairs n f t) q (omega (arith, with_pairs-length n t f)) (omega (arith, with_pairs-length n t f))
          ∙ rw (old q h) (cond-by (is_pair n q)
          (λ e. rw (e, eqb-place a b q (omega arith), eqb-place b a q (omega arith), and_comm (eqb b (q / 16)) (eqb a (q % 16)), ea, eb)
          (lowered-crossing (eqb (c l) 0) (eqb a (q / 16) && eqb b (q % 16) || eqb a (q % 16) && eqb b (q / 16)) (f (q / 16) (q % 16)) (c l) (small (q / 16) (q % 16))))
          (λ e. rw (e, off-place n a b q most ha hb e, off-place n b a q most hb ha e)))

-- ---- one row

pub row-none : (i : ℕ) (f : ℕ → ℕ) (t : List ℕ) → t ≡ rewritten (is_in_row 0 i) f t
unfolding is_in_row
row-none i f t = rewritten-none (is_in_row 0 i) f t (λ q. not-both (eqb (q / 16) i) (ltb (q % 16) 0) (le-ltb (q % 16) 0 (omega arith)))

module _ (n k i : ℕ) (t : List ℕ) (most : n ≤ 16) (hk : k < n) (hi : i < n) (long : 256 ≤ length t) where
  pub row_more :
      (j v : ℕ) (l : List ℕ) →
      l ≡ rewritten (is_in_row j i) (λ p. relaxed (cell t) k i (p % 16)) t →
      j < n →
      v ≡ min (get_or l (16 * i + j) 0) (get_or t (16 * i + k) 0 + get_or l (16 * k + j) 0) →
      set l (16 * i + j) v ≡ rewritten (is_in_row (j + 1) i) (λ p. relaxed (cell t) k i (p % 16)) t
  unfolding is_in_row relaxed cell
  row_more j v l e hj ev =
      rw e
      (rewritten-set (is_in_row j i) (is_in_row (j + 1) i) (λ p. relaxed (cell t) k i (p % 16)) t (16 * i + j) v (omega arith)
      (ev ∙ rw (e, old i hi, old k hk, chosen, column-of i j (omega arith))) same)
    where
      old : (r : ℕ) → r < n → get_or (rewritten (is_in_row j i) (λ p. relaxed (cell t) k i (p % 16)) t) (16 * r + j) 0 ≡ get_or t (16 * r + j) 0
      old r h =
          rewritten-at (is_in_row j i) (λ p. relaxed (cell t) k i (p % 16)) t (16 * r + j) (omega arith)
          ∙ rw (not-both (eqb ((16 * r + j) / 16) i) (ltb ((16 * r + j) % 16) j) (le-ltb ((16 * r + j) % 16) j (omega arith)))

      chosen : is_in_row (j + 1) i (16 * i + j) ≡ true
      chosen = true-both (eq-eqb ((16 * i + j) / 16) i (omega arith)) (lt-ltb ((16 * i + j) % 16) (j + 1) (omega arith))

      same : (q : ℕ) → (q ≡ 16 * i + j → ⊥) → is_in_row j i q ≡ is_in_row (j + 1) i q
      same q d =
          same_test (is_in_row j i q) (is_in_row (j + 1) i q)
          (λ w. let h = both_true (eqb (q / 16) i) (ltb (q % 16) j) w in true-both h.0 (lt-ltb (q % 16) (j + 1) (omega (arith, ltb-true (q % 16) j h.1))))
          (λ w. let h = both_true (eqb (q / 16) i) (ltb (q % 16) (j + 1)) w in
          true-both h.0 (lt-ltb (q % 16) j (omega (arith, eqb-true (q / 16) i h.0, ltb-true (q % 16) (j + 1) h.1))))

-- ---- one pass

-- the places of the rows below m, in the first n columns
abbrev pub rows_below : ℕ → ℕ → ℕ → Bool
rows_below n m q = ltb (q / 16) m && ltb (q % 16) n

pub rows_none : (n : ℕ) (f : ℕ → ℕ) (t : List ℕ) → t ≡ rewritten (rows_below n 0) f t
rows_none n f t = rewritten-none (rows_below n 0) f t (λ q. rw (le-ltb (q / 16) 0 (omega arith)))

module _ (n k : ℕ) (t : List ℕ) (most : n ≤ 16) (hk : k < n) (long : 256 ≤ length t) where
  -- row i is not written yet, and the pass leaves row k as it is
  cell-kept : (i r j : ℕ) → r < n → j < n → (r < i → r ≡ k) → cell (rewritten (rows_below n i) (λ p. relaxed (cell t) k (p / 16) (p % 16)) t) r j ≡ cell t r j
  unfolding relaxed cell
  cell-kept i r j hr hj only =
      rewritten-at (rows_below n i) (λ p. relaxed (cell t) k (p / 16) (p % 16)) t (16 * r + j) (omega arith)
      ∙ sym (cond-by (rows_below n i (16 * r + j)) (λ e. written (only (row e))) (λ e. refl))
    where
      row : rows_below n i (16 * r + j) ≡ true → r < i
      row e = omega (arith, ltb-true ((16 * r + j) / 16) i (both_true (ltb ((16 * r + j) / 16) i) (ltb ((16 * r + j) % 16) n) e).0)

      written : r ≡ k → get_or t (16 * r + j) 0 ≡ relaxed (cell t) k ((16 * r + j) / 16) ((16 * r + j) % 16)
      written d = rw (row_of r j (omega arith), column-of r j (omega arith), d) (omega arith)

  pub rows_more :
      (i : ℕ) (l : List ℕ) →
      l ≡ rewritten (rows_below n i) (λ p. relaxed (cell t) k (p / 16) (p % 16)) t →
      i < n →
      with_row n k i l ≡ rewritten (rows_below n (i + 1)) (λ p. relaxed (cell t) k (p / 16) (p % 16)) t
  unfolding with_row is_in_row relaxed
  rows_more i l e hi =
      rw e
      (rewritten-is (rows_below n (i + 1)) f t (with_row n k i m) (rewritten-length (is_in_row n i) (λ p. relaxed (cell m) k i (p % 16)) m ∙ rewritten-length (rows_below n i) f t) at)
    where
      f : ℕ → ℕ
      f p = relaxed (cell t) k (p / 16) (p % 16)

      m : List ℕ
      m = rewritten (rows_below n i) f t

      inside : (q : ℕ) → (eqb (q / 16) i ≡ true) × (ltb (q % 16) n ≡ true) → cond (rows_below n (i + 1) q) (f q) (get_or t q 0) ≡ relaxed (cell m) k i (q % 16)
      inside q w =
          let hr : q / 16 ≡ i = eqb-true (q / 16) i w.0 in
          let hj : q % 16 < n = ltb-true (q % 16) n w.1 in
          rw (
            lt-ltb (q / 16) (i + 1) (omega arith),
            w.1,
            hr,
            cell-kept i i (q % 16) hi hj (λ z. omega arith),
            cell-kept i i k hi hk (λ z. omega arith),
            cell-kept i k (q % 16) hk hj (λ z. refl),
          )

      outside : (q : ℕ) → is_in_row n i q ≡ false → rows_below n i q ≡ rows_below n (i + 1) q
      outside q w =
          same_test (rows_below n i q) (rows_below n (i + 1) q)
          (λ z. let h = both_true (ltb (q / 16) i) (ltb (q % 16) n) z in true-both (lt-ltb (q / 16) (i + 1) (omega (arith, ltb-true (q / 16) i h.0))) h.1)
          (λ z. let h = both_true (ltb (q / 16) (i + 1)) (ltb (q % 16) n) z in
          true-both (lt-ltb (q / 16) i (omega (arith, ltb-true (q / 16) (i + 1) h.0, eqb-false (q / 16) i (rw (h.1, and-true) at w)))) h.1)

      at : (q : ℕ) → q < length t → get_or (with_row n k i m) q 0 ≡ cond (rows_below n (i + 1) q) (f q) (get_or t q 0)
      at q h =
          rewritten-at (is_in_row n i) (λ p. relaxed (cell m) k i (p % 16)) m q (rw (rewritten-length (rows_below n i) f t) h)
          ∙ sym (cond-by (is_in_row n i q) (λ w. inside q (both_true (eqb (q / 16) i) (ltb (q % 16) n) w)) (λ w. rw (rewritten-at (rows_below n i) f t q h, outside q w)))

-- ---- all passes

pub passes_none : (n : ℕ) (t : List ℕ) → t ≡ with_pairs n (relaxed_below (cell t) 0) t
unfolding relaxed_below cell
passes_none n t = with_pairs-is n t (relaxed_below (cell t) 0) t refl (λ p h. cond-by (is_pair n p) (λ e. rw (place_of p)) (λ e. refl))

module _ (n : ℕ) (t : List ℕ) (most : n ≤ 16) (long : 256 ≤ length t) where
  pub passes-more :
      (k : ℕ) (l : List ℕ) →
      l ≡ with_pairs n (relaxed_below (cell t) k) t →
      k < n →
      with_pairs n (relaxed (cell l) k) l ≡ with_pairs n (relaxed_below (cell t) (k + 1)) t
  unfolding relaxed_below
  passes-more k l e hk =
      rw (e, add-one)
      (with_pairs-twice n t (relaxed_below (cell t) k) (relaxed (cell (with_pairs n (relaxed_below (cell t) k) t)) k)
      ∙ with_pairs-cong n t (relaxed (cell (with_pairs n (relaxed_below (cell t) k) t)) k) (relaxed (relaxed_below (cell t) k) k)
      (relaxed-once (cell (with_pairs n (relaxed_below (cell t) k) t)) (relaxed_below (cell t) k) n (λ i j hi hj. cell-with_pairs n t (relaxed_below (cell t) k) i j most long hi hj) k hk))

-- ---- the whole call

-- the call's numbers, with every end a bridge
module _ (n links : ℕ) (ends costs t : List ℕ)
    (most : n ≤ 16) (long : 256 ≤ length t) (bounds : (l : ℕ) → l < links → (get_or ends (2 * l) 0 < n) × (get_or ends (2 * l + 1) 0 < n)) where
  with_links-pairs : (l : ℕ) → l ≤ links → with_links ends costs l (with_pairs n unjoined t) ≡ with_pairs n (joined_below (graph_of n links ends) (costs_of costs) unjoined l) t
  unfolding with_links joined_below
  with_links-pairs zero h = refl
  with_links-pairs (suc l) h =
      rw (with_links-pairs l (omega arith))
      (with_link-pairs (graph_of n links ends) (costs_of costs) n t most long l _ _ (joined_below (graph_of n links ends) (costs_of costs) unjoined l) refl refl
      (bounds l h).0 (bounds l h).1 (λ i j. omega (arith, joined-le (graph_of n links ends) (costs_of costs) l i j, unjoined-le i j)))

  pub whole :
      (cleared joined : List ℕ) →
      cleared ≡ with_pairs n unjoined t →
      joined ≡ with_links ends costs links cleared →
      with_pairs n (relaxed_below (cell joined) n) joined ≡ with_pairs n (dist (graph_of n links ends) (costs_of costs)) t
  unfolding dist
  whole cleared joined e d =
      rw (d, e, with_links-pairs links (omega arith))
      (with_pairs-twice n t once (relaxed_below (cell (with_pairs n once t)) n)
      ∙ with_pairs-cong n t (relaxed_below (cell (with_pairs n once t)) n) (relaxed_below once n)
      (relaxed-agrees (cell (with_pairs n once t)) once n (λ i j hi hj. cell-with_pairs n t once i j most long hi hj) n (omega arith)))
    where
      once : ℕ → ℕ → ℕ
      once = joined_below (graph_of n links ends) (costs_of costs) unjoined links
