-- Laws of the limit tables: a row rewritten from its front, a row lent from inside a table, what stands where after a row is rewritten,
-- and what becomes of a row, as the specs say it. Assumes nothing.
use Prim.Native.Nat.{ℕ, ◌+◌, ◌*◌, ◌-◌, ◌/◌, ◌%◌, ◌≤◌, ◌<◌}
use native.Mathlib.Omega.{arith}
use mathlib.Core.Path.{◌≡◌, refl, sym, ◌∙◌, ap}
use mathlib.Core.Bool.{Bool, true, false, cond, ◌&&◌, not}
use mathlib.Core.List.{List, ◌++◌}
use borrow.Author.Tests.{ltb-true, ltb-false, lt-ltb, le-ltb, eq-eqb, ne_eqb}
use lib.ListN.{length, get_or, set, take, drop, length-append, length-take, length-drop, get_or-append, get_or-eq_default}
use lib.Seq.{length-take-le, get_or-append-add, get_or-take, get_or-drop}
use lib.Dec.{eqb, ltb}
use Rattle.distances.specs.View.{NONE}
use Rattle.distances.specs.Table.{cell, rewritten, is_in_row}
use Rattle.distances.proofs.Tables.{cell-is, is_in_row-is, rewritten-length, rewritten-at, rewritten-is, rewritten-none, rewritten-set, row_of, column-of}
use Rattle.distances.proofs.Steps.{ltb-more}
use Rattle.agreement.specs.declared.Agreement.{Agreement}
use Rattle.agreement.specs.declared.EndRecord.{EndRecord}
use Rattle.agreement.specs.declared.Rewrite.{Rewrite}
use Rattle.agreement.specs.declared.Rewrite.TheVariants.{Lower, Renew, Empty}
use Rattle.agreement.specs.Record.{is_stale, is_agreed, is_clearing, sent_updated, held_updated, sent_delivered, held_delivered}
use Rattle.agreement.specs.Limits.{with_limits, limit_after, row_after, renewed}

-- ---- a row, rewritten from its front

module _ (how : Rewrite) (offers : ℕ → ℕ) (row : List ℕ) where
  pub front-none : row ≡ rewritten (λ q. ltb q 0) (row_after how offers (λ d. get_or row d 0)) row
  front-none = rewritten-none (λ q. ltb q 0) (row_after how offers (λ d. get_or row d 0)) row (λ q. le-ltb q 0 (omega arith))

  -- the next limit is still the old one, and is stored
  pub front-more :
      (d v : ℕ) (l : List ℕ) →
      l ≡ rewritten (λ q. ltb q d) (row_after how offers (λ k. get_or row k 0)) row →
      d < length row →
      v ≡ limit_after how (get_or l d 0) (offers d) →
      set l d v ≡ rewritten (λ q. ltb q (d + 1)) (row_after how offers (λ k. get_or row k 0)) row
  unfolding row_after
  front-more d v l e h ev =
      rw e
      (rewritten-set (λ q. ltb q d) (λ q. ltb q (d + 1)) f row d v h (ev ∙ rw (e, old, lt-ltb d (d + 1) (omega arith))) (ltb-more d))
    where
      f : ℕ → ℕ
      f = row_after how offers (λ k. get_or row k 0)

      old : get_or (rewritten (λ q. ltb q d) f row) d 0 ≡ get_or row d 0
      old = rewritten-at (λ q. ltb q d) f row d h ∙ rw (le-ltb d d (omega arith))

-- ---- the table around a row

module _ (n e : ℕ) (f : ℕ → ℕ) (t : List ℕ) where
  pub with_limits-length : length (with_limits n e f t) ≡ length t
  unfolding with_limits
  with_limits-length = rewritten-length (is_in_row n e) (λ p. f (p % 16)) t

  with_limits-at : (p : ℕ) → p < length t → get_or (with_limits n e f t) p 0 ≡ cond (is_in_row n e p) (f (p % 16)) (get_or t p 0)
  unfolding with_limits
  with_limits-at = rewritten-at (is_in_row n e) (λ p. f (p % 16)) t

  with_limits-is :
      (l : List ℕ) →
      length l ≡ length t →
      ((p : ℕ) → p < length t → get_or l p 0 ≡ cond (is_in_row n e p) (f (p % 16)) (get_or t p 0)) →
      l ≡ with_limits n e f t
  unfolding with_limits
  with_limits-is = rewritten-is (is_in_row n e) (λ p. f (p % 16)) t

  -- the end's own limits
  pub cell_same : (d : ℕ) → d < n → n ≤ 16 → 16 * e + 16 ≤ length t → cell (with_limits n e f t) e d ≡ f d
  cell_same d h most long =
      cell-is (with_limits n e f t) e d
      ∙ with_limits-at (16 * e + d) (omega arith)
      ∙ rw (is_in_row-is, row_of e d (omega arith), column-of e d (omega arith), eq-eqb e e refl, lt-ltb d n h)

  -- a number of another row
  pub cell_other : (i d : ℕ) → (i ≡ e → ⊥) → d < 16 → cell (with_limits n e f t) i d ≡ cell t i d
  cell_other i d apart h = simp cell-is (go (ltb (16 * i + d) (length t)) refl)
    where
      go : (b : Bool) → ltb (16 * i + d) (length t) ≡ b → get_or (with_limits n e f t) (16 * i + d) 0 ≡ get_or t (16 * i + d) 0
      go true w = with_limits-at (16 * i + d) (ltb-true _ _ w) ∙ rw (is_in_row-is, row_of i d h, ne_eqb i e apart)
      go false w =
          let past = ltb-false _ _ w in
          get_or-eq_default (with_limits n e f t) 0 (rw with_limits-length past) ∙ sym (get_or-eq_default t 0 past)

-- ---- a part lent from inside a list: it comes back between what stands before it and what stands after it

-- the k numbers from place a on are ys
abbrev put_back : ℕ → ℕ → List ℕ → List ℕ → List ℕ
put_back a k t ys = take a t ++ (ys ++ drop k (drop a t))

module _ (a k : ℕ) (t ys : List ℕ) (fits : a + k ≤ length t) (size : length ys ≡ k) where
  back-length : length (put_back a k t ys) ≡ length t
  back-length = simp (length-append, length-take, length-drop) (omega arith)

  front_long : length (take a t) ≡ a
  front_long = length-take-le a t (omega arith)

  back-front : (p : ℕ) → p < a → get_or (put_back a k t ys) p 0 ≡ get_or t p 0
  back-front p h = get_or-append (take a t) (ys ++ drop k (drop a t)) 0 p (rw front_long h) ∙ get_or-take a t p 0 h

  past-front : (d : ℕ) → get_or (put_back a k t ys) (a + d) 0 ≡ get_or (ys ++ drop k (drop a t)) d 0
  past-front d = rw front_long at (get_or-append-add (take a t) (ys ++ drop k (drop a t)) d 0)

  back-part : (d : ℕ) → d < k → get_or (put_back a k t ys) (a + d) 0 ≡ get_or ys d 0
  back-part d h = past-front d ∙ get_or-append ys (drop k (drop a t)) 0 d (rw size h)

  back-after : (d : ℕ) → get_or (put_back a k t ys) (a + (k + d)) 0 ≡ get_or t (a + (k + d)) 0
  back-after d =
      past-front (k + d)
      ∙ (rw size at (get_or-append-add ys (drop k (drop a t)) d 0))
      ∙ get_or-drop k (drop a t) d 0
      ∙ get_or-drop a t (k + d) 0

-- an end's row, rewritten and back in the table
module _ (n e : ℕ) (how : Rewrite) (offers : ℕ → ℕ) (t : List ℕ) (most : n ≤ 16) (long : 16 * e + 16 ≤ length t) where
  row-back-16 :
      (row ys : List ℕ) →
      row ≡ take 16 (drop (16 * e) t) →
      ys ≡ rewritten (λ d. ltb d n) (row_after how offers (λ d. get_or row d 0)) row →
      put_back (16 * e) 16 t ys ≡ with_limits n e (row_after how offers (cell t e)) t
  unfolding row_after
  row-back-16 row ys part back =
      with_limits-is n e (row_after how offers (cell t e)) t (put_back (16 * e) 16 t ys) (back-length (16 * e) 16 t ys long size)
      (λ p b. go p (ltb p (16 * e)) refl (ltb p (16 * e + 16)) refl)
    where
      row-size : length row ≡ 16
      row-size = rw part (simp (length-take, length-drop) (omega arith))

      size : length ys ≡ 16
      size = ap length back ∙ rewritten-length (λ d. ltb d n) (row_after how offers (λ d. get_or row d 0)) row ∙ row-size

      row_at : (d : ℕ) → d < 16 → get_or row d 0 ≡ get_or t (16 * e + d) 0
      row_at d h = rw part (get_or-take 16 (drop (16 * e) t) d 0 h ∙ get_or-drop (16 * e) t d 0)

      Holds : ℕ → Type 0
      Holds p = get_or (put_back (16 * e) 16 t ys) p 0 ≡ cond (is_in_row n e p) (row_after how offers (cell t e) (p % 16)) (get_or t p 0)

      inside : (d : ℕ) → d < 16 → Holds (16 * e + d)
      inside d h =
          back-part (16 * e) 16 t ys long size d h
          ∙ ap (λ (l : List ℕ). get_or l d 0) back
          ∙ rewritten-at (λ k. ltb k n) (row_after how offers (λ k. get_or row k 0)) row d (rw row-size h)
          ∙ rw (is_in_row-is, cell-is, row_at d h, row_of e d h, column-of e d h, eq-eqb e e refl)

      beyond : (d : ℕ) → Holds (16 * e + (16 + d))
      beyond d = back-after (16 * e) 16 t ys long size d ∙ rw (is_in_row-is, ne_eqb ((16 * e + (16 + d)) / 16) e (λ z. omega arith))

      go : (p : ℕ) (a : Bool) → ltb p (16 * e) ≡ a → (b : Bool) → ltb p (16 * e + 16) ≡ b → Holds p
      go p true w b z =
          let h : p < 16 * e = ltb-true p (16 * e) w in
          back-front (16 * e) 16 t ys long size p h ∙ rw (is_in_row-is, ne_eqb (p / 16) e (λ y. omega arith))
      go p false w true z =
          let h : 16 * e + (p - 16 * e) ≡ p = omega (arith, ltb-false p (16 * e) w) in
          rw h at (inside (p - 16 * e) (omega (arith, ltb-true p (16 * e + 16) z)))
      go p false w false z =
          let h : 16 * e + (16 + (p - 16 * e - 16)) ≡ p = omega (arith, ltb-false p (16 * e + 16) z) in
          rw h at (beyond (p - 16 * e - 16))

  pub row_back :
      (ys : List ℕ) →
      ys
      ≡ rewritten (λ d. ltb d n) (row_after how offers (λ d. get_or (take (16 * e + 16 - 16 * e) (drop (16 * e) t)) d 0))
      (take (16 * e + 16 - 16 * e) (drop (16 * e) t)) →
      put_back (16 * e) (16 * e + 16 - 16 * e) t ys ≡ with_limits n e (row_after how offers (cell t e)) t
  row_back ys back =
      let size : 16 * e + 16 - 16 * e ≡ 16 = omega arith in
      rw size (row-back-16 (take 16 (drop (16 * e) t)) ys refl (rw size at back))

-- ---- what becomes of a row, as the specs say it

pub row-lowered : (offers row : ℕ → ℕ) → row_after Lower offers row ≡ sent_updated offers row
unfolding row_after limit_after sent_updated
row-lowered offers row = refl

pub row-offered : (offers row : ℕ → ℕ) → row_after Renew offers row ≡ offers
unfolding row_after limit_after
row-offered offers row = refl

pub row-emptied : (offers row : ℕ → ℕ) → row_after Empty offers row ≡ (λ d. NONE)
unfolding row_after limit_after
row-emptied offers row = refl

pub row-renewed : (test : Bool) (offers row : ℕ → ℕ) → row_after (renewed test) offers row ≡ (λ d. cond test (offers d) (row d))
unfolding row_after limit_after
row-renewed true offers row = refl
row-renewed false offers row = refl

pub row-updated : (t : ℕ) (r : EndRecord) (offers row : ℕ → ℕ) → row_after (renewed (eqb r.view t)) offers row ≡ held_updated t r offers row
unfolding held_updated
row-updated t r offers row = row-renewed (eqb r.view t) offers row

pub row-cleared :
    (n : ℕ) (r : EndRecord) (m : Agreement) (offers row : ℕ → ℕ) →
    row_after (renewed (is_clearing n r m)) offers row ≡ sent_delivered n r m offers row
unfolding sent_delivered
row-cleared n r m offers row = row-renewed (is_clearing n r m) offers row

pub row-adopted :
    (v : ℕ) (r : EndRecord) (m : Agreement) (offers row : ℕ → ℕ) →
    row_after (renewed (not (is_stale r m) && is_agreed v m)) offers row ≡ held_delivered v r m offers row
unfolding held_delivered
row-adopted v r m offers row = row-renewed (not (is_stale r m) && is_agreed v m) offers row
