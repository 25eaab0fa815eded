-- Lists made number by number: one that has f of each place, and one whose front is written. Assumes nothing.
use Prim.Native.Nat.{ℕ, zero, suc, ◌+◌, ◌<◌}
use native.Mathlib.Nat.{not-suc-le-zero}
use native.Mathlib.Numerals.{add-one}
use Rattle.std.proofs.Common.{add-zero, zero-add, get_or-set_same, get_or-set_other}
use native.Mathlib.Omega.{arith}
use mathlib.Core.Bool.{Bool, true, false}
use mathlib.Core.List.{List, [], ◌∷◌, ◌++◌}
use mathlib.Core.Path.{◌≡◌, refl, sym, ◌∙◌}
use borrow.Author.Tests.{ltb-true, ltb-false, eqb-true, eqb-false}
use lib.Dec.{eqb, ltb}
use lib.ListN.{length, get_or, set, take, length-append, length-set, get_or-append}
use lib.Seq.{sets, take-suc, length-take-le, get_or-append-add}
use Rattle.std.proofs.lemmas.List.{same_lists}
use Rattle.encoding.specs.Numbers.{tabulated}

module _ {A : Type 0} (f : ℕ → A) where
  length-tabulated : (n : ℕ) → length (tabulated n f) ≡ n
  unfolding tabulated
  length-tabulated zero = refl
  length-tabulated (suc n) = simp length-append (omega (arith, length-tabulated n))

  tabulated-at : (n i : ℕ) (d : A) → i < n → get_or (tabulated n f) i d ≡ f i
  unfolding tabulated
  tabulated-at zero i d h = absurd (not-suc-le-zero h)
  tabulated-at (suc n) i d h = go (ltb i n) refl (tabulated-at n i d)
    where
      go : (b : Bool) → ltb i n ≡ b → (i < n → get_or (tabulated n f) i d ≡ f i) → get_or (tabulated n f ++ (f n ∷ [])) i d ≡ f i
      go true e before =
          let low = ltb-true i n e in
          get_or-append (tabulated n f) (f n ∷ []) d i (rw (length-tabulated n) low) ∙ before low
      go false e before =
          let same : i ≡ n = omega (arith, ltb-false i n e) in
          rw same (rw (length-tabulated n, add-zero) at (get_or-append-add (tabulated n f) (f n ∷ []) 0 d))

  is-tabulated : (n : ℕ) (xs : List A) → length xs ≡ n → ((i : ℕ) (d : A) → i < n → get_or xs i d ≡ f i) → xs ≡ tabulated n f
  is-tabulated n xs long each =
      same_lists xs (tabulated n f) (long ∙ sym (length-tabulated n))
      (λ i d h. let low : i < n = rw long at h in each i d low ∙ sym (tabulated-at n i d low))

  -- a loop that has gone as far as place n
  pub record Filled (n long : ℕ) (xs : List A) : Type 0 where
    pub size : length xs ≡ long
    pub each : (i : ℕ) (d : A) → i < n → get_or xs i d ≡ f i

  pub filled-none : (long : ℕ) (xs : List A) → length xs ≡ long → Filled 0 long xs
  filled-none long xs size = record { size = size; each = λ i d h. absurd (not-suc-le-zero h) }

  pub filled-more : (n long : ℕ) (xs : List A) (x : A) → n < long → Filled n long xs → x ≡ f n → Filled (n + 1) long (set xs n x)
  filled-more n long xs x low so is =
      record {
        size = simp length-set so.size;
        each = λ i d h. go i d h (eqb i n) refl;
      }
    where
      go : (i : ℕ) (d : A) → i < n + 1 → (b : Bool) → eqb i n ≡ b → get_or (set xs n x) i d ≡ f i
      go i d h true e =
          let same : i ≡ n = eqb-true i n e in
          let room : n < length xs = omega (arith, so.size) in
          rw same (get_or-set_same xs n x d room ∙ is)
      go i d h false e =
          let other : i ≡ n → ⊥ = eqb-false i n e in
          get_or-set_other xs n i x d other ∙ so.each i d (omega arith)

  pub filled-all : (n m : ℕ) (xs : List A) → m ≡ n → Filled m n xs → xs ≡ tabulated n f
  filled-all n m xs all so = is-tabulated n xs so.size (λ i d h. so.each i d (omega arith))

-- ---- the front of a list, written

module _ {A : Type 0} where
  sets_snoc : (l : List A) (i : ℕ) (vs : List A) (v : A) → sets l i (vs ++ (v ∷ [])) ≡ set (sets l i vs) (i + length vs) v
  sets_snoc l i [] v = rw add-zero
  sets_snoc l i (a ∷ vs) v =
      let place : suc i + length vs ≡ i + suc (length vs) = omega arith in
      sets_snoc (set l i a) (suc i) vs v ∙ rw place

  -- one number more
  pub sets_more : (l now vs : List A) (k : ℕ) (v d : A) → k < length vs → now ≡ sets l 0 (take k vs) → v ≡ get_or vs k d → set now k v ≡ sets l 0 (take (k + 1) vs)
  sets_more l now vs k v d h so is =
      let size : length (take k vs) ≡ k = length-take-le k vs (omega arith) in
      let one : sets l 0 (take k vs ++ (v ∷ [])) ≡ set (sets l 0 (take k vs)) k v = rw (size, zero-add) at (sets_snoc l 0 (take k vs) v) in
      rw (so, add-one, take-suc vs k d h, ← is) (sym one)
