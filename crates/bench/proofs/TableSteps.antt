-- The tables of a call: one block replaced, and the views whose distances are known. Assumes nothing.
use Prim.Native.Nat.{ℕ, ◌+◌, ◌-◌, ◌*◌, ◌≤◌, ◌<◌}
use native.Mathlib.Omega.{arith}
use mathlib.Core.Path.{◌≡◌, refl, sym, ◌∙◌, ap}
use mathlib.Core.Bool.{Bool, true, false, cond}
use mathlib.Core.List.{List, ◌++◌}
use mathlib.Core.Logic.{◌⊎◌, inl, inr}
use borrow.Author.Tests.{eqb-true, eqb-false, ltb-true, ltb-false}
use lib.ListN.{length, get_or, set, take, drop, replicate, length-append, length-take, length-drop, length-replicate, length-set, get_or-replicate, get_or-append}
use lib.Seq.{length-take-le, get_or-take, get_or-drop, take_at, drop_at, ext_get_or, get_or-append-add}
use lib.Dec.{eqb, ltb}
use Rattle.distances.proofs.Outcomes.{distances-length}
use Rattle.bench.specs.State.{part}
use Rattle.bench.specs.Private.Views.{distance_table}
use Rattle.bench.specs.Private.Steps.{filled_view, TablesOf}
use Rattle.bench.specs.declared.Bench.{Bench}
use Rattle.bench.proofs.TieRanges.{part_at, part_length, get_d-stored}

-- ---- one block of 256 replaced

module _ (k : ℕ) (l new : List ℕ) (fits : 256 * k + 256 ≤ length l) (long : length new ≡ 256) where
  abbrev replaced : List ℕ
  replaced = take (256 * k) l ++ (new ++ drop 256 (drop (256 * k) l))

  front_long : length (take (256 * k) l) ≡ 256 * k
  front_long = length-take-le (256 * k) l (omega arith)

  pub replaced-length : length replaced ≡ length l
  replaced-length = simp (length-append, length-take, length-drop, long) (omega arith)

  pub replaced-same : part 256 k replaced ≡ new
  replaced-same =
      rw (
        drop_at (take (256 * k) l) (new ++ drop 256 (drop (256 * k) l)) (256 * k) front_long,
        take_at new (drop 256 (drop (256 * k) l)) 256 long,
      )

  -- a number in front of it, and one behind it
  replaced-before : (p : ℕ) → p < 256 * k → get_or replaced p 0 ≡ get_or l p 0
  replaced-before p before =
      get_or-append (take (256 * k) l) _ 0 p (omega (arith, front_long)) ∙ get_or-take (256 * k) l p 0 before

  replaced-after : (p : ℕ) → 256 * k + 256 ≤ p → get_or replaced p 0 ≡ get_or l p 0
  replaced-after p behind =
      let q : ℕ = p - (256 * k + 256) in
      let at : p ≡ length (take (256 * k) l) + (length new + q) = omega (arith, front_long, long) in
      let same : 256 * k + (256 + q) ≡ p = omega arith in
      ap (λ (z : ℕ). get_or replaced z 0) at
      ∙ get_or-append-add (take (256 * k) l) _ (length new + q) 0
      ∙ get_or-append-add new _ q 0
      ∙ get_or-drop 256 (drop (256 * k) l) q 0
      ∙ get_or-drop (256 * k) l (256 + q) 0
      ∙ ap (λ (z : ℕ). get_or l z 0) same

  pub replaced-other : (u : ℕ) → (u ≡ k → ⊥) → 256 * u + 256 ≤ length l → part 256 u replaced ≡ part 256 u l
  replaced-other u apart room =
      ext_get_or 0 _ _ (wide ∙ sym (part_length 256 u l room))
      (λ i h. let low : i < 256 = omega (arith, wide) in
      part_at 256 u replaced i low ∙ go i low (ltb u k) refl ∙ sym (part_at 256 u l i low))
    where
      wide : length (part 256 u replaced) ≡ 256
      wide = part_length 256 u replaced (rw replaced-length room)

      go : (i : ℕ) → i < 256 → (b : Bool) → ltb u k ≡ b → get_or replaced (256 * u + i) 0 ≡ get_or l (256 * u + i) 0
      go i low true q = let less : u < k = ltb-true u k q in replaced-before (256 * u + i) (omega arith)
      go i low false q = let more : k ≤ u = ltb-false u k q in replaced-after (256 * u + i) (omega arith)

-- ---- the tables before any view is known

blank-block : (t : ℕ) → t < 32 → part 256 t (replicate 8192 0) ≡ replicate 256 0
blank-block t low =
    ext_get_or 0 _ _ (wide ∙ sym (length-replicate {A = ℕ} 256 0))
    (λ i h. let few : i < 256 = omega (arith, wide) in
    part_at 256 t (replicate 8192 0) i few ∙ get_or-replicate 8192 (256 * t + i) 0 0 (omega arith) ∙ sym (get_or-replicate 256 i 0 0 few))
  where
    wide : length (part 256 t (replicate 8192 0)) ≡ 256
    wide = part_length 256 t (replicate 8192 0) (rw (length-replicate {A = ℕ} 8192 0) (omega arith))

pub tables-none : (b : Bench) (costs : List ℕ) → TablesOf b.bridges b.links b.ends costs (replicate 8192 0) (replicate 32 false)
tables-none b costs =
    record {
      long = length-replicate {A = ℕ} 8192 0;
      flags = length-replicate 32 false;
      block = λ t low. blank-block t low ∙ rw (get_or-replicate 32 t false false low);
    }

-- ---- the tables with one view more

module _
    (bridges links : ℕ)
    (places costs tables : List ℕ)
    (known : List Bool)
    (kept : TablesOf bridges links places costs tables known)
    (t : ℕ)
    (low : t < 32)
    (new : get_or known t false ≡ false) where
  abbrev filled : List ℕ
  filled = distance_table bridges links places costs t

  blank : part 256 t tables ≡ replicate 256 0
  blank = kept.block t low ∙ rw new

  filled-long : length filled ≡ 256
  unfolding distance_table
  filled-long = distances-length bridges links places (part 32 t costs) (replicate 256 0) ∙ length-replicate {A = ℕ} 256 0

  is-filled :
      filled_view bridges links places costs t tables
      ≡ take (256 * t) tables ++ (filled ++ drop 256 (drop (256 * t) tables))
  unfolding filled_view distance_table
  is-filled = rw blank

  room : 256 * t + 256 ≤ length tables
  room = omega (arith, kept.long)

  pub tables_more : TablesOf bridges links places costs (filled_view bridges links places costs t tables) (set known t true)
  tables_more =
      rw is-filled
      (record {
        long = replaced-length t tables filled room filled-long ∙ kept.long;
        flags = length-set known t true ∙ kept.flags;
        block = λ u h. go u h (eqb u t) refl;
      })
    where
      flag : (u : ℕ) → get_or (set known t true) u false ≡ cond (eqb u t) true (get_or known u false)
      flag u = get_d-stored known t true u false (omega (arith, kept.flags))

      go :
          (u : ℕ) →
          u < 32 →
          (c : Bool) →
          eqb u t ≡ c →
          part 256 u (replaced t tables filled room filled-long)
          ≡ cond (get_or (set known t true) u false) (distance_table bridges links places costs u) (replicate 256 0)
      go u h true q = rw (flag u, q, eqb-true u t q) (replaced-same t tables filled room filled-long)
      go u h false q =
          rw (flag u, q) (replaced-other t tables filled room filled-long u (eqb-false u t q) (omega (arith, kept.long)) ∙ kept.block u h)

pub below_or : (k y : ℕ) → k < y + 1 → (k < y) ⊎ (k ≡ y)
below_or k y low = go (ltb k y) refl
  where
    go : (b : Bool) → ltb k y ≡ b → (k < y) ⊎ (k ≡ y)
    go true q = inl (ltb-true k y q)
    go false q = inr (omega (arith, ltb-false k y q))
