-- Messages in flight as lent numbers: one taken out, as one run of stores, or as one copy within them. Assumes nothing.
use Prim.Native.Nat.{ℕ, ◌+◌, ◌*◌, ◌-◌, ◌≤◌, ◌<◌}
use native.Mathlib.Omega.{arith}
use mathlib.Core.Path.{◌≡◌, refl, sym, ◌∙◌, ap}
use mathlib.Core.Bool.{Bool, true, false, cond, ◌&&◌}
use mathlib.Core.List.{List}
use lib.ListN.{length, get_or, take, drop, length-drop}
use lib.Seq.{sets, sets-eq, length-sets, length-take-le, get_or-take, get_or-drop}
use lib.Dec.{leb, ltb}
use borrow.Author.Tests.{leb-true, leb-false, ltb-true, ltb-false}
use Rattle.std.specs.List.{copy_within}
use Rattle.distances.proofs.Tables.{rewritten-is}
use Rattle.bench.specs.Private.Queue.{taken_out}
use Rattle.bench.proofs.TieQueue.{sets-before, sets-after, sets-within}

module _ (count p : ℕ) (m : List ℕ) (listed : p < count) (long : 5 * count ≤ length m) where
  abbrev moves : List ℕ
  moves = take (5 * (count - 1) - 5 * p) (drop (5 * p + 5) m)

  many : length moves ≡ 5 * (count - 1) - 5 * p
  many = length-take-le (5 * (count - 1) - 5 * p) (drop (5 * p + 5) m) (omega (arith, length-drop (5 * p + 5) m))

  pub taken-sets : taken_out count p m ≡ sets m (5 * p) moves
  unfolding taken_out
  taken-sets =
      sym (rewritten-is (λ k. leb (5 * p) k && ltb k (5 * (count - 1))) (λ k. get_or m (k + 5) 0) m (sets m (5 * p) moves) (length-sets m (5 * p) moves)
      (λ k b. go k (leb (5 * p) k) refl (ltb k (5 * (count - 1))) refl))
    where
      go :
          (k : ℕ) (x : Bool) → leb (5 * p) k ≡ x → (y : Bool) → ltb k (5 * (count - 1)) ≡ y →
          get_or (sets m (5 * p) moves) k 0 ≡ cond (x && y) (get_or m (k + 5) 0) (get_or m k 0)
      go k true e true w =
          let low : 5 * p ≤ k = leb-true (5 * p) k e in
          let high : k < 5 * (count - 1) = ltb-true k (5 * (count - 1)) w in
          ap (λ (j : ℕ). get_or (sets m (5 * p) moves) j 0) (omega arith)
          ∙ sets-within 0 moves m (5 * p) (k - 5 * p) (omega (arith, many)) (omega (arith, many))
          ∙ get_or-take (5 * (count - 1) - 5 * p) (drop (5 * p + 5) m) (k - 5 * p) 0 (omega arith)
          ∙ get_or-drop (5 * p + 5) m (k - 5 * p) 0
          ∙ ap (λ (j : ℕ). get_or m j 0) (omega arith)
      go k true e false w = sets-after 0 moves m (5 * p) k (omega (arith, many, leb-true (5 * p) k e, ltb-false k (5 * (count - 1)) w))
      go k false e y w = sets-before 0 moves m (5 * p) k (leb-false (5 * p) k e)

  pub taken-moved : copy_within m (5 * p + 5) (5 * count) (5 * p) ≡ taken_out count p m
  taken-moved =
      let some : 5 * count - (5 * p + 5) ≡ 5 * (count - 1) - 5 * p = omega arith in
      rw (taken-sets, sets-eq moves m (5 * p) (omega (arith, many)), many, some)
