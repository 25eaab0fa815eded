-- The messages in flight by their places: after a send, and after one is taken out. Assumes nothing.
use Prim.Native.Nat.{ℕ, zero, suc, ◌+◌, ◌-◌, ◌≤◌, ◌<◌, min}
use native.Mathlib.Omega.{arith}
use mathlib.Core.Path.{◌≡◌, refl, ap, ◌∙◌}
use mathlib.Core.Bool.{Bool, true, false, cond}
use mathlib.Core.List.{List, [], ◌∷◌, ◌++◌}
use lib.ListN.{length, get_or, length-append, length-take, length-drop, get_or-append}
use lib.Seq.{get_or-append_seam}
use lib.Dec.{ltb, leb-suc-suc}
use borrow.Author.Tests.{ltb-true, ltb-false, lt-ltb, le-ltb}
use Rattle.protocol.specs.Net.{Message}
use Rattle.protocol.specs.Calls.{without, no_message_there}
use Rattle.protocol.specs.Rounds.{moved_up}

-- message x stands at place p
abbrev pub Stands : Message → List Message → ℕ → Type 0
Stands x ms p = (p < length ms) × (get_or ms p no_message_there ≡ x)

-- P holds of the message at every place
abbrev pub Each : (Message → Type 0) → List Message → Type 0
Each P ms = (p : ℕ) → p < length ms → P (get_or ms p no_message_there)

-- a message sent goes to the end, and those before it stay
pub stands-new : (x : Message) (ms : List Message) → Stands x (ms ++ (x ∷ [])) (length ms)
stands-new x ms = (simp length-append (omega arith), get_or-append_seam ms x [] no_message_there)

pub stands-before : (x y : Message) (ms : List Message) (p : ℕ) → Stands x ms p → Stands x (ms ++ (y ∷ [])) p
stands-before x y ms p s = (simp length-append (omega arith), get_or-append ms (y ∷ []) no_message_there p s.0 ∙ s.1)

pub each-appended : (P : Message → Type 0) (ms : List Message) (m : Message) → Each P ms → P m → Each P (ms ++ (m ∷ []))
each-appended P ms m all new p low = go (ltb p (length ms)) refl
  where
    go : (b : Bool) → ltb p (length ms) ≡ b → P (get_or (ms ++ (m ∷ [])) p no_message_there)
    go true q = let h : p < length ms = ltb-true p (length ms) q in rw (stands-before _ m ms p (h, refl)).1 (all p h)
    go false q =
        let last : p ≡ length ms = omega (arith, simp length-append at low, ltb-false p (length ms) q) in
        rw (last, (stands-new m ms).1) new

-- the place before the message at k was taken out: later ones move up by one
unfoldable pub skipped : ℕ → ℕ → ℕ
skipped k p = cond (ltb p k) p (suc p)

skipped-moved : (k p : ℕ) → (k ≡ p → ⊥) → skipped k (moved_up k p) ≡ p
unfolding skipped moved_up
skipped-moved k p apart = go (ltb k p) refl
  where
    go : (b : Bool) → ltb k p ≡ b → cond (ltb (cond b (p - 1) p) k) (cond b (p - 1) p) (suc (cond b (p - 1) p)) ≡ p
    go true q =
        let before : k < p = ltb-true k p q in
        rw (le-ltb (p - 1) k (omega arith)) (omega arith)
    go false q =
        let after : p ≤ k = ltb-false k p q in
        rw (lt-ltb p k (omega arith))

pub without_at : (ms : List Message) (k p : ℕ) → get_or (without k ms) p no_message_there ≡ get_or ms (skipped k p) no_message_there
unfolding without skipped
without_at [] zero p = refl
without_at [] (suc k) p = refl
without_at (x ∷ xs) zero p = rw (le-ltb p 0 (omega arith))
without_at (x ∷ xs) (suc k) zero = rw (lt-ltb 0 (suc k) (omega arith))
without_at (x ∷ xs) (suc k) (suc p) = rw (leb-suc-suc (suc p) k) (go (ltb p k) (without_at xs k p))
  where
    go : (b : Bool) → get_or (without k xs) p no_message_there ≡ get_or xs (cond b p (suc p)) no_message_there → get_or (without k xs) p no_message_there ≡ get_or (x ∷ xs) (cond b (suc p) (suc (suc p))) no_message_there
    go true e = e
    go false e = e

module _ (ms : List Message) (k p : ℕ) where
  pub length_without : length (without k ms) ≡ min k (length ms) + (length ms - suc k)
  unfolding without
  length_without = simp (length-append, length-take, length-drop)

  pub without-below : p < length (without k ms) → skipped k p < length ms
  unfolding skipped
  without-below h = go (ltb p k) refl (rw length_without at h)
    where
      go : (b : Bool) → ltb p k ≡ b → p < min k (length ms) + (length ms - suc k) → cond b p (suc p) < length ms
      go true q h = omega (arith, ltb-true p k q)
      go false q h = omega (arith, ltb-false p k q)

  below-without : skipped k p < length ms → p < length (without k ms)
  unfolding skipped
  below-without h = rw length_without (go (ltb p k) refl h)
    where
      go : (b : Bool) → ltb p k ≡ b → cond b p (suc p) < length ms → p < min k (length ms) + (length ms - suc k)
      go true q h = omega (arith, ltb-true p k q)
      go false q h = omega (arith, ltb-false p k q)

pub each-without : (P : Message → Type 0) (k : ℕ) (ms : List Message) → Each P ms → Each P (without k ms)
each-without P k ms all p low = rw (without_at ms k p) (all (skipped k p) (without-below ms k p low))

pub stands-without : (x : Message) (ms : List Message) (k p : ℕ) → (k ≡ p → ⊥) → Stands x ms p → Stands x (without k ms) (moved_up k p)
stands-without x ms k p apart s =
    let same : skipped k (moved_up k p) ≡ p = skipped-moved k p apart in (
      below-without ms k (moved_up k p) (rw same s.0),
      without_at ms k (moved_up k p) ∙ ap (λ (i : ℕ). get_or ms i no_message_there) same ∙ s.1,
    )
