-- An informed end: it has received the far bridge's present number k, and holds the far bridge's offers in the view under it.
-- A delivery informs an end, and leaves an informed one informed; a clearing leaves a row of sent limits that is the offers as it is.
-- Assumes nothing.
use Prim.Native.Nat.{ℕ, ◌≤◌}
use native.Mathlib.Omega.{arith}
use mathlib.Core.Path.{◌≡◌, refl}
use mathlib.Core.Bool.{Bool, true, false, cond}
use borrow.Author.Tests.{ltb-false, eq-eqb, le-ltb}
use Rattle.agreement.specs.declared.EndRecord.{EndRecord}
use Rattle.agreement.specs.declared.Agreement.{Agreement}
use Rattle.agreement.specs.Record.{is_stale, is_agreed, answer, recorded, is_clearing, sent_delivered, held_delivered}

pub record Informed (k : ℕ) (r : EndRecord) (held offers : ℕ → ℕ) : Type 0 where
  pub received : r.received ≡ k
  pub discarded : r.discarded ≡ k
  pub holding : r.holding ≡ true
  pub row : (d : ℕ) → held d ≡ offers d

-- a delivery of m to a bridge on view v, whose record of the far bridge is r
module _ (v : ℕ) (r : EndRecord) (m : Agreement) (held offers : ℕ → ℕ) where
  tells : (k : ℕ) → m.number ≡ k → m.view ≡ v → is_stale r m ≡ false → Informed k (recorded r (answer v r m)) (held_delivered v r m offers held) offers
  unfolding answer recorded held_delivered is_agreed
  tells k number view fresh =
      rw (fresh, eq-eqb m.view v view)
      (record { received = number; discarded = number; holding = refl; row = λ d. rw (fresh, eq-eqb m.view v view) })

  -- by a message with the far bridge's number and the receiver's view
  pub informed-by : (k : ℕ) → m.number ≡ k → m.view ≡ v → r.received ≤ k → Informed k (recorded r (answer v r m)) (held_delivered v r m offers held) offers
  unfolding is_stale
  informed-by k number view before = tells k number view (le-ltb m.number r.received (omega arith))

  -- by any message whose view is the receiver's if its number is the far bridge's
  pub informed-still : (k : ℕ) → m.number ≤ k → (m.number ≡ k → m.view ≡ v) → Informed k r held offers → Informed k (recorded r (answer v r m)) (held_delivered v r m offers held) offers
  unfolding answer recorded held_delivered is_stale
  informed-still k most view told = go (is_stale r m) refl
    where
      go : (b : Bool) → is_stale r m ≡ b → Informed k (recorded r (answer v r m)) (held_delivered v r m offers held) offers
      go true q =
          rw q
          (record { received = told.received; discarded = told.discarded; holding = told.holding; row = λ d. rw q (told.row d) })
      go false q =
          let same : m.number ≡ k = omega (arith, ltb-false m.number r.received q, told.received) in
          tells k same (view same) q

-- the sent limits of a bridge with number k after a delivery of m
module _ (k : ℕ) (r : EndRecord) (m : Agreement) (offers sent : ℕ → ℕ) where
  pub cleared_by : r.received ≤ m.number → m.discarded ≡ k → (d : ℕ) → sent_delivered k r m offers sent d ≡ offers d
  unfolding sent_delivered is_clearing is_stale
  cleared_by fresh discarded d = rw (le-ltb m.number r.received fresh, eq-eqb m.discarded k discarded)

  pub cleared-still : ((d : ℕ) → sent d ≡ offers d) → (d : ℕ) → sent_delivered k r m offers sent d ≡ offers d
  unfolding sent_delivered
  cleared-still same d = go (is_clearing k r m)
    where
      go : (b : Bool) → cond b (offers d) (sent d) ≡ offers d
      go true = refl
      go false = same d
