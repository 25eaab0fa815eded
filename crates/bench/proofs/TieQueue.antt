-- Messages in flight as lent numbers, five a message: the message at a place, after one is taken out, and after one is added.
-- Assumes nothing.
use Prim.Native.Nat.{ℕ, zero, suc, ◌+◌, ◌*◌, ◌-◌, ◌≤◌, ◌<◌}
use native.Mathlib.Nat.{add-zero, add-suc, suc-add, zero-add, not-suc-le-zero, le_of_suc-le-suc}
use native.Mathlib.Omega.{arith}
use mathlib.Core.Path.{◌≡◌, refl, sym, ◌∙◌, ap}
use mathlib.Core.Bool.{Bool, true, false, cond, ◌&&◌}
use mathlib.Core.List.{List, [], ◌∷◌, ◌++◌}
use lib.ListN.{length, get_or, set, length-set, length-append}
use lib.Seq.{ext_get_or, sets, get_or-set_same, get_or-set_other}
use lib.Dec.{leb, ltb}
use borrow.Author.Tests.{ltb-true, ltb-false, lt-ltb, le-leb, lt-leb}
use Rattle.distances.proofs.Tables.{rewritten-length, rewritten-at}
use Rattle.protocol.specs.Net.{Message}
use Rattle.protocol.specs.Calls.{without, no_message_there}
use Rattle.bench.specs.State.{message_from, messages_from}
use Rattle.bench.specs.State.{numbers_of}
use Rattle.bench.specs.Private.Queue.{taken_out}
use Rattle.protocol.proofs.Places.{skipped, without_at, length_without, without-below, stands-before, stands-new}

-- ---- by places

pub messages-length : (p k : ℕ) (m : List ℕ) → length (messages_from p k m) ≡ k
unfolding messages_from
messages-length p zero m = refl
messages-length p (suc k) m = ap suc (messages-length (suc p) k m)

messages-at-from : (p k : ℕ) (m : List ℕ) (i : ℕ) → i < k → get_or (messages_from p k m) i no_message_there ≡ message_from m (p + i)
unfolding messages_from
messages-at-from p zero m i h = absurd (not-suc-le-zero h)
messages-at-from p (suc k) m zero h = rw add-zero
messages-at-from p (suc k) m (suc i) h =
    messages-at-from (suc p) k m i (le_of_suc-le-suc h) ∙ ap (message_from m) (omega arith)

module _ (k : ℕ) (m : List ℕ) where
  pub message-at : (i : ℕ) → i < k → get_or (messages_from 0 k m) i no_message_there ≡ message_from m i
  message-at i h = rw zero-add at (messages-at-from 0 k m i h)

  -- messages that stand place by place in the numbers
  pub messages-are : (ms : List Message) → length ms ≡ k → ((i : ℕ) → i < k → message_from m i ≡ get_or ms i no_message_there) → messages_from 0 k m ≡ ms
  messages-are ms long each =
      ext_get_or no_message_there (messages_from 0 k m) ms (messages-length 0 k m ∙ sym long)
      (λ i h. let low : i < k = omega (arith, messages-length 0 k m) in message-at i low ∙ each i low)

-- the same five numbers make the same message
same-message : (m o : List ℕ) (p q : ℕ) → ((j : ℕ) → j < 5 → get_or m (5 * p + j) 0 ≡ get_or o (5 * q + j) 0) → message_from m p ≡ message_from o q
same-message m o p q each = λ i.
    record {
      link = first i;
      direction = each 1 (omega arith) i;
      agreement = record { view = each 2 (omega arith) i; number = each 3 (omega arith) i; discarded = each 4 (omega arith) i };
    }
  where
    first : get_or m (5 * p) 0 ≡ get_or o (5 * q) 0
    first = simp add-zero at (each 0 (omega arith))

-- ---- one taken out

module _ (count p : ℕ) (m : List ℕ) where
  pub taken-length : length (taken_out count p m) ≡ length m
  unfolding taken_out
  taken-length = rewritten-length _ _ m

  module _ (listed : p < count) (long : 5 * count ≤ length m) where
    -- a number of the message at place i: it was there, or one place later
    taken-number : (i j : ℕ) → i < count - 1 → j < 5 → get_or (taken_out count p m) (5 * i + j) 0 ≡ get_or m (5 * skipped p i + j) 0
    unfolding taken_out skipped
    taken-number i j low digit =
        rewritten-at (λ k. leb (5 * p) k && ltb k (5 * (count - 1))) (λ k. get_or m (k + 5) 0) m (5 * i + j) (omega arith)
        ∙ rw (lt-ltb (5 * i + j) (5 * (count - 1)) (omega arith)) (go (ltb i p) refl)
      where
        go :
            (b : Bool) →
            ltb i p ≡ b →
            cond (leb (5 * p) (5 * i + j) && true) (get_or m (5 * i + j + 5) 0) (get_or m (5 * i + j) 0) ≡ get_or m (5 * cond b i (suc i) + j) 0
        go true q = rw (lt-leb (5 * p) (5 * i + j) (omega (arith, ltb-true i p q)))
        go false q =
            rw (le-leb (5 * p) (5 * i + j) (omega (arith, ltb-false i p q)))
            (ap (λ (k : ℕ). get_or m k 0) (omega arith))

    pub taken-message : (i : ℕ) → i < count - 1 → message_from (taken_out count p m) i ≡ message_from m (skipped p i)
    taken-message i low = same-message (taken_out count p m) m i (skipped p i) (λ j. taken-number i j low)

    pub taken-count : length (without p (messages_from 0 count m)) ≡ count - 1
    taken-count = length_without (messages_from 0 count m) p 0 ∙ rw (messages-length 0 count m) (omega arith)

    pub taken-below : (i : ℕ) → i < count - 1 → skipped p i < count
    taken-below i low = rw messages-length at (without-below (messages_from 0 count m) p i (rw taken-count low))

    pub taken-messages : messages_from 0 (count - 1) (taken_out count p m) ≡ without p (messages_from 0 count m)
    taken-messages =
        messages-are (count - 1) (taken_out count p m) (without p (messages_from 0 count m)) taken-count
        (λ i low. taken-message i low
        ∙ sym (message-at count m (skipped p i) (taken-below i low))
        ∙ sym (without_at (messages_from 0 count m) p i))

-- ---- one added

module _ (d : ℕ) where
  pub sets-before : (vs l : List ℕ) (i k : ℕ) → k < i → get_or (sets l i vs) k d ≡ get_or l k d
  sets-before [] l i k h = refl
  sets-before (a ∷ vs) l i k h = sets-before vs (set l i a) (suc i) k (omega arith) ∙ get_or-set_other l i k a d (omega arith)

  pub sets-after : (vs l : List ℕ) (i k : ℕ) → i + length vs ≤ k → get_or (sets l i vs) k d ≡ get_or l k d
  sets-after [] l i k h = refl
  sets-after (a ∷ vs) l i k h = sets-after vs (set l i a) (suc i) k (omega arith) ∙ get_or-set_other l i k a d (omega arith)

  pub sets-within : (vs l : List ℕ) (i j : ℕ) → j < length vs → i + length vs ≤ length l → get_or (sets l i vs) (i + j) d ≡ get_or vs j d
  sets-within [] l i j h fits = absurd (not-suc-le-zero h)
  sets-within (a ∷ vs) l i zero h fits =
      rw add-zero (sets-before vs (set l i a) (suc i) i (omega arith) ∙ get_or-set_same l i a d (omega arith))
  sets-within (a ∷ vs) l i (suc j) h fits =
      rw (add-suc, ← suc-add) (sets-within vs (set l i a) (suc i) j (omega arith) (rw length-set (omega arith)))

module _ (count : ℕ) (m : List ℕ) (x : Message) (room : 5 * count + 5 ≤ length m) where
  -- the numbers as they are written
  added-number : (j : ℕ) → j < 5 → get_or (sets m (5 * count) (numbers_of x)) (5 * count + j) 0 ≡ get_or (numbers_of x) j 0
  added-number j h = sets-within 0 (numbers_of x) m (5 * count) j h room

  pub added-message : message_from (sets m (5 * count) (numbers_of x)) count ≡ x
  added-message = λ i.
      record {
        link = first i;
        direction = added-number 1 (omega arith) i;
        agreement =
            record {
              view = added-number 2 (omega arith) i;
              number = added-number 3 (omega arith) i;
              discarded = added-number 4 (omega arith) i;
            };
      }
    where
      first : get_or (sets m (5 * count) (numbers_of x)) (5 * count) 0 ≡ x.link
      first = rw add-zero at (added-number 0 (omega arith))

  pub kept-message : (i : ℕ) → i < count → message_from (sets m (5 * count) (numbers_of x)) i ≡ message_from m i
  kept-message i low =
      same-message (sets m (5 * count) (numbers_of x)) m i i (λ j digit. sets-before 0 (numbers_of x) m (5 * count) (5 * i + j) (omega arith))

  pub added-messages : messages_from 0 (suc count) (sets m (5 * count) (numbers_of x)) ≡ messages_from 0 count m ++ (x ∷ [])
  added-messages =
      messages-are (suc count) _ (messages_from 0 count m ++ (x ∷ [])) (simp (length-append, messages-length) (omega arith))
      (λ i low. go i (ltb i count) refl low)
    where
      go :
          (i : ℕ) (b : Bool) →
          ltb i count ≡ b →
          i < suc count →
          message_from (sets m (5 * count) (numbers_of x)) i ≡ get_or (messages_from 0 count m ++ (x ∷ [])) i no_message_there
      go i true q low =
          let h : i < count = ltb-true i count q in
          kept-message i h ∙ sym (stands-before _ x (messages_from 0 count m) i (rw messages-length h, message-at count m i h)).1
      go i false q low =
          let last : i ≡ count = omega (arith, ltb-false i count q) in
          rw last (added-message ∙ sym (rw messages-length at (stands-new x (messages_from 0 count m)).1))
