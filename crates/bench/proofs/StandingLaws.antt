-- The state in which a network stands, place by place. Assumes nothing.
use Prim.Native.Nat.{ℕ, zero, suc, ◌+◌, ◌*◌, ◌/◌, ◌%◌, ◌<◌}
use native.Mathlib.Nat.{add-zero}
use native.Mathlib.Omega.{arith}
use mathlib.Core.Path.{◌≡◌, refl, sym, ◌∙◌, ap}
use mathlib.Core.Bool.{Bool, true, false, cond, ◌&&◌, false≢true}
use mathlib.Core.List.{List}
use lib.ListN.{length, get_or, set, length-set}
use lib.Seq.{get_or-set_other}
use lib.Dec.{ltb}
use borrow.Author.Tests.{ltb-true}
use Rattle.distances.specs.Table.{cell, rewritten}
use Rattle.distances.proofs.Booleans.{both_true}
use Rattle.distances.proofs.Tables.{cell-is, rewritten-length, elements-are}
use Rattle.protocol.specs.Net.{Message}
use Rattle.protocol.specs.Calls.{no_message_there}
use Rattle.bench.specs.State.{message_from, messages_from, numbers_of}
use Rattle.bench.specs.Standing.{with_first, with_rows, number_in}
use Rattle.bench.proofs.TieQueue.{message-at}

-- ---- what became of a list

-- as long, and the same at every place that is not chosen
pub record Part {A : Type 0} (chosen : ℕ → Bool) (d : A) (old new : List A) : Type 0 where
  pub long : length new ≡ length old
  pub same : (p : ℕ) → p < length old → chosen p ≡ false → get_or new p d ≡ get_or old p d

-- the places below n, and those of the first rows and columns, 16 numbers to a row
abbrev pub below : ℕ → ℕ → Bool
below n p = ltb p n

abbrev pub in_rows : ℕ → ℕ → ℕ → Bool
in_rows rows columns p = ltb (p / 16) rows && ltb (p % 16) columns

module _ {A : Type 0} (c : ℕ → Bool) (d : A) where
  pub part_same : (l : List A) → Part c d l l
  part_same l = record { long = refl; same = λ p h out. refl }

  pub part-set : (l : List A) (i : ℕ) (v : A) → c i ≡ true → Part c d l (set l i v)
  part-set l i v there =
      record { long = length-set l i v; same = λ p h out. get_or-set_other l i p v d (λ e. false≢true (sym out ∙ ap c e ∙ there)) }

  pub part-twice : (x y z : List A) → Part c d x y → Part c d y z → Part c d x z
  part-twice x y z a b = record { long = b.long ∙ a.long; same = λ p h q. b.same p (rw a.long h) q ∙ a.same p h q }

  -- where the chosen places hold f
  pub part-is : (f : ℕ → A) (old new : List A) → Part c d old new → ((p : ℕ) → p < length old → c p ≡ true → get_or new p d ≡ f p) → new ≡ rewritten c f old
  part-is f old new part holds = elements-are c f old d new part.long (λ p h. go p h (c p) refl)
    where
      go : (p : ℕ) → p < length old → (b : Bool) → c p ≡ b → get_or new p d ≡ cond b (f p) (get_or old p d)
      go p h true q = holds p h q
      go p h false q = part.same p h q

module _ {A : Type 0} (d : A) (n : ℕ) (f : ℕ → A) (t : List A) where
  pub first-is : (l : List A) → Part (below n) d t l → ((p : ℕ) → p < n → get_or l p d ≡ f p) → l ≡ with_first n f t
  unfolding with_first
  first-is l part new = part-is (below n) d f t l part (λ p h q. new p (ltb-true p n q))

  pub first-length : length (with_first n f t) ≡ length t
  unfolding with_first
  first-length = rewritten-length (λ p. ltb p n) f t

module _ (rows columns : ℕ) (f : ℕ → ℕ → ℕ) (t : List ℕ) where
  pub rows_is : (l : List ℕ) → Part (in_rows rows columns) 0 t l → ((e d : ℕ) → e < rows → d < columns → cell l e d ≡ f e d) → l ≡ with_rows rows columns f t
  unfolding with_rows
  rows_is l part new =
      part-is (in_rows rows columns) 0 (λ p. f (p / 16) (p % 16)) t l part
      (λ p h q. let both = both_true (ltb (p / 16) rows) _ q in
      ap (λ (k : ℕ). get_or l k 0) (omega arith) ∙ sym (cell-is l (p / 16) (p % 16)) ∙ new (p / 16) (p % 16) (ltb-true _ _ both.0) (ltb-true _ _ both.1))

  pub rows-length : length (with_rows rows columns f t) ≡ length t
  unfolding with_rows
  rows-length = rewritten-length (λ p. ltb (p / 16) rows && ltb (p % 16) columns) (λ p. f (p / 16) (p % 16)) t

-- ---- messages

number_of : (m : List ℕ) (i j : ℕ) → j < 5 → get_or (numbers_of (message_from m i)) j 0 ≡ get_or m (5 * i + j) 0
number_of m i zero h = rw add-zero
number_of m i (suc zero) h = refl
number_of m i (suc (suc zero)) h = refl
number_of m i (suc (suc (suc zero))) h = refl
number_of m i (suc (suc (suc (suc zero)))) h = refl
number_of m i (suc (suc (suc (suc (suc j))))) h = absurd (omega arith)

module _ (ms : List Message) (t : List ℕ) where
  pub messages-standing :
      (l : List ℕ) → Part (below (5 * length ms)) 0 t l → messages_from 0 (length ms) l ≡ ms → l ≡ with_first (5 * length ms) (number_in ms) t
  unfolding number_in
  messages-standing l part are = first-is 0 (5 * length ms) (number_in ms) t l part new
    where
      new : (p : ℕ) → p < 5 * length ms → get_or l p 0 ≡ get_or (numbers_of (get_or ms (p / 5) no_message_there)) (p % 5) 0
      new p h =
          let there : get_or ms (p / 5) no_message_there ≡ message_from l (p / 5) =
          ap (λ (x : List Message). get_or x (p / 5) no_message_there) (sym are) ∙ message-at (length ms) l (p / 5) (omega arith) in
          rw there (ap (λ (k : ℕ). get_or l k 0) (omega arith) ∙ sym (number_of l (p / 5) (p % 5) (omega arith)))
