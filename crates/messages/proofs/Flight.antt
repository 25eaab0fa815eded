-- A slice's messages and their numbers. Assumes nothing.
--     numbers-length, numbers-append    the numbers of messages one behind the other
--     in-flight, flight_all             all that a call reads of a slice
--     five, five-at                     five numbers, and those of a list that is cut into fives
--     read-one, in-place, behind        a turn of the loop that reads a slice, and of the one that writes it
use Rattle.std.proofs.Common.{◌≡◌, ℕ, zero, suc, ◌+◌, ◌*◌, ◌<◌, ◌≤◌, ◌-◌, min, List, [], ◌∷◌, ◌++◌, length, get_or, take, drop, set, refl, sym, ◌∙◌, ap, arith, length-take}
use Rattle.std.proofs.lemmas.List.{take_more, take_more_set, take-append-drop, drop-take}
use Rattle.std.proofs.lemmas.Slice.{take-put_mid}
use Rattle.std.specs.Simd.{first_chunks}
use lib.Seq.{take-take, take_all, drop-drop}
use borrow.Rule.Slice.PartMut.{put_mid}
use Rattle.messages.specs.declared.Message.{Message}
use Rattle.messages.specs.Slices.{numbers_in, flight}

-- ---- the numbers of messages

pub numbers-length : (ms : List Message) → length (numbers_in ms) ≡ 5 * length ms
unfolding numbers_in
numbers-length [] = refl
numbers-length (m ∷ ms) = let next : 5 * suc (length ms) ≡ suc (suc (suc (suc (suc (5 * length ms))))) = omega arith in ap (λ (n : ℕ). suc (suc (suc (suc (suc n))))) (numbers-length ms) ∙ sym next

-- the numbers of messages one behind the other
pub numbers-append : (ms ns : List Message) → numbers_in (ms ++ ns) ≡ numbers_in ms ++ numbers_in ns
unfolding numbers_in
numbers-append [] ns = refl
numbers-append (m ∷ ms) ns = ap (λ (r : List ℕ). m.link ∷ m.direction ∷ m.view ∷ m.number ∷ m.discarded ∷ r) (numbers-append ms ns)

-- all of a slice that a call reads
pub in-flight : (ms : List Message) (k : ℕ) → k ≡ min (length ms) 64 → numbers_in (take k ms) ≡ flight ms
in-flight ms k e =
    ap numbers_in (sym (take-take k 64 ms (omega (arith, e))) ∙ take_all k (take 64 ms) (omega (arith, e, length-take 64 ms)))

-- 64 messages are all that a call reads of them
pub flight_all : (ms : List Message) → length ms ≡ 64 → numbers_in ms ≡ flight ms
flight_all ms e = ap numbers_in (sym (take_all 64 ms (omega (arith, e))))

-- ---- lists that are cut into fives

-- the message that five numbers are
abbrev pub message : List ℕ → Message
message l = record { link = get_or l 0 0; direction = get_or l 1 0; view = get_or l 2 0; number = get_or l 3 0; discarded = get_or l 4 0 }

-- and its numbers
pub five : (l : List ℕ) → length l ≡ 5 → numbers_in (message l ∷ []) ≡ l
unfolding numbers_in
five [] e = absurd (omega arith)
five (a ∷ []) e = absurd (omega arith)
five (a ∷ b ∷ []) e = absurd (omega arith)
five (a ∷ b ∷ c ∷ []) e = absurd (omega arith)
five (a ∷ b ∷ c ∷ d ∷ []) e = absurd (omega arith)
five (a ∷ b ∷ c ∷ d ∷ f ∷ []) e = refl
five (a ∷ b ∷ c ∷ d ∷ f ∷ g ∷ l) e = absurd (omega arith)

-- the front of a list in two parts
pub take_two : (m n : ℕ) (l : List ℕ) → take m l ++ take n (drop m l) ≡ take (m + n) l
take_two m n l = sym (λ i. take-take m (m + n) l (omega arith) i ++ drop-take m n l i) ∙ take-append-drop m (take (m + n) l)

-- the fives of a list that is cut
pub five-at : (n k : ℕ) (l : List ℕ) → k < n → get_or (first_chunks 5 n l) k [] ≡ take 5 (drop (5 * k) l)
five-at zero k l h = absurd (omega arith)
five-at (suc n) zero l h = refl
five-at (suc n) (suc k) l h =
    let next : 5 + 5 * k ≡ 5 * suc k = omega arith in
    five-at n k (drop 5 l) (omega arith)
    ∙ ap (take 5) (drop-drop (5 * k) 5 l ∙ ap (λ (j : ℕ). drop j l) next)

-- ---- the turns of the loops

-- a turn of `copies::read`: the part that holds message k's numbers is written
pub read-one :
    (ms : List Message) (m : Message) (k j : ℕ) (l five : List ℕ) →
    k < length ms → 5 * k + 5 ≤ length l → take (5 * k) l ≡ numbers_in (take k ms) → five ≡ numbers_in (get_or ms k m ∷ []) →
    take (5 * (k + 1)) (put_mid (5 * k) j l five) ≡ numbers_in (take (k + 1) ms)
read-one ms m k j l five h fits e f =
    take-put_mid (5 * k) j l five (5 * (k + 1)) (omega (arith, ap length f, numbers-length (get_or ms k m ∷ []))) (omega arith)
    ∙ (λ i. e i ++ f i)
    ∙ sym (ap numbers_in (take_more ms k m h) ∙ numbers-append (take k ms) (get_or ms k m ∷ []))

-- a turn of `copies::write`: message k is put in its place
pub in-place :
    (ms : List Message) (m : Message) (k : ℕ) (l : List ℕ) →
    k < length ms → numbers_in (take k ms) ≡ take (5 * k) l → numbers_in (m ∷ []) ≡ take 5 (drop (5 * k) l) →
    numbers_in (take (k + 1) (set ms k m)) ≡ take (5 * (k + 1)) l
in-place ms m k l h e f =
    let next : 5 * k + 5 ≡ 5 * (k + 1) = omega arith in
    ap numbers_in (take_more_set ms k m h)
    ∙ numbers-append (take k ms) (m ∷ [])
    ∙ (λ i. e i ++ f i)
    ∙ take_two (5 * k) 5 l
    ∙ ap (λ (j : ℕ). take j l) next

-- and those behind a place are as they were, further back too
pub behind : (ms ns : List Message) (k n : ℕ) → k ≤ n → drop k ms ≡ drop k ns → drop n ms ≡ drop n ns
behind ms ns k n h e =
    let rest : n ≡ k + (n - k) = omega arith in
    ap (λ (j : ℕ). drop j ms) rest
    ∙ sym (drop-drop (n - k) k ms)
    ∙ ap (drop (n - k)) e
    ∙ drop-drop (n - k) k ns
    ∙ sym (ap (λ (j : ℕ). drop j ns) rest)
