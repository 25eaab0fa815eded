-- Laws of the texts: decimal digits evaluate to the number and have no leading zero, how long each text can be, and what a report is made of.
-- Assumes nothing.
use Prim.Native.Nat.{ℕ, zero, suc, ◌+◌, ◌*◌, ◌/◌, ◌%◌, ◌^◌, ◌≤◌, ◌<◌}
use native.Mathlib.Nat.{pow-suc}
use native.Mathlib.Omega.{arith}
use mathlib.Core.Bool.{Bool, true, false, cond}
use mathlib.Core.List.{List, [], ◌∷◌, ◌++◌}
use mathlib.Core.Path.{◌≡◌, refl}
use lib.Dec.{ltb, eqb}
use lib.ListN.{length, get_or, length-append, get_or-append}
use borrow.Author.Tests.{ltb-true, ltb-false, lt-ltb, le-ltb}
use Rattle.text.specs.Decimal.{digit, digits, decimal, value_from, DecimalTells}
use Rattle.text.specs.Lines.{or_dash, row_line, row_lines, report_lines, distance_at, link_at, report_text, delivered_text, stops_text, end_text, refused_text}

-- a number's digits by the three cases of the code
pub digits_last : (n : ℕ) → digits 0 n ≡ digit (n % 10) ∷ []
unfolding digits
digits_last n = refl

pub digits-one : (k n : ℕ) → n < 10 → digits k n ≡ digit n ∷ []
unfolding digits
digits-one zero n h = let e : n % 10 ≡ n = omega arith in rw e
digits-one (suc k) n h = rw (lt-ltb n 10 h)

pub digits_more : (k n : ℕ) → 10 ≤ n → digits (suc k) n ≡ digits k (n / 10) ++ (digit (n % 10) ∷ [])
unfolding digits
digits_more k n h = rw (le-ltb n 10 h)

-- where there are enough, one more place changes nothing
digits_enough : (k n : ℕ) → n < 10 ^ suc k → digits (suc k) n ≡ digits k n
unfolding digits
digits_enough zero n h = rw (digits-one 1 n h, digits-one 0 n h)
digits_enough (suc k) n h = rw (digits_enough k (n / 10) (omega (arith, pow-suc 10 (suc k))))

-- a number of 32 bits by the two cases of the code
pub decimal_one : (n : ℕ) → n < 10 → decimal n ≡ digit n ∷ []
decimal_one n h = digits-one 9 n h

-- of one, two and three digits, which the code writes without the recursion
pub decimal_last : (n : ℕ) → n < 10 → decimal n ≡ digit (n % 10) ∷ []
decimal_last n h = let e : n % 10 ≡ n = omega arith in rw e (decimal_one n h)

pub decimal_two : (n : ℕ) → 10 ≤ n → n < 100 → decimal n ≡ digit (n / 10 % 10) ∷ digit (n % 10) ∷ []
decimal_two n h l =
    let tens : n / 10 % 10 ≡ n / 10 = omega arith in
    rw (digits_more 8 n h, digits-one 8 (n / 10) (omega arith), tens)

pub decimal_three : (n : ℕ) → 100 ≤ n → n < 1000 → decimal n ≡ digit (n / 10 / 10 % 10) ∷ digit (n / 10 % 10) ∷ digit (n % 10) ∷ []
decimal_three n h l =
    let hundreds : n / 10 / 10 % 10 ≡ n / 10 / 10 = omega arith in
    rw (digits_more 8 n (omega arith), digits_more 7 (n / 10) (omega arith), digits-one 7 (n / 10 / 10) (omega arith), hundreds)

pub decimal_more : (n : ℕ) → 10 ≤ n → n < 2 ^ 32 → decimal n ≡ decimal (n / 10) ++ (digit (n % 10) ∷ [])
decimal_more n h l = rw (digits_more 8 n h, digits_enough 8 (n / 10) (omega arith))

pub length_more : (n : ℕ) → 10 ≤ n → n < 2 ^ 32 → length (decimal n) ≡ length (decimal (n / 10)) + 1
length_more n h l = rw (decimal_more n h l, length-append) refl

-- what holds of each byte of a list and of one more holds of each byte of both
every_more :
    (P : ℕ → Type 0) (s : List ℕ) (b : ℕ) → ((i : ℕ) → i < length s → P (get_or s i 0)) → P b →
    (i : ℕ) → i < length (s ++ (b ∷ [])) → P (get_or (s ++ (b ∷ [])) i 0)
every_more P [] b h p zero l = p
every_more P [] b h p (suc i) l = absurd (omega arith)
every_more P (x ∷ s) b h p zero l = h zero (omega arith)
every_more P (x ∷ s) b h p (suc i) l = every_more P s b (λ j m. h (suc j) (omega arith)) p i (omega arith)

-- a number by its last digit: what holds of one digit, and of more digits where it holds of the tenth's
by_last :
    (P : List ℕ → ℕ → Type 0) (k n : ℕ) →
    (n < 10 → P (digit n ∷ []) n) →
    (10 ≤ n → P (digits k (n / 10) ++ (digit (n % 10) ∷ [])) n) → P (digits (suc k) n) n
unfolding digits
by_last P k n one more = go (ltb n 10) refl
  where
    go : (b : Bool) → ltb n 10 ≡ b → P (cond b (digit n ∷ []) (digits k (n / 10) ++ (digit (n % 10) ∷ []))) n
    go true e = one (ltb-true n 10 e)
    go false e = more (ltb-false n 10 e)

pub length_digits : (k n : ℕ) → (0 < length (digits k n)) × (length (digits k n) ≤ k + 1)
length_digits zero n = rw digits_last (omega arith)
length_digits (suc k) n =
    by_last (λ s m. (0 < length s) × (length s ≤ suc k + 1)) k n
    (λ h. omega arith)
    (λ h. simp length-append (omega (arith, length_digits k (n / 10))))

pub length_decimal : (n : ℕ) → length (decimal n) ≤ 10
length_decimal n = (length_digits 9 n).1

-- a number below 100 has at most two digits
pub length_two : (n : ℕ) → n < 100 → length (decimal n) ≤ 2
length_two n low = go (ltb n 10) refl
  where
    go : (b : Bool) → ltb n 10 ≡ b → length (decimal n) ≤ 2
    go true e = rw (digits-one 9 n (ltb-true n 10 e)) (omega arith)
    go false e = rw (digits_more 8 n (ltb-false n 10 e), digits-one 8 (n / 10) (omega arith)) (omega arith)

-- each byte is one of `0` to `9`
abbrev pub IsDigit : ℕ → Type 0
IsDigit b = (48 ≤ b) × (b ≤ 57)

pub digits-bytes : (k n i : ℕ) → i < length (digits k n) → IsDigit (get_or (digits k n) i 0)
digits-bytes zero n = rw digits_last (every_more IsDigit [] (digit (n % 10)) (λ i l. absurd (omega arith)) (omega arith))
digits-bytes (suc k) n =
    by_last (λ s m. (i : ℕ) → i < length s → IsDigit (get_or s i 0)) k n
    (λ h. every_more IsDigit [] (digit n) (λ i l. absurd (omega arith)) (omega arith))
    (λ h. every_more IsDigit (digits k (n / 10)) (digit (n % 10)) (digits-bytes k (n / 10)) (omega arith))

value-joined : (v : ℕ) (s t : List ℕ) → value_from v (s ++ t) ≡ value_from (value_from v s) t
unfolding value_from
value-joined v [] t = refl
value-joined v (b ∷ s) t = value-joined (10 * v + (b % 48)) s t

value-digits : (k n : ℕ) → n < 10 ^ suc k → value_from 0 (digits k n) ≡ n
unfolding value_from
value-digits zero n h = rw digits_last (omega arith)
value-digits (suc k) n h =
    by_last (λ s m. value_from 0 s ≡ m) k n
    (λ l. omega arith)
    (λ l. rw (value-joined 0 (digits k (n / 10)), value-digits k (n / 10) (omega (arith, pow-suc 10 (suc k)))) (omega arith))

-- the digits of a number of 32 bits stand for it
pub value-decimal : (n : ℕ) → n < 2 ^ 32 → value_from 0 (decimal n) ≡ n
value-decimal n h = value-digits 9 n (omega arith)

first-digits : (k n : ℕ) → 0 < n → n < 10 ^ suc k → 48 < get_or (digits k n) 0 0
first-digits zero n p h = rw digits_last (omega arith)
first-digits (suc k) n p h =
    by_last (λ s m. 48 < get_or s 0 0) k n
    (λ l. omega arith)
    (λ l. rw (get_or-append (digits k (n / 10)) (digit (n % 10) ∷ []) 0 0 (length_digits k (n / 10)).0) (first-digits k (n / 10) (omega arith) (omega (arith, pow-suc 10 (suc k)))))

-- no leading zero but for 0 itself
pub decimal-first : (n : ℕ) → 0 < n → n < 2 ^ 32 → 48 < get_or (decimal n) 0 0
decimal-first n p h = first-digits 9 n p (omega arith)

pub decimal-zero : decimal 0 ≡ 48 ∷ []
unfolding digits
decimal-zero = refl

pub decimal-tells : DecimalTells
decimal-tells = record { value = value-decimal; digits = digits-bytes 9; zero = decimal-zero; first = decimal-first }

-- `-`, or ten digits at most
pub length_or_dash : (n : ℕ) → length (or_dash n) ≤ 10
unfolding or_dash
length_or_dash n = go (eqb n 4294967295)
  where
    go : (b : Bool) → length (cond b (45 ∷ []) (decimal n)) ≤ 10
    go true = omega arith
    go false = omega (arith, length_digits 9 n)

-- the lengths of the texts; a bridge below 100 has two digits at most
pub length_row_line : (bridge distance link : ℕ) → bridge < 100 → length (row_line bridge distance link) ≤ 25
unfolding row_line
length_row_line bridge distance link low = simp length-append (omega (arith, length_two bridge low, length_or_dash distance, length_or_dash link))

pub length_row_lines : (distance link : ℕ → ℕ) (k : ℕ) → k ≤ 100 → length (row_lines distance link k) ≤ 25 * k
unfolding row_lines
length_row_lines distance link zero few = omega arith
length_row_lines distance link (suc y) few =
    simp length-append (omega (arith, length_row_lines distance link y (omega arith), length_row_line y (distance y) (link y) (omega arith)))

pub length-report_text : (dest bridges : ℕ) (rows : List ℕ) → dest < 100 → bridges ≤ 100 → length (report_text dest bridges rows) ≤ 8 + 25 * bridges
unfolding report_text report_lines
length-report_text dest bridges rows low few = simp length-append (omega (arith, length_two dest low, length_row_lines (distance_at rows) (link_at rows) bridges few))

-- a report is by the distances and links of the bridges that there are
rows_same :
    (distance link other far : ℕ → ℕ) (k : ℕ) → ((y : ℕ) → y < k → distance y ≡ other y) → ((y : ℕ) → y < k → link y ≡ far y) →
    row_lines distance link k ≡ row_lines other far k
unfolding row_lines
rows_same distance link other far zero d l = refl
rows_same distance link other far (suc y) d l =
    rw (d y (omega arith), l y (omega arith), rows_same distance link other far y (λ z h. d z (omega arith)) (λ z h. l z (omega arith)))

pub report-by :
    (dest bridges : ℕ) (rows : List ℕ) (distance link : ℕ → ℕ) →
    ((y : ℕ) → y < bridges → get_or rows (2 * y) 0 ≡ distance y) →
    ((y : ℕ) → y < bridges → get_or rows (2 * y + 1) 0 ≡ link y) →
    report_text dest bridges rows ≡ report_lines dest bridges distance link
unfolding report_text report_lines
report-by dest bridges rows distance link d l = rw (rows_same (distance_at rows) (link_at rows) distance link bridges d l)

pub length-delivered_text : (start dest hops : ℕ) → start < 100 → dest < 100 → length (delivered_text start dest hops) ≤ 32
unfolding delivered_text
length-delivered_text start dest hops from to = simp length-append (omega (arith, length_two start from, length_two dest to, length_digits 9 hops))

pub length-stops_text : (start dest last hops : ℕ) → start < 100 → dest < 100 → length (stops_text start dest last hops) ≤ 39
unfolding stops_text
length-stops_text start dest last hops from to =
    simp length-append (omega (arith, length_two start from, length_two dest to, length_digits 9 last, length_digits 9 hops))

pub length-end_text : (events : ℕ) → length (end_text events) ≤ 544
unfolding end_text
length-end_text events = simp length-append (omega (arith, length_digits 9 events))

pub length-refused_text : (number offset : ℕ) → length (refused_text number offset) ≤ 544
unfolding refused_text
length-refused_text number offset = simp length-append (omega (arith, length_digits 9 number, length_digits 9 offset))
