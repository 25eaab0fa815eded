-- A bench that was read from numbers is as a bench of that type is: its arrays have their lengths and the numbers in them their widths.
-- Assumes nothing.
use Prim.Native.Nat.{ℕ, zero, suc, ◌+◌, ◌*◌, ◌%◌, ◌<◌}
use native.Mathlib.Omega.{arith}
use mathlib.Core.List.{List, [], ◌∷◌, ◌++◌}
use mathlib.Core.Path.{◌≡◌, refl}
use lib.ListN.{length, get_or, take, drop, length-append}
use Rattle.agreement.specs.Record.{fresh_record}
use Rattle.agreement.specs.declared.EndRecord.{EndRecord}
use Rattle.bench.specs.declared.Bench.{Bench}
use Rattle.bench.proofs.Represents.{Typed}
use Rattle.encoding.specs.Numbers.{tabulated, record_at}
use Rattle.exports_network.specs.Network.{bench_in, Holds}

length-tabulated : {A : Type 0} (f : ℕ → A) (n : ℕ) → length (tabulated n f) ≡ n
unfolding tabulated
length-tabulated f zero = refl
length-tabulated f (suc n) = simp length-append (omega (arith, length-tabulated f n))

-- what holds of what is read past the end, and of each f, holds of what is read anywhere
module _ {A : Type 0} (P : A → Type 0) (d : A) (past : P d) where
  one_more : (l : List A) (x : A) → ((i : ℕ) → P (get_or l i d)) → P x → (i : ℕ) → P (get_or (l ++ (x ∷ [])) i d)
  one_more [] x all here zero = here
  one_more [] x all here (suc i) = past
  one_more (y ∷ l) x all here zero = all 0
  one_more (y ∷ l) x all here (suc i) = one_more l x (λ j. all (suc j)) here i

  anywhere : (n : ℕ) (f : ℕ → A) → ((i : ℕ) → P (f i)) → (i : ℕ) → P (get_or (tabulated n f) i d)
  unfolding tabulated
  anywhere zero f each i = past
  anywhere (suc n) f each i = one_more (tabulated n f) (f n) (anywhere n f each) (each n) i

abbrev Narrow : EndRecord → Type 0
Narrow r = (r.received < 65536) × (r.discarded < 65536)

narrow : (xs : List ℕ) (k : ℕ) → Narrow (record_at xs k)
unfolding record_at
narrow xs k = (omega arith, omega arith)

of_numbers : (xs : List ℕ) → Typed (bench_in xs)
unfolding bench_in
of_numbers xs =
    let rs : List ℕ = take 256 (drop 100 xs) in
    let records = anywhere Narrow fresh_record (omega arith, omega arith) 64 (λ e. record_at rs (4 * e)) (λ e. narrow rs (4 * e)) in
    record {
      views = length-tabulated _ 16;
      numbers = length-tabulated _ 16;
      records = length-tabulated _ 64;
      flags = length-tabulated _ 64;
      number = λ y h. anywhere (λ n. n < 65536) 0 (omega arith) 16 (λ i. get_or xs (84 + i) 0 % 65536) (λ i. omega arith) y;
      received = λ e h. (records e).0;
      discarded = λ e h. (records e).1;
    }

pub typed-bench : {xs : List ℕ} {b : Bench} → Holds xs b → Typed b
typed-bench {xs} held = rw held.bench (of_numbers xs)
