-- What the code's types tell of a bench. Assumes nothing.
use Rattle.std.specs.Prelude.{ℕ, ◌*◌, ◌<◌, ◌≡◌, length, get_or}
use Rattle.agreement.specs.Record.{fresh_record}
use Rattle.bench.specs.declared.Bench.{Bench}

-- the lengths of its arrays, and numbers of 16 bits
pub record Typed (b : Bench) : Type 0 where
  pub views : length b.view ≡ 16
  pub numbers : length b.number ≡ 16
  pub records : length b.records ≡ 64
  pub flags : length b.down ≡ 64
  pub number : (y : ℕ) → y < b.bridges → get_or b.number y 0 < 65536
  pub received : (e : ℕ) → e < 2 * b.links → (get_or b.records e fresh_record).received < 65536
  pub discarded : (e : ℕ) → e < 2 * b.links → (get_or b.records e fresh_record).discarded < 65536
