-- What the code's types tell of a bench: the lengths of its arrays, and numbers of 16 bits. Assumes nothing.
use Prim.Native.Nat.{ℕ, zero, suc, ◌<◌}
use native.Mathlib.Omega.{arith}
use mathlib.Core.List.{List, [], ◌∷◌}
use mir.Val.{Val}
use denote.Array.{each}
use denote.Builtin.{u16}
use denote.Laws.{Is}
use denote.Shadow.{shadow}
use lib.ListN.{get_or}
use Rattle.agreement.specs.Record.{fresh_record}
use Rattle.agreement.specs.declared.EndRecord.{EndRecord}
use Rattle.agreement.specs.contracts.EndRecord as R
use Rattle.bench.specs.declared.Bench.{Bench}
use Rattle.bench.specs.contracts.Bench as B
use Rattle.bench.proofs.Represents.{Typed}

-- each of the numbers of 16 bits
numbers-fit : (xs : List ℕ) (us : List Val) (y : ℕ) → shadow (each (u16).Denot (u16).own_val xs us) → get_or xs y 0 < 65536
numbers-fit [] us y p = omega arith
numbers-fit (x ∷ xs) [] y p = absurd p
numbers-fit (x ∷ xs) (u ∷ us) zero p = p.0.1
numbers-fit (x ∷ xs) (u ∷ us) (suc y) p = numbers-fit xs us y p.1

-- each record's two numbers
records-fit :
    (xs : List EndRecord) (us : List Val) (e : ℕ) →
    shadow (each (R.the_row).Denot (R.the_row).own_val xs us) →
    ((get_or xs e fresh_record).received < 65536) × ((get_or xs e fresh_record).discarded < 65536)
records-fit [] us e p = (omega arith, omega arith)
records-fit (x ∷ xs) [] e p = absurd p
records-fit (x ∷ xs) (u ∷ us) zero p = (p.0.1.1.0.1, p.0.1.1.1.0.1)
records-fit (x ∷ xs) (u ∷ us) (suc e) p = records-fit xs us e p.1

pub typed-by : (b : Bench) (v : Val) → Is B.the_row b (v ∷ []) → Typed b
typed-by b v is =
    let fields = is.1.1.1.1.1.1.1 in
    record {
      views = fields.0.1.0.1;
      numbers = fields.1.0.1.0.1;
      records = fields.1.1.0.1.0.1;
      flags = fields.1.1.1.0.1.0.1;
      number = λ y h. numbers-fit b.number _ y fields.1.0.1.1;
      received = λ e h. (records-fit b.records _ e fields.1.1.0.1.1).0;
      discarded = λ e h. (records-fit b.records _ e fields.1.1.0.1.1).1;
    }
