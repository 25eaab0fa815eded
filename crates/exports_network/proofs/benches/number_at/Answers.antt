-- `benches::number_at` meets its contract. A number of a record, of which there are 64.
use Prim.Native.Nat.{ℕ, ◌<◌, ◌≤◌, ◌-◌, ◌/◌, ◌%◌}
use native.Mathlib.Omega.{arith}
use mathlib.Core.Path.{◌≡◌, ◌∙◌}
use borrow.Author.Rules.{rules}
use borrow.Author.Tests.{lt-ltb, le-ltb}
use lib.ListN.{length, get_or}
use Rattle.agreement.specs.Record.{fresh_record}
use Rattle.agreement.specs.declared.EndRecord.{EndRecord}
use Rattle.agreement.proofs.Basics.{get_d_default}
use Rattle.bench.specs.declared.Bench.{Bench}
use Rattle.bench.proofs.ChangeSteps.{length-mapped}
use Rattle.encoding.specs.Numbers.{record_numbers}
use Rattle.exports_network.specs.Network.{number_at}
use Rattle.exports_network.proofs.benches.number_at.Goals as goal

of_record :
    (b : Bench) (k : ℕ) (d : EndRecord) → 100 ≤ k → k < 356 → length b.records ≡ 64 →
    get_or (record_numbers (get_or b.records ((k - 100) / 4) d)) (k % 4) 0 ≡ number_at b k
unfolding number_at
of_record b k d from below listed =
    let i : ℕ = (k - 100) / 4 in
    let h : i < length b.records = omega (arith, listed) in
    rw (le-ltb k 4 (omega arith), le-ltb k 68 (omega arith), le-ltb k 84 (omega arith), le-ltb k 100 from, lt-ltb k 356 below, get_d_default b.records i d fresh_record h)

pub returns-in-0-to-355 : goal.returns-in-0-to-355
returns-in-0-to-355 c =
    c.field_of.ensures ∙ of_record c.args.bench.now c.args.k _ (omega arith) (omega arith) (search (rules, length-mapped))
