-- `tables::Distances::table` meets its contract. Assumes nothing.
use Prim.Native.Nat.{◌+◌, ◌*◌, ◌-◌}
use native.Mathlib.Omega.{arith}
use mathlib.Core.Path.{◌≡◌}
use Rattle.bench.proofs.tables.Distances.table.Goals as goal

pub returns : goal.returns
returns c =
    let wide : 256 * c.args.view + 256 - 256 * c.args.view ≡ 256 = omega arith in
    rw wide
