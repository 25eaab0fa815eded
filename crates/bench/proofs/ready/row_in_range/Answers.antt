-- `ready::row_in_range` meets its contract. The part that is lent is the view's row. Assumes nothing.
use Prim.Native.Nat.{◌+◌, ◌*◌, ◌-◌}
use native.Mathlib.Omega.{arith}
use mathlib.Core.Path.{◌≡◌}
use Rattle.bench.proofs.ready.row_in_range.Goals as goal

pub returns : goal.returns
returns c =
    let width : 32 * c.args.t + 32 - 32 * c.args.t ≡ 32 = omega arith in
    rw width at c.costs_pass.ensures
