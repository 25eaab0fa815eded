-- `queue::put` meets its contract. Assumes nothing.
use Prim.Native.Nat.{◌+◌, ◌*◌, ◌-◌}
use native.Mathlib.Omega.{arith}
use mathlib.Core.Path.{◌≡◌}
use mathlib.Core.List.{append_assoc}
use lib.ListN.{length}
use lib.Seq.{sets-eq, drop-drop}
use Rattle.bench.proofs.queue.put.Goals as goal

pub returns : goal.returns
returns c =
    let a = c.args in
    let five : length a.message ≡ 5 = omega arith in
    let wide : 5 * a.place + 5 - 5 * a.place ≡ 5 = omega arith in
    rw (sets-eq a.message a.messages.now (5 * a.place) (omega arith), c.copy_from_slice.ensures.after, append_assoc, five, wide, drop-drop)
