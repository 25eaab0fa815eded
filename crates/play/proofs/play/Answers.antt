-- What was read is carried out, or read on.
use Rattle.play.proofs.Reading.{carried-told, from_nothing, unread-told, unread-carried}
use Rattle.play.proofs.Moved.{carried_before, carried_short, read_more, read_same}
use Rattle.std.proofs.KnownBytes.{Keeps-refl}
use Rattle.std.proofs.lemmas.Result.{err_from_is_err_and}
use lib.ListN.{take, length-replicate, length-take}
use Prim.Native.Nat.{ℕ, ◌≤◌}
use native.Mathlib.Omega.{arith}
use Rattle.play.proofs.play.Goals as goal

pub returns-in_err-n-clause-played : goal.returns-in_err-n-clause-played
returns-in_err-n-clause-played g c =
    let p = err_from_is_err_and c.from_residual.result c.from_residual.ensures.1 in rw (p.1, p.2) (unread-told _ _ c.in_err-n.ensures.behind)

pub returns-in_err-n-clause-carried : goal.returns-in_err-n-clause-carried
returns-in_err-n-clause-carried g c =
    let p = err_from_is_err_and c.from_residual.result c.from_residual.ensures.1 in rw (p.1, p.2) (unread-carried _ _ _ _ c.in_err-n.ensures.behind (Keeps-refl _))

pub returns-then-n-eq0-clause-played : goal.returns-then-n-eq0-clause-played
returns-then-n-eq0-clause-played g c =
    carried-told (take c.in_ok-n.n c.read_piece.new.bytes) c.run_plan.result
    (omega (arith, length-take c.in_ok-n.n c.read_piece.new.bytes, c.if-n-eq0.true)) c.run_plan.ensures.handed

pub returns-then-n-eq0-clause-carried : goal.returns-then-n-eq0-clause-carried
returns-then-n-eq0-clause-carried g c =
    let gave = c.in_ok-n.ensures.gave in
    carried_short _ _ _ _ c.read_piece.new.bytes c.in_ok-n.n c.run_plan.result (omega (arith, c.if-n-eq0.true)) gave.0
    (gave.1 (omega (arith, c.if-n-eq0.true)) (omega (arith, c.read_piece.auto.bytes, length-replicate {A = ℕ} 4096 0)))
    c.run_plan.ensures.handed c.run_plan.ensures.wrote

pub returns-then-n-eq-SHORT_BYTES-clause-played : goal.returns-then-n-eq-SHORT_BYTES-clause-played
returns-then-n-eq-SHORT_BYTES-clause-played g c = from_nothing _ _ c.read_on.ensures.played

pub returns-then-n-eq-SHORT_BYTES-clause-carried : goal.returns-then-n-eq-SHORT_BYTES-clause-carried
returns-then-n-eq-SHORT_BYTES-clause-carried g c = carried_before _ _ _ _ _ _ c.in_ok-n.ensures.gave.0 c.read_on.ensures.carried

pub returns-in_err-end-clause-played : goal.returns-in_err-end-clause-played
returns-in_err-end-clause-played g c =
    let p = err_from_is_err_and c.from_residual-in_err-end.result c.from_residual-in_err-end.ensures.1 in rw (p.1, p.2) (unread-told _ _ c.in_err-end.ensures.behind)

pub returns-in_err-end-clause-carried : goal.returns-in_err-end-clause-carried
returns-in_err-end-clause-carried g c =
    let p = err_from_is_err_and c.from_residual-in_err-end.result c.from_residual-in_err-end.ensures.1 in rw (p.1, p.2) (unread-carried _ _ _ _ c.in_err-end.ensures.behind (Keeps-refl _))

pub returns-then-end-n-clause-played : goal.returns-then-end-n-clause-played
returns-then-end-n-clause-played g c =
    carried-told (take c.in_ok-n.n c.read_piece-2.new.bytes) c.run_plan-then-end-n.result
    (omega (arith, length-take c.in_ok-n.n c.read_piece-2.new.bytes, c.read_piece.auto.bytes, c.read_piece-2.auto.bytes, length-replicate {A = ℕ} 4096 0))
    c.run_plan-then-end-n.ensures.handed

pub returns-then-end-n-clause-carried : goal.returns-then-end-n-clause-carried
returns-then-end-n-clause-carried g c =
    let first = c.in_ok-n.ensures in
    let second = c.in_ok-end.ensures in
    let few : c.in_ok-n.n ≤ 4096 = omega (arith, first.behind.1, c.read_piece.auto.bytes, length-replicate {A = ℕ} 4096 0) in
    let all = read_more _ _ _ 0 c.in_ok-n.n c.in_ok-end.end c.read_piece.new.bytes c.read_piece-2.new.bytes (omega arith)
    second.behind.0 second.behind.1 second.behind.2 first.gave.0 second.gave.0 in
    carried_short _ _ _ _ c.read_piece-2.new.bytes c.in_ok-n.n c.run_plan-then-end-n.result few (read_same _ _ 0 _ _ c.read_piece-2.new.bytes c.if-end-n.true all)
    (second.gave.1 (omega (arith, c.if-end-n.true))
    (omega (arith, few, c.if-n-eq-SHORT_BYTES.false, c.read_piece.auto.bytes, c.read_piece-2.auto.bytes, length-replicate {A = ℕ} 4096 0)))
    c.run_plan-then-end-n.ensures.handed c.run_plan-then-end-n.ensures.wrote

pub returns-clause-played : goal.returns-clause-played
returns-clause-played g c = from_nothing _ _ c.read_on-2.ensures.played

pub returns-clause-carried : goal.returns-clause-carried
returns-clause-carried g c =
    let first = c.in_ok-n.ensures in
    let second = c.in_ok-end.ensures in
    let all = read_more _ _ _ 0 c.in_ok-n.n c.in_ok-end.end c.read_piece.new.bytes c.read_piece-2.new.bytes (omega arith)
    second.behind.0 second.behind.1 second.behind.2 first.gave.0 second.gave.0 in
    carried_before _ _ _ _ _ _ all c.read_on-2.ensures.carried
