-- The plan begins with what was read before.
use Rattle.play.proofs.Reading.{read-on-told, put_first, unread-told, unread-carried}
use Rattle.play.proofs.Moved.{rest_read}
use Rattle.play.specs.Output.{Carried}
use Rattle.std.proofs.lemmas.Result.{err_from_is_err_and}
use Rattle.std.proofs.KnownBytes.{Keeps-refl}
use lib.ListN.{length, take, replicate, length-replicate}
use Prim.Native.Nat.{ℕ}
use mathlib.Core.Path.{◌≡◌}
use native.Mathlib.Omega.{arith}
use Rattle.play.proofs.read_on.Goals as goal

pub returns-in_err-end-clause-played : goal.returns-in_err-end-clause-played
returns-in_err-end-clause-played g c = let p = err_from_is_err_and c.from_residual.result c.from_residual.ensures.1 in rw (p.1, p.2) (unread-told _ _ c.in_err-end.ensures.behind)

pub returns-in_err-end-clause-carried : goal.returns-in_err-end-clause-carried
returns-in_err-end-clause-carried g c = let p = err_from_is_err_and c.from_residual.result c.from_residual.ensures.1 in rw (p.1, p.2) (unread-carried _ _ _ _ c.in_err-end.ensures.behind (Keeps-refl _))

pub returns-clause-played : goal.returns-clause-played
returns-clause-played g c =
    let read = c.in_ok-end.ensures.behind in
    let front = put_first c.args.begun.now (replicate 61441 0) c.copy_from_slice.new.self c.read_rest.new.bytes (length c.args.begun.now) read.2 c.copy_from_slice.ensures.after in
    let long : length c.read_rest.new.bytes ≡ 61441 = omega (arith, c.read_rest.auto.bytes, length-replicate {A = ℕ} 61441 0) in
    read-on-told c.args.begun.now c.read_rest.new.bytes (length c.args.begun.now) c.in_ok-end.end c.print.result read.0 front long c.print.ensures.handed

pub returns-clause-carried : goal.returns-clause-carried
returns-clause-carried g c =
    let read = c.in_ok-end.ensures.behind in
    let front = put_first c.args.begun.now (replicate 61441 0) c.copy_from_slice.new.self c.read_rest.new.bytes (length c.args.begun.now) read.2 c.copy_from_slice.ensures.after in
    let long : length c.read_rest.new.bytes ≡ 61441 = omega (arith, c.read_rest.auto.bytes, length-replicate {A = ℕ} 61441 0) in
    Carried.read (take c.in_ok-end.end c.read_rest.new.bytes)
    (rest_read _ _ c.args.begun.now c.read_rest.new.bytes (length c.args.begun.now) c.in_ok-end.end c.requires read.0 read.1 long front c.in_ok-end.ensures.gave)
    c.print.ensures.handed c.print.ensures.wrote
