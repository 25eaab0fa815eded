-- `fills::fill_by_list` meets its contract. Assumes nothing.
use Rattle.runner.proofs.FieldSteps.{long-told}
use Rattle.runner.proofs.ListResults.{fields-are, fill_one, list-filled, result_fits}
use Rattle.distances.proofs.Booleans.{both_true}
use lib.Seq.{length-take-le}
use lib.ListN.{length-replicate}
use mathlib.Core.Path.{sym, ◌∙◌}
use native.Mathlib.Omega.{arith}
use Prim.Native.Nat.{ℕ}
use Rattle.runner.proofs.fills.fill_by_list.Goals as goal

pub answer_room-room-requires : goal.answer_room-room-requires
answer_room-room-requires c = (long-told _ (both_true _ _ c.requires).1).out

pub returns-then-read-eq0-clause-fill : goal.returns-then-read-eq0-clause-fill
returns-then-read-eq0-clause-fill c =
    let one = fields-are _ _ _ c.requires _ c.answer_room-room.ensures _ (rw c.list_progress-progress.ensures at c.read_events-read.ensures) in
    c.step.ensures.step ∙ sym (fill_one _ _ _ (omega (arith, one, c.if-read-eq0.true)))

pub batch_step-requires : goal.batch_step-requires
batch_step-requires c =
    let long = length-take-le _ _ (omega (arith, c.answer_room-room.ensures, length-replicate {A = ℕ} 2048 0)) in
    let made = rw (c.make-batch.ensures.costs, c.list.ensures) at c.make-batch.ensures.made in
    rw (c.list_progress-progress.ensures)
    (result_fits _ _ _ c.requires _ c.answer_room-room.ensures _ (rw c.list_progress-progress.ensures at c.read_events-read.ensures) c.if-read-eq0.false c.make-batch.result _ _ _ _ _ _ long made _)

pub returns-clause-fill : goal.returns-clause-fill
returns-clause-fill c =
    let long = length-take-le _ _ (omega (arith, c.answer_room-room.ensures, length-replicate {A = ℕ} 2048 0)) in
    let made = rw (c.make-batch.ensures.costs, c.list.ensures) at c.make-batch.ensures.made in
    rw c.make-batch.ensures.costs
    (list-filled _ _ _ c.requires _ c.answer_room-room.ensures _ (rw c.list_progress-progress.ensures at c.read_events-read.ensures) c.if-read-eq0.false c.make-batch.result _ _ _ _ _ _ long made _ c.batch_step.result (rw c.list_progress-progress.ensures at c.batch_step.ensures))
