use Rattle.runner.proofs.ListTexts.{telling-next, telling-skip, telling-fits, telling-all}
use Rattle.text.proofs.Puts.{same_length as put-length}
use mathlib.Core.Path.{refl}
use native.Mathlib.Omega.{arith}
use Rattle.runner.proofs.lists.put_texts.Goals as goal
use Rattle.runner.proofs.lists.put_texts.Goals.{then-has_text, else-has_text}

pub overflow_add-past : goal.overflow_add-past
overflow_add-past c =
    let fits = telling-fits _ _ _ _ _ _ _ _ _ c.loop-event.invariant _ _ refl (omega arith) c.answer_size.ensures in record { fits = omega (arith, fits.0, c.well_formed) }

pub slice_bounds-event_text-end : goal.slice_bounds-event_text-end
slice_bounds-event_text-end c =
    let fits = telling-fits _ _ _ _ _ _ _ _ _ c.loop-event.invariant _ _ refl (omega arith) c.answer_size.ensures in omega (arith, fits.0)

pub overflow_add-end : goal.overflow_add-end
overflow_add-end c =
    let n = telling-next _ _ _ _ _ _ _ _ _ c.loop-event.invariant _ _ refl (omega arith) _ _ _ c.answer_size.ensures c.event_text-end.ensures in
    record { fits = omega (arith, n.room, put-length n.put, c.well_formed) }

pub loop-event-preserved : goal.loop-event-preserved
loop-event-preserved c =
    elim c.if-has_text.branch [
      | then-has_text w ↦ rw (w.out-is, w.end-is, w.at-is) (telling-next _ _ _ _ _ _ _ _ _ c.loop-event.invariant _ _ refl (omega arith) _ _ _ c.answer_size.ensures w.event_text-end.ensures)
      | else-has_text w ↦ rw (w.out-is, w.end-is, w.at-is) (telling-skip _ _ _ _ _ _ _ _ _ c.loop-event.invariant _ _ refl (omega arith) _ c.answer_size.ensures (c.has_text.ensures w.if-has_text.false))
    ]

pub returns : goal.returns
returns c = telling-all _ _ _ _ _ _ _ _ _ c.loop-event.invariant (omega arith)
