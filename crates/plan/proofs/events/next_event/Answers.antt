-- By the header's checks and the field at the head.
use mathlib.Core.Path.{◌≡◌, sym, ◌∙◌}
use mathlib.Core.Bool.{cond}
use borrow.Author.Tests.{lt-ltb, le-ltb}
use lib.Dec.{ltb}
use Rattle.std.specs.Prelude.{None, Some}
use Rattle.plan.specs.Fields.{size}
use Rattle.plan.specs.Steps.{next_event}
use Rattle.plan.proofs.EventLaws.{none-refused, none-other, next-event}
use Rattle.plan.proofs.events.next_event.Goals as goal
use Rattle.plan.proofs.events.next_event.Goals.{After-answer_size-size}

-- where the field is an event
event-is :
    (t : After-answer_size-size) →
    let a = t.args in
    let e = t.in-Event.event in
    next_event a.rest.now a.p a.room
    ≡ cond (ltb a.room t.answer_size-size.result) None (Some (record { event = e; used = size a.rest.now; size = t.answer_size-size.result }))
event-is t =
    rw t.answer_size-size.ensures
    (next-event _ _ _ t.requires t.in-Ok.ensures.2 (sym t.in-Event.ensures))

pub returns-in_default : goal.returns-in_default
returns-in_default c = sym (none-refused _ _ _ c.in_default.field-0 c.in_default.ensures)

pub returns-in_default-field_of : goal.returns-in_default-field_of
returns-in_default-field_of c = sym (none-other _ _ _ (λ e is. c.in_default-field_of.not-Event e (c.field_of.ensures ∙ is)))

pub returns-then-room-size : goal.returns-then-room-size
returns-then-room-size c = rw (event-is (goal.at.returns-then-room-size c).After-answer_size-size, lt-ltb _ _ c.if-room-size.true)

pub returns : goal.returns
returns c = rw (event-is (goal.at.returns c).After-answer_size-size, le-ltb _ _ c.if-room-size.false, c.in-Ok.ensures.1)
