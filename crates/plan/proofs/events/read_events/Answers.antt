-- The events go on from one to the next as the definition's do.
use native.Mathlib.Numerals.{add-one}
use native.Mathlib.Omega.{arith}
use mathlib.Core.Path.{sym, ap, ◌∙◌}
use Rattle.plan.specs.Events.{listing, events_reply}
use Rattle.plan.proofs.EventLaws.{none-out-of-range}
use Rattle.plan.proofs.EventLoop.{LoopStep, stops, ended, goes_on}
use Rattle.plan.proofs.events.read_events.Goals as goal
use Rattle.plan.proofs.events.read_events.Goals.{In-Some}

-- one event more
step : (t : In-Some) → let a = t.args in let l = t.loop in LoopStep a.rest.now a.p a.room l.read l.left l.at l.counter t.in-Some.next
step t =
    goes_on _ _ _ _ _ _ _ t.loop.invariant _ (sym t.in-Some.ensures) t.loop-test.true

pub returns-then-not-progress_in_range : goal.returns-then-not-progress_in_range
unfolding events_reply
returns-then-not-progress_in_range c =
    c.none-read.ensures ∙ sym (ap listing (none-out-of-range _ _ _ _ _ (sym c.if-not-progress_in_range.ensures)))

pub returns-in_default : goal.returns-in_default
returns-in_default c = stops _ _ _ _ _ _ _ c.loop.invariant (sym c.in_default.ensures)

pub overflow_add-at : goal.overflow_add-at
overflow_add-at c = record { fits = omega (arith, (step (goal.at.overflow_add-at c).In-Some).then.within, c.well_formed) }

pub overflow_sub-left : goal.overflow_sub-left
overflow_sub-left c = (step (goal.at.overflow_sub-left c).In-Some).size

-- 2,048 events of at most 5 bytes fit 16 bits
pub overflow_cast-at : goal.overflow_cast-at
overflow_cast-at c = let then = (step (goal.at.overflow_cast-at c).In-Some).then in record { fits = omega (arith, then.short, then.few) }

pub loop-preserved : goal.loop-preserved
loop-preserved c = rw (c.add.ensures, add-one) (step (goal.at.loop-preserved c).In-Some).then

pub returns : goal.returns
returns c = ended _ _ _ _ _ _ _ c.loop.invariant c.loop-test.false
