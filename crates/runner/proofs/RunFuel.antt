-- Fuel for one field more than there are bytes is enough: each field that goes on uses bytes. Assumes nothing.
use Prim.Native.Nat.{ℕ, zero, suc, ◌<◌}
use native.Mathlib.Nat.{not-suc-le-zero}
use native.Mathlib.Omega.{arith}
use mathlib.Core.Path.{◌≡◌, refl}
use mathlib.Core.Bool.{Bool, true, false, false≢true}
use mathlib.Core.List.{List, ◌++◌, append-nil}
use lib.ListN.{length, take, drop, length-drop}
use lib.Dec.{eqb}
use Rattle.bench.specs.State.{state}
use Rattle.bench.specs.Batches.{reply_of}
use Rattle.bench.specs.declared.Bench.{Bench}
use Rattle.bench.specs.declared.Event.{Event}
use Rattle.plan.specs.declared.Field.{Field}
use Rattle.plan.proofs.Laws.{field-size}
use Rattle.runner.specs.Buffers.{Buffers, state_on, progress_of}
use Rattle.runner.specs.Steps.{last_step, setup_step, with_view, with_row, fresh_with_view, view_step, event_step, field_step, StepOutcome, step_of}
use Rattle.runner.specs.Plans.{prints}
use Rattle.runner.specs.declared.Runner.{Runner}
use Rattle.runner.proofs.RunSteps.{Step, refused, ended, carried, step_is}

-- the bytes of a field that goes on are those that were read
event-used : (e : Event) (used : ℕ) (r : Runner) (k : Buffers) → (event_step e used r k).going ≡ true → (event_step e used r k).used ≡ used
unfolding event_step last_step
event-used e used r k = go (eqb (reply_of (state_on r.bench k) e) 0) refl
  where
    go : (b : Bool) → eqb (reply_of (state_on r.bench k) e) 0 ≡ b → (event_step e used r k).going ≡ true → (event_step e used r k).used ≡ used
    go true q h = rw q
    go false q h = absurd (false≢true (rw q at h))

view-used : (used : ℕ) (b : Bench) (costs : List ℕ) (r : Runner) (k : Buffers) → (view_step used b costs r k).going ≡ true → (view_step used b costs r k).used ≡ used
unfolding view_step setup_step last_step
view-used used b costs r k = go (eqb (fresh_with_view (state b costs k.sent k.held k.messages)).reply.number 0) refl
  where
    go : (q : Bool) → eqb (fresh_with_view (state b costs k.sent k.held k.messages)).reply.number 0 ≡ q → (view_step used b costs r k).going ≡ true → (view_step used b costs r k).used ≡ used
    go true q h = rw q
    go false q h = absurd (false≢true (rw q at h))

field-used : (rest : List ℕ) (f : Field) (used : ℕ) (r : Runner) (k : Buffers) → (field_step rest f used r k).going ≡ true → (field_step rest f used r k).used ≡ used
unfolding field_step setup_step
field-used rest (Field.Bridges n) used r k e = refl
field-used rest (Field.Link x y) used r k e = refl
field-used rest Field.View used r k e = view-used used (with_view r.bench) (with_row rest r.bench k.costs) r k e
field-used rest (Field.Event v) used r k e = event-used v used r k e

pub uses : (r : Runner) (k : Buffers) (rest : List ℕ) → (step_of r k rest).going ≡ true → length (drop (step_of r k rest).used rest) < length rest
unfolding last_step
uses r k rest = go (step_is r k rest)
  where
    go : Step r k rest → (step_of r k rest).going ≡ true → length (drop (step_of r k rest).used rest) < length rest
    go (refused e) h = absurd (false≢true (rw e at h))
    go (ended number d e) h = absurd (false≢true (rw e at h))
    go (carried f used long d e) h =
        let size = field-size rest (progress_of r) d in
        rw (e, field-used rest f used r k (rw e at h), length-drop) (omega arith)

-- with any more the same is printed
fuel-enough :
    (r : Runner) (k : Buffers) (rest : List ℕ) (fuel more : ℕ) → length rest < fuel → length rest < more → prints fuel r k rest ≡ prints more r k rest
unfolding prints
fuel-enough r k rest zero more h g = absurd (not-suc-le-zero h)
fuel-enough r k rest (suc fuel) zero h g = absurd (not-suc-le-zero g)
fuel-enough r k rest (suc fuel) (suc more) h g = go (step_of r k rest).going refl (fuel-enough t.runner t.buffers (drop t.used rest) fuel more)
  where
    t : StepOutcome
    t = step_of r k rest

    go : (b : Bool) → (step_of r k rest).going ≡ b →
        (length (drop t.used rest) < fuel → length (drop t.used rest) < more → prints fuel t.runner t.buffers (drop t.used rest) ≡ prints more t.runner t.buffers (drop t.used rest)) →
        prints (suc fuel) r k rest ≡ prints (suc more) r k rest
    go true e next =
        let less = uses r k rest e in
        rw (next (omega arith) (omega arith))
    go false e next = rw e

-- what is printed from here, a step at a time: the bytes of the step, and what is printed from the next field on
pub prints-next :
    (r : Runner) (k : Buffers) (rest : List ℕ) →
    (step_of r k rest).going ≡ true →
    prints (suc (length rest)) r k rest
    ≡ take (step_of r k rest).written (step_of r k rest).buffers.out
    ++ prints (suc (length (drop (step_of r k rest).used rest))) (step_of r k rest).runner (step_of r k rest).buffers (drop (step_of r k rest).used rest)
unfolding prints
prints-next r k rest e =
    let less = uses r k rest e in
    let same = fuel-enough (step_of r k rest).runner (step_of r k rest).buffers (drop (step_of r k rest).used rest) (length rest) (suc (length (drop (step_of r k rest).used rest))) less (omega arith) in
    rw (e, same)

pub prints-last :
    (r : Runner) (k : Buffers) (rest : List ℕ) →
    (step_of r k rest).going ≡ false →
    prints (suc (length rest)) r k rest ≡ take (step_of r k rest).written (step_of r k rest).buffers.out
unfolding prints
prints-last r k rest e = rw (e, append-nil)
