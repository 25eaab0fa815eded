-- `lists::batch_step` meets its contract. Assumes nothing.
use Rattle.bench.proofs.Replies.{some_number}
use Rattle.runner.proofs.ListTexts.{ended-none, ended-refused, refused-few, refused-behind}
use Rattle.runner.specs.Buffers.{buffers}
use Rattle.runner.specs.Lists.{batch_step}
use Rattle.runner.specs.Steps.{StepOutcome, step_outcome}
use Rattle.runner.specs.declared.Runner.{Runner}
use Rattle.text.proofs.Puts.{same_length as put-length}
use Prim.Native.Nat.{ℕ, ◌+◌}
use mathlib.Core.Bool.{true}
use mathlib.Core.List.{List, []}
use mathlib.Core.Path.{sym, ◌∙◌}
use native.Mathlib.Nat.{zero-add}
use native.Mathlib.Omega.{arith}
use Rattle.runner.proofs.lists.batch_step.Goals as goal

-- behind the lines of so many events, of so many bytes
abbrev lines-of : Runner → ℕ → ℕ → ℕ → List ℕ → StepOutcome
lines-of r made used written out =
    step_outcome 0 true used written
    (record { bench = r.bench; stage = 3; events = r.events + made; offset = r.offset + used })
    (buffers [] [] [] [] out)

pub returns-in-None : goal.returns-in-None
unfolding batch_step
returns-in-None c =
    rw (
      c.going.ensures,
      c.bytes_of-used.ensures,
      c.put_texts-written.ensures.next,
      zero-add,
      c.put_texts-written.ensures.bytes,
      c.list.ensures,
      ended-none c.args.batch.now.disposition (sym c.refusal_in.ensures ∙ c.in-None.is),
    )

pub overflow_add-result : goal.overflow_add-result
overflow_add-result c =
    let room = rw (← c.list.ensures) at c.requires.room in
    let few = refused-few (lines-of c.args.r.now c.args.batch.now.made c.bytes_of-used.result c.put_texts-written.result c.put_texts-written.new.out)
    _ (some_number c.in-Some.refusal) (omega (arith, c.put_texts-written.ensures.next, room, put-length c.put_texts-written.ensures)) c.last_line-last.ensures in
    record { fits = omega (arith, few, room, c.put_texts-written.ensures.next, c.well_formed) }

pub returns-in-Some : goal.returns-in-Some
unfolding batch_step
returns-in-Some c =
    refused-behind (lines-of c.args.r.now c.args.batch.now.made c.bytes_of-used.result c.put_texts-written.result c.put_texts-written.new.out)
    _ (some_number c.in-Some.refusal) (omega (arith, c.put_texts-written.ensures.next, rw (← c.list.ensures) at c.requires.room, put-length c.put_texts-written.ensures)) c.last_line-last.ensures
    ∙ rw (
      c.bytes_of-used.ensures,
      c.put_texts-written.ensures.next,
      zero-add,
      c.put_texts-written.ensures.bytes,
      c.list.ensures,
      ended-refused c.args.batch.now.disposition (sym c.refusal_in.ensures ∙ c.in-Some.is),
    )
