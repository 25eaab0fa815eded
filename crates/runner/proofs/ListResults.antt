-- What a list of events left is as many steps as it has events, by what its calls ensure. Assumes nothing.
use Prim.Native.Nat.{ℕ, zero, suc, ◌+◌, ◌-◌, ◌*◌, ◌≤◌}
use native.Mathlib.Nat.{add-zero, zero-add}
use native.Mathlib.Omega.{arith}
use mathlib.Core.Path.{◌≡◌, refl, sym, ap, ◌∙◌}
use mathlib.Core.Bool.{true, false, ◌&&◌}
use mathlib.Core.List.{List, [], ◌∷◌, ◌++◌, append_assoc}
use borrow.Author.Tests.{leb-true, eqb-true, ne_eqb}
use lib.ListN.{length, take, drop, length-append}
use lib.Seq.{sets}
use lib.Dec.{eqb, leb}
use Rattle.std.specs.Prelude.{is_none}
use Rattle.distances.proofs.Booleans.{both_true}
use Rattle.bench.specs.State.{State, state}
use Rattle.bench.specs.Batches.{answer_sizes, Ending, complete, refused_with, out_of_room, ending_of, Batch, batch_from, BatchOutcome, batch_outcome, batch_outcome_of, batch_of}
use Rattle.bench.specs.declared.BatchResult.{BatchResult}
use Rattle.bench.specs.declared.Bench.{Bench}
use Rattle.bench.specs.declared.Event.{Event}
use Rattle.bench.proofs.BatchRuns.{batches-are-runs, answers-within, runs-few, batch-first}
use Rattle.plan.specs.Events.{Placed, events_at, events_of, events_reply, list_progress, bytes_by}
use Rattle.plan.specs.declared.events.Events.{Events}
use Rattle.plan.proofs.Laws.{field-bridges}
use Rattle.plan.proofs.EventLaws.{ReadAs, reads_as, sizes-fit, last_end, end-within, length-events, InBuffers, listed}
use Rattle.runner.specs.Buffers.{Buffers, buffers, buffers_long}
use Rattle.runner.specs.Steps.{StepOutcome, step_outcome, number_of, outcome_on, step_of}
use Rattle.runner.specs.Fills.{step_on, fills, list_fits, answer_room, fields_at_once, fill_of}
use Rattle.runner.specs.Lists.{texts_of, with_ending, events_in, batch_step, with_refusal, ResultFits}
use Rattle.runner.specs.declared.Runner.{Runner}
use Rattle.runner.specs.declared.StepResult.{StepResult}
use Rattle.runner.proofs.FieldSteps.{long-told}
use Rattle.runner.proofs.FillSteps.{fills-more}
use Rattle.runner.proofs.ListSteps.{state_at, Roomy, steps_on_lem}
use Rattle.runner.proofs.ListTexts.{texts-head}
use Rattle.runner.proofs.ListFields.{reply-still, texts-few, At, list_on, list_steps}

-- ---- the end of a list, with all of the buffers

module _ (costs sent held messages : List ℕ) where
  abbrev with : StepOutcome → StepOutcome
  with u = step_outcome u.reply u.going u.used u.written u.runner (buffers costs sent held messages u.buffers.out)

  ended-with : (how : Ending) (t : StepOutcome) → with (with_ending how t) ≡ with_ending how (with t)
  unfolding with_ending with_refusal
  ended-with complete t = refl
  ended-with (refused_with k) t = refl
  ended-with out_of_room t = refl

-- a list stays in range
record InRange (r : Runner) (left : ℕ) : Type 0 where
  stage : r.stage ≡ 3
  events : r.events + 2048 ≤ 61440
  offset : r.offset + left ≤ 61440

fits_told : (r : Runner) (left : ℕ) → list_fits r left ≡ true → InRange r left
unfolding list_fits
fits_told r left e =
    let one = both_true (eqb r.stage 3) _ e in
    let two = both_true (leb (r.events + 2048) 61440) _ one.1 in
    record { stage = eqb-true _ 3 one.0; events = leb-true _ _ two.0; offset = leb-true _ _ two.1 }

-- the numbers of a list, and the bytes that they leave room for
pub room-told : (bytes : ℕ) → 544 ≤ bytes → (answer_room bytes ≤ 2048) × (15 * answer_room bytes + 544 ≤ bytes)
room-told bytes long = (omega arith, omega arith)

-- where no list comes, or one without an event, a step is made
pub fill_one : (r : Runner) (k : Buffers) (rest : List ℕ) → fields_at_once r k rest ≤ 1 → fill_of r k rest ≡ step_of r k rest
unfolding fill_of fills
fill_one r k rest few = let none : fields_at_once r k rest - 1 ≡ 0 = omega (arith, few) in rw none

pub fields-one : (r : Runner) (k : Buffers) (rest : List ℕ) → (list_fits r (length rest) && buffers_long k) ≡ false → fields_at_once r k rest ≡ 1
unfolding fields_at_once
fields-one r k rest e = rw e

-- ---- a list that was read

module _
    (r : Runner)
    (k : Buffers)
    (rest : List ℕ)
    (both : (list_fits r (length rest) && buffers_long k) ≡ true)
    (numbers : ℕ)
    (as_room : numbers ≡ answer_room (length k.out))
    (read : Events)
    (read-is : read ≡ events_reply rest (list_progress r.bench) numbers) where
  fit : list_fits r (length rest) ≡ true
  fit = (both_true (list_fits r (length rest)) _ both).0

  long : buffers_long k ≡ true
  long = (both_true (list_fits r (length rest)) _ both).1

  -- before the first step
  abbrev from : StepOutcome
  from = step_outcome 0 true 0 0 r k

  abbrev xs : List Placed
  xs = events_at 2048 (list_progress r.bench) numbers 0 rest

  fits : InRange r (length rest)
  fits = fits_told r (length rest) fit

  is-listed : InBuffers xs read
  is-listed = rw read-is (listed rest (list_progress r.bench) numbers)

  pub fields-are : fields_at_once r k rest ≡ read.count
  unfolding fields_at_once
  fields-are = rw (fit, long, ← as_room) (sym is-listed.count)

  reads : ReadAs (list_progress r.bench) rest 0 xs
  reads = reads_as 2048 (list_progress r.bench) numbers 0 rest

  fitting : answer_sizes r.bench.bridges (events_of xs) ≤ numbers
  fitting = sizes-fit 2048 (list_progress r.bench) numbers 0 rest

  head : events_in read ≡ events_of xs
  head = ap (λ (n : ℕ). take n read.events) is-listed.count ∙ is-listed.head

  step-first : step_on from rest ≡ step_of r k rest
  unfolding step_on
  step-first = rw (zero-add, zero-add)

  roomy : Roomy rest (length xs) numbers from
  roomy =
      let l = long-told k long in
      record {
        stage = fits.stage;
        going = refl;
        room = omega (arith, as_room, room-told (length k.out) l.out);
        events = omega (arith, fits.events, is-listed.few);
        offset = omega (arith, fits.offset);
        used = omega arith;
        costs = l.costs;
        sent = l.sent;
        held = l.held;
        messages = l.messages;
      }

  module _
      (some : read.count ≡ 0 → ⊥)
      (result : BatchResult)
      (bench' : Bench)
      (sent' held' messages' answers answers' : List ℕ)
      (lent : length answers ≡ numbers)
      (is : batch_outcome result.made result.answered (ending_of result.disposition) (state bench' k.costs sent' held' messages') answers' ≡ batch_of (state_at from) (events_in read) answers) where
    abbrev b : Batch
    b = batch_from numbers (state_at from) (events_of xs)

    batch-is : batch_outcome result.made result.answered (ending_of result.disposition) (state bench' k.costs sent' held' messages') answers' ≡ batch_outcome_of b answers
    unfolding events_of answer_sizes
    batch-is = go xs refl
      where
        go : (ys : List Placed) → xs ≡ ys → batch_outcome result.made result.answered (ending_of result.disposition) (state bench' k.costs sent' held' messages') answers' ≡ batch_outcome_of b answers
        go [] none = absurd (some (is-listed.count ∙ ap (λ (l : List Placed). length l) none))
        go (y ∷ ys) same =
            let first : events_of xs ≡ y.event ∷ events_of ys = ap events_of same in
            let sizes : answer_sizes r.bench.bridges (events_of (y ∷ ys)) ≤ numbers = rw same at fitting in
            is ∙ rw head (batch-first (state_at from) (events_of xs) answers y.event (events_of ys) first (rw lent (omega (arith, sizes))) ∙ rw lent)

    -- the runner with the bench that the list left
    abbrev pub after : Bench → Runner
    after z = record { bench = z; stage = r.stage; events = r.events; offset = r.offset }

    made-is : result.made ≡ b.made
    made-is = ap (λ (o : BatchOutcome). o.made) batch-is

    how-is : ending_of result.disposition ≡ b.ending
    how-is = ap (λ (o : BatchOutcome). o.ending) batch-is

    state-is : state bench' k.costs sent' held' messages' ≡ b.state
    state-is = ap (λ (o : BatchOutcome). o.state) batch-is

    abbrev made-events : List Event
    made-events = take b.made (events_of xs)

    answers-is : answers' ≡ b.answers ++ drop (length b.answers) answers
    answers-is = ap (λ (o : BatchOutcome). o.answers) batch-is

    few : b.made ≤ length xs
    few = omega (arith, runs-few numbers (state_at from) (events_of xs), length-events xs)

    -- the bytes of what was made
    bytes-are : bytes_by read.ends b.made ≡ last_end 0 (take b.made xs)
    bytes-are = go b.made refl
      where
        go : (n : ℕ) → b.made ≡ n → bytes_by read.ends n ≡ last_end 0 (take n xs)
        go zero e = refl
        go (suc n) e = rw (ne_eqb (suc n) 0 (λ z. absurd (omega arith))) (is-listed.end (suc n) (omega (arith, few, e)))

    events-made : take b.made (events_in read) ≡ made-events
    events-made = ap (λ (l : List Event). take b.made l) head

    sizes : length b.answers ≡ answer_sizes r.bench.bridges made-events
    sizes = (batches-are-runs numbers (state_at from) (events_of xs)).sizes

    module _ (more : List ℕ) where
      texts-are : texts_of r.bench.bridges (take b.made (events_in read)) (answers' ++ more) ≡ texts_of r.bench.bridges made-events b.answers
      texts-are =
          let same : answers' ++ more ≡ b.answers ++ (drop (length b.answers) answers ++ more) = ap (λ (l : List ℕ). l ++ more) answers-is ∙ append_assoc b.answers _ more in
          rw (same, events-made) (texts-head r.bench.bridges made-events b.answers _ (omega (arith, sizes)))

      -- the steps of the list
      pub list-filled :
          (s : StepResult) {r' : Runner} {out' : List ℕ} →
          outcome_on s r' out' ≡ batch_step r.bench.bridges (after bench') result read (answers' ++ more) k.out →
          step_outcome (number_of s.end) (is_none s.end) s.used s.written r' (buffers k.costs sent' held' messages' out') ≡ fill_of r k rest
      unfolding batch_step fill_of
      list-filled s {r'} {out'} left = whole ∙ sym (list_steps rest r.offset xs from 0 numbers here reads roomy fitting) ∙ steps-are xs refl
        where
          here : At rest r.offset 0 from
          here = record { used = refl; offset = sym (add-zero r.offset) }

          text : List ℕ
          text = texts_of r.bench.bridges made-events b.answers

          -- with all of the buffers
          told : State → StepOutcome
          told z =
              step_outcome 0 true (last_end 0 (take b.made xs)) (length text)
              (record { bench = z.bench; stage = 3; events = r.events + b.made; offset = r.offset + last_end 0 (take b.made xs) })
              (buffers z.costs z.sent z.held z.messages (sets k.out 0 text))

          as-told : step_outcome (number_of s.end) (is_none s.end) s.used s.written r' (buffers k.costs sent' held' messages' out') ≡ with_ending b.ending (told (state bench' k.costs sent' held' messages'))
          as-told =
              ap (with k.costs sent' held' messages') left
              ∙ ended-with k.costs sent' held' messages' (ending_of result.disposition) _
              ∙ rw (how-is, made-is, bytes-are, texts-are)

          listed-so : told b.state ≡ list_on rest r.offset from 0 xs b
          listed-so = rw (reply-still b.made, zero-add)

          whole : step_outcome (number_of s.end) (is_none s.end) s.used s.written r' (buffers k.costs sent' held' messages' out') ≡ with_ending b.ending (list_on rest r.offset from 0 xs b)
          whole = as-told ∙ ap (λ (z : State). with_ending b.ending (told z)) state-is ∙ ap (with_ending b.ending) listed-so

          -- the first of them is a step from nothing
          steps-are : (ys : List Placed) → xs ≡ ys → fills (length xs) from rest ≡ fill_of r k rest
          steps-are [] none = absurd (some (is-listed.count ∙ ap (λ (l : List Placed). length l) none))
          steps-are (y ∷ ys) same =
              let long : length xs ≡ suc (length ys) = ap (λ (l : List Placed). length l) same in
              let rest_of : fields_at_once r k rest - 1 ≡ length ys = omega (arith, fields-are, is-listed.count, long) in
              rw (long, rest_of)
              (fills-more (length ys) from rest (steps_on_lem rest (length xs) numbers from roomy)
              ∙ ap (λ (z : StepOutcome). fills (length ys) z rest) step-first)

      -- it has room, and stays in range
      pub result_fits : ResultFits r.bench.bridges (after bench') result read (answers' ++ more) (length k.out)
      result_fits =
          let within = end-within (list_progress r.bench) rest 0 xs reads b.made in
          let texts = texts-few numbers (state_at from) (events_of xs) in
          let answered = answers-within numbers (state_at from) (events_of xs) in
          record {
            most = few-bridges xs refl;
            few = rw (made-is, head) (omega (arith, few, length-events xs));
            sizes = rw (made-is, events-made, answers-is) (omega (arith, sizes, length-append (b.answers ++ drop (length b.answers) answers) more, length-append b.answers (drop (length b.answers) answers)));
            room = rw (made-is, texts-are) (omega (arith, texts, answered, roomy.room));
            counted = rw made-is (omega (arith, fits.events, few, is-listed.few));
            offset = rw (made-is, bytes-are) (omega (arith, fits.offset, within.1));
          }
        where
          few-bridges : (ys : List Placed) → xs ≡ ys → r.bench.bridges ≤ 16
          few-bridges [] none = absurd (some (is-listed.count ∙ ap (λ (l : List Placed). length l) none))
          few-bridges (y ∷ ys) same =
              let read : ReadAs (list_progress r.bench) rest 0 (y ∷ ys) = rw same at reads in
              field-bridges rest (list_progress r.bench) read.read
