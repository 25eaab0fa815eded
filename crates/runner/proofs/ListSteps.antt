-- An event of a list is a step on, made or refused. Assumes nothing.
use Prim.Native.Nat.{ℕ, ◌+◌, ◌-◌, ◌*◌, ◌≤◌}
use native.Mathlib.Nat.{add-zero}
use native.Mathlib.Omega.{arith}
use mathlib.Core.Path.{◌≡◌, sym, ap, ◌∙◌}
use mathlib.Core.Bool.{true}
use mathlib.Core.List.{List, ◌++◌, append_assoc}
use borrow.Author.Tests.{le-leb, ne_eqb}
use lib.ListN.{length, take, drop, length-drop}
use lib.Seq.{sets, sets-eq, drop-drop}
use Rattle.distances.proofs.Booleans.{true-both}
use Rattle.bench.specs.State.{State}
use Rattle.bench.specs.Batches.{reply_of}
use Rattle.bench.specs.declared.Event.{Event}
use Rattle.plan.specs.Events.{list_progress}
use Rattle.plan.specs.Reading.{Read, read_reply}
use Rattle.plan.specs.declared.Field.{Field}
use Rattle.text.specs.Lines.{refused_text}
use Rattle.text.proofs.Laws.{length-refused_text}
use Rattle.runner.specs.Buffers.{buffers, buffers_long, state_on, progress_of}
use Rattle.runner.specs.Events.{text_of, state_after}
use Rattle.runner.specs.Steps.{StepOutcome, step_outcome, last_step, event_step, field_step, read_step, runner_in_range, step_of}
use Rattle.runner.specs.Fills.{step_on, steps_on}
use Rattle.runner.specs.Lists.{with_refusal}
use Rattle.runner.proofs.FillTexts.{text-short}
use Rattle.runner.proofs.FillSteps.{buffers_behind, next}

-- a text behind what is written
pub behind-is : (out text : List ℕ) (w : ℕ) → w + length text ≤ length out → take w out ++ sets (drop w out) 0 text ≡ sets out w text
behind-is out text w fits =
    let none : 0 + length text ≡ length text = omega arith in
    ap (λ (l : List ℕ). take w out ++ l) (sets-eq text (drop w out) 0 (omega (arith, length-drop w out)))
    ∙ ap (λ (l : List ℕ). take w out ++ (text ++ l)) (drop-drop (0 + length text) w out)
    ∙ ap (λ (n : ℕ). take w out ++ (text ++ drop (w + n) out)) none
    ∙ sym (append_assoc (take w out) text (drop (w + length text) out))
    ∙ sym (sets-eq text out w fits)

-- the bench's state at a step
abbrev pub state_at : StepOutcome → State
state_at t = state_on t.runner.bench t.buffers

-- so many events more stay in range, and what they print has room if they answer with so many numbers
pub record Roomy (rest : List ℕ) (more numbers : ℕ) (t : StepOutcome) : Type 0 where
  pub stage : t.runner.stage ≡ 3
  pub going : t.going ≡ true
  pub room : t.written + 15 * numbers + 544 ≤ length t.buffers.out
  pub events : t.runner.events + more ≤ 61440
  pub offset : t.runner.offset + (length rest - t.used) ≤ 61440
  pub used : t.used ≤ length rest
  pub costs : 1024 ≤ length t.buffers.costs
  pub sent : 1024 ≤ length t.buffers.sent
  pub held : 1024 ≤ length t.buffers.held
  pub messages : 320 ≤ length t.buffers.messages

-- the step with an event of so many bytes carried out
abbrev pub event_on : StepOutcome → Event → ℕ → StepOutcome
event_on t e used =
    let s : State = state_at t in
    let after : State = state_after s e in
    let text : List ℕ = text_of s e in
    step_outcome 0 true (t.used + used) (t.written + length text)
    (record { bench = after.bench; stage = 3; events = t.runner.events + 1; offset = t.runner.offset + used })
    (buffers after.costs after.sent after.held after.messages (sets t.buffers.out t.written text))

module _ (rest : List ℕ) (more numbers : ℕ) (t : StepOutcome) (roomy : Roomy rest more numbers t) where
  pub steps_on_lem : steps_on t ≡ true
  unfolding steps_on
  steps_on_lem = true-both roomy.going (le-leb 544 (length t.buffers.out - t.written) (omega (arith, roomy.room)))

  in-range : runner_in_range t.runner ≡ true
  unfolding runner_in_range
  in-range = true-both (le-leb t.runner.events 61440 (omega (arith, roomy.events))) (le-leb t.runner.offset 61440 (omega (arith, roomy.offset)))

  long : buffers_long (buffers_behind rest t) ≡ true
  unfolding buffers_long
  long =
      true-both (le-leb _ _ roomy.costs)
      (true-both (le-leb _ _ roomy.sent)
      (true-both (le-leb _ _ roomy.held)
      (true-both (le-leb _ _ roomy.messages)
      (le-leb 544 (length (drop t.written t.buffers.out)) (omega (arith, roomy.room, length-drop t.written t.buffers.out))))))

  -- the reader has come as far as the list's
  progress-same : progress_of t.runner ≡ list_progress t.runner.bench
  progress-same = rw roomy.stage

  module _ (e : Event) (used : ℕ) (read : read_reply (drop t.used rest) (list_progress t.runner.bench) ≡ Read.Field (Field.Event e) used) where
    -- the event is the step's
    step-is-event : next rest t ≡ event_step e used t.runner (buffers_behind rest t)
    unfolding step_of read_step field_step
    step-is-event = rw (in-range, long, progress-same, read)

    pub step-on-event : reply_of (state_at t) e ≡ 0 → step_on t rest ≡ event_on t e used
    unfolding step_on event_step
    step-on-event none =
        let short = text-short (state_at t) e none in
        rw (step-is-event, none, behind-is t.buffers.out (text_of (state_at t) e) t.written (omega (arith, short.room, roomy.room)))

    pub step-on-refused : (reply_of (state_at t) e ≡ 0 → ⊥) → step_on t rest ≡ with_refusal (reply_of (state_at t) e) t
    unfolding step_on event_step last_step with_refusal
    step-on-refused some =
        let k : ℕ = reply_of (state_at t) e in
        let short = length-refused_text k t.runner.offset in
        rw (step-is-event, ne_eqb k 0 some, behind-is t.buffers.out (refused_text k t.runner.offset) t.written (omega (arith, short, roomy.room)), add-zero)
