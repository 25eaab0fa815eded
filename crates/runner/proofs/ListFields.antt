-- A list of events is so many steps on, with their texts one behind the other. Assumes nothing.
use Prim.Native.Nat.{ℕ, zero, suc, ◌+◌, ◌-◌, ◌*◌, ◌≤◌}
use native.Mathlib.Nat.{add-zero}
use native.Mathlib.Omega.{arith}
use mathlib.Core.Path.{◌≡◌, refl, sym, ap, subst, ◌∙◌}
use mathlib.Core.Bool.{true, false}
use mathlib.Core.List.{List, [], ◌∷◌, ◌++◌}
use lib.ListN.{length, take, drop, length-drop, length-append}
use lib.Seq.{sets, length-sets, take_at, drop_at, drop-drop}
use Rattle.bench.specs.State.{State, network}
use Rattle.bench.specs.Standing.{step_in}
use Rattle.bench.specs.Batches.{call_of, reply_of, answers_of, answer_size, answer_sizes, Ending, complete, refused_with, Batch, batch, event_batch_in, batch_from}
use Rattle.bench.specs.declared.Event.{Event}
use Rattle.bench.proofs.BatchRuns.{First, full, refused, made, first_of, answers-length, following, runs_none, runs-made, runs-unmade}
use Rattle.bench.proofs.RunSteps.{step_kept, step-costs}
use Rattle.plan.specs.Events.{Placed, events_of, list_progress}
use Rattle.plan.specs.declared.Progress.{Progress}
use Rattle.plan.proofs.EventLaws.{ReadAs, last_end}
use Rattle.plan.proofs.Laws.{field-size}
use Rattle.text.specs.Writing.{Put}
use Rattle.text.proofs.Puts.{joined}
use Rattle.runner.specs.Buffers.{buffers}
use Rattle.runner.specs.Events.{text_of}
use Rattle.runner.specs.Steps.{StepOutcome, step_outcome}
use Rattle.runner.specs.Fills.{fills}
use Rattle.runner.specs.Lists.{texts_of, with_refusal, with_ending}
use Rattle.runner.proofs.FillTexts.{text-short}
use Rattle.runner.proofs.FillSteps.{fills-more, fills-over}
use Rattle.runner.proofs.ListSteps.{state_at, Roomy, event_on, steps_on_lem, step-on-event, step-on-refused}

-- the reply's number after so many steps
abbrev pub reply_after : ℕ → ℕ → ℕ
reply_after zero old = old
reply_after (suc k) old = 0

pub reply-still : (k : ℕ) → reply_after k 0 ≡ 0
reply-still zero = refl
reply-still (suc k) = refl

-- two texts put one after the other
puts-both : (out a b : List ℕ) (w : ℕ) → (sets (sets out w a) (w + length a) b ≡ sets out w (a ++ b)) × (w + length a + length b ≡ w + length (a ++ b))
puts-both out a b w =
    let first : Put out w a (sets out w a) (w + length a) = record { bytes = refl; next = refl } in
    let second : Put (sets out w a) (w + length a) b (sets (sets out w a) (w + length a) b) (w + length a + length b) = record { bytes = refl; next = refl } in
    let both = joined first second in
    (both.bytes, both.next)

-- the texts of a list have 15 bytes at most for each number that its events answered with
pub texts-few : (room : ℕ) (s : State) (es : List Event) → let b : Batch = batch_from room s es in length (texts_of s.bench.bridges (take b.made es) b.answers) ≤ 15 * length b.answers
unfolding texts_of
texts-few room s [] = rw runs_none (omega arith)
texts-few room s (e ∷ es) = go (texts-few (room - length (answers_of (network s) e)) (step_in s (call_of e)) es) (event_batch_in room s e) refl (first_of room s e)
  where
    then : Batch
    then = following room s e es

    go :
        length (texts_of (step_in s (call_of e)).bench.bridges (take then.made es) then.answers) ≤ 15 * length then.answers →
        (b : Batch) → event_batch_in room s e ≡ b → First room s e b →
        let r : Batch = batch_from room s (e ∷ es) in
        length (texts_of s.bench.bridges (take r.made (e ∷ es)) r.answers) ≤ 15 * length r.answers
    go later b is (full few) = rw (runs-unmade room s e es b is refl) (omega arith)
    go later b is (refused some) = rw (runs-unmade room s e es b is refl) (omega arith)
    go later b is (made none fits) =
        let answers : List ℕ = answers_of (network s) e in
        let long = answers-length s e in
        let kept = step_kept s (call_of e) in
        let short = text-short s e none in
        let behind : length (texts_of s.bench.bridges (take then.made es) then.answers) ≤ 15 * length then.answers =
        subst (λ (n : ℕ). length (texts_of n (take then.made es) then.answers) ≤ 15 * length then.answers) kept.bridges later in
        rw (runs-made room s e es is, take_at answers then.answers _ long, drop_at answers then.answers _ long)
        (omega (
          arith,
          short.few,
          behind,
          length-append answers then.answers,
          length-append (text_of s e) (texts_of s.bench.bridges (take then.made es) then.answers),
        ))

-- a refusal is the last step
refused-ends : (k : ℕ) (t : StepOutcome) → (with_refusal k t).going ≡ false
unfolding with_refusal
refused-ends k t = refl

-- what is left of the plan begins with the list, at `off` in the whole plan
module _ (rest : List ℕ) (off : ℕ) where
  -- the texts of a list, and the step with it carried out
  abbrev pub texts_on : StepOutcome → List Placed → Batch → List ℕ
  texts_on t xs b = texts_of t.runner.bench.bridges (take b.made (events_of xs)) b.answers

  abbrev pub list_on : StepOutcome → ℕ → List Placed → Batch → StepOutcome
  list_on t at xs b =
      step_outcome (reply_after b.made t.reply) true (last_end at (take b.made xs)) (t.written + length (texts_on t xs b))
      (record { bench = b.state.bench; stage = 3; events = t.runner.events + b.made; offset = off + last_end at (take b.made xs) })
      (buffers b.state.costs b.state.sent b.state.held b.state.messages (sets t.buffers.out t.written (texts_on t xs b)))

  -- where a step stands in the list
  pub record At (at : ℕ) (t : StepOutcome) : Type 0 where
    pub used : t.used ≡ at
    pub offset : t.runner.offset ≡ off + at

  -- no event
  none-on : (more numbers : ℕ) (t : StepOutcome) (at : ℕ) (xs : List Placed) (how : Ending) → At at t → Roomy rest more numbers t → t ≡ list_on t at xs (batch 0 how (state_at t) [])
  unfolding texts_of
  none-on more numbers t at xs how here roomy = rw (add-zero, add-zero, ← here.offset, ← here.used, ← roomy.stage, ← roomy.going)

  module _ (more numbers : ℕ) (t : StepOutcome) (roomy : Roomy rest (suc more) numbers t) (at : ℕ) (here : At at t) (x : Placed)
      (none : reply_of (state_at t) x.event ≡ 0) (fits : answer_size t.runner.bench.bridges x.event ≤ numbers) (used : ℕ) (past : x.past ≡ at + used) where
    abbrev e : Event
    e = x.event

    abbrev answers : List ℕ
    answers = answers_of (network (state_at t)) e

    long : length answers ≡ answer_size t.runner.bench.bridges e
    long = answers-length (state_at t) e

    at_next : At x.past (event_on t e used)
    at_next = record { used = omega (arith, here.used, past); offset = omega (arith, here.offset, past) }

    -- room for the events that follow
    roomy-on : used ≤ length (drop t.used rest) → Roomy rest more (numbers - length answers) (event_on t e used)
    roomy-on size =
        let kept = step_kept (state_at t) (call_of e) in
        let lasting = step-costs (state_at t) (call_of e) in
        let short = text-short (state_at t) e none in
        record {
          stage = refl;
          going = refl;
          room = omega (arith, roomy.room, short.few, long, fits, length-sets t.buffers.out t.written (text_of (state_at t) e));
          events = omega (arith, roomy.events);
          offset = omega (arith, roomy.offset, roomy.used, size, length-drop t.used rest);
          used = omega (arith, roomy.used, size, length-drop t.used rest);
          costs = rw lasting roomy.costs;
          sent = rw kept.sent roomy.sent;
          held = rw kept.held roomy.held;
          messages = rw kept.messages roomy.messages;
        }

    -- the reader has come as far as before
    progress-kept : list_progress (event_on t e used).runner.bench ≡ list_progress t.runner.bench
    progress-kept = let kept = step_kept (state_at t) (call_of e) in rw (kept.bridges, kept.links, kept.views)

    module _ (xs : List Placed) (b : Batch) where
      -- the list with this event before the others
      abbrev whole : Batch
      whole = batch (suc b.made) b.ending b.state (answers ++ b.answers)

      texts-on : texts_on t (x ∷ xs) whole ≡ text_of (state_at t) e ++ texts_on (event_on t e used) xs b
      unfolding texts_of events_of
      texts-on =
          let kept = step_kept (state_at t) (call_of e) in
          rw (take_at answers b.answers _ long, drop_at answers b.answers _ long, kept.bridges)

      list_on_lem : list_on (event_on t e used) x.past xs b ≡ list_on t at (x ∷ xs) whole
      list_on_lem =
          let both = puts-both t.buffers.out (text_of (state_at t) e) (texts_on (event_on t e used) xs b) t.written in
          let events : t.runner.events + 1 + b.made ≡ t.runner.events + suc b.made = omega arith in
          rw (texts-on, ← both.0, ← both.1, events, reply-still b.made)

  -- as many steps as there are events whose answers have room; nothing follows a refusal
  abbrev Steps : List Placed → Type 0
  Steps xs =
      (t : StepOutcome) (at numbers : ℕ) → At at t → ReadAs (list_progress t.runner.bench) (drop t.used rest) at xs → Roomy rest (length xs) numbers t →
      answer_sizes t.runner.bench.bridges (events_of xs) ≤ numbers →
      let b : Batch = batch_from numbers (state_at t) (events_of xs) in
      fills (length xs) t rest ≡ with_ending b.ending (list_on t at xs b)

  pub list_steps : (xs : List Placed) → Steps xs
  unfolding fills with_ending events_of answer_sizes
  list_steps [] t at numbers here read roomy sizes = rw runs_none (none-on 0 numbers t at [] complete here roomy)
  list_steps (x ∷ xs) t at numbers here read roomy sizes = go (list_steps xs) (event_batch_in numbers (state_at t) x.event) refl (first_of numbers (state_at t) x.event)
    where
      go :
          Steps xs → (b : Batch) → event_batch_in numbers (state_at t) x.event ≡ b → First numbers (state_at t) x.event b →
          let r : Batch = batch_from numbers (state_at t) (events_of (x ∷ xs)) in
          fills (suc (length xs)) t rest ≡ with_ending r.ending (list_on t at (x ∷ xs) r)
      go later b is (full few) = absurd (omega (arith, few, sizes))
      go later b is (refused some) =
          let k : ℕ = reply_of (state_at t) x.event in
          let end : StepOutcome = with_refusal k t in
          rw (runs-unmade numbers (state_at t) x.event (events_of xs) b is refl)
          (fills-more (length xs) t rest (steps_on_lem rest _ numbers t roomy)
          ∙ ap (λ (z : StepOutcome). fills (length xs) z rest) (step-on-refused rest _ numbers t roomy x.event read.used read.read some)
          ∙ fills-over (length xs) end rest (refused-ends k t)
          ∙ ap (with_refusal k) (none-on _ numbers t at (x ∷ xs) (refused_with k) here roomy))
      go later b is (made none fits) =
          let s : State = state_at t in
          let u : StepOutcome = event_on t x.event read.used in
          let then : Batch = following numbers s x.event (events_of xs) in
          let size = field-size _ _ read.read in
          let same : drop read.used (drop t.used rest) ≡ drop (t.used + read.used) rest = drop-drop read.used t.used rest in
          let progress = progress-kept (length xs) numbers t roomy at here x none fits read.used read.past in
          let reads : ReadAs (list_progress u.runner.bench) (drop (t.used + read.used) rest) x.past xs =
          subst (λ (p : Progress). ReadAs p (drop (t.used + read.used) rest) x.past xs) (sym progress)
          (subst (λ (l : List ℕ). ReadAs (list_progress t.runner.bench) l x.past xs) same read.then) in
          let bridges : u.runner.bench.bridges ≡ t.runner.bench.bridges = (step_kept s (call_of x.event)).bridges in
          let left : answer_sizes u.runner.bench.bridges (events_of xs) ≤ numbers - length (answers_of (network s) x.event) =
          rw bridges (omega (arith, sizes, answers-length s x.event)) in
          rw (runs-made numbers s x.event (events_of xs) is)
          (fills-more (length xs) t rest (steps_on_lem rest _ numbers t roomy)
          ∙ ap (λ (z : StepOutcome). fills (length xs) z rest) (step-on-event rest _ numbers t roomy x.event read.used read.read none)
          ∙ later u x.past (numbers - length (answers_of (network s) x.event))
          (at_next (length xs) numbers t roomy at here x none fits read.used read.past)
          reads
          (roomy-on (length xs) numbers t roomy at here x none fits read.used read.past size.1)
          left
          ∙ ap (with_ending then.ending) (list_on_lem (length xs) numbers t roomy at here x none fits read.used read.past xs then))
