-- Events that are carried out in a list, for private functions: what they print, and the steps that they are. Assumes nothing.
use Rattle.std.specs.Prelude.{ℕ, ◌+◌, ◌≤◌, true, false, List, [], ◌∷◌, ◌++◌, length, take, drop}
use Rattle.std.proofs.lemmas.List.Edits.{sets}
use Rattle.bench.specs.Batches.{answer_size, answer_sizes, Ending, complete, refused_with, out_of_room, ending_of}
use Rattle.bench.specs.declared.BatchResult.{BatchResult}
use Rattle.bench.specs.declared.Event.{Event}
use Rattle.plan.specs.Events.{bytes_by}
use Rattle.plan.specs.declared.events.Events.{Events}
use Rattle.text.specs.Lines.{refused_text}
use Rattle.runner.specs.Buffers.{buffers}
use Rattle.runner.specs.Events.{event_text}
use Rattle.runner.specs.Steps.{StepOutcome, step_outcome}
use Rattle.runner.specs.Fills.{buffers_with_out}
use Rattle.runner.specs.declared.Runner.{Runner}
use Rattle.runner.specs.Sizes.{longest_plan}
use Rattle.text.specs.Writing.{longest_text}

-- the texts of events, one behind the other, by the numbers that they answered with
unfoldable pub texts_of : ℕ → List Event → List ℕ → List ℕ
texts_of bridges [] answers = []
texts_of bridges (e ∷ es) answers =
    event_text bridges e (take (answer_size bridges e) answers) ++ texts_of bridges es (drop (answer_size bridges e) answers)

-- the plan ends with the refusal of its next event
unfoldable pub with_refusal : ℕ → StepOutcome → StepOutcome
with_refusal number t =
    let text : List ℕ = refused_text number t.runner.offset in
    step_outcome number false t.used (t.written + length text) t.runner
    (buffers_with_out (sets t.buffers.out t.written text) t.buffers)

-- with the refusal of the next event, if that is why the list ended
unfoldable pub with_ending : Ending → StepOutcome → StepOutcome
with_ending complete t = t
with_ending (refused_with k) t = with_refusal k t
with_ending out_of_room t = t

-- events that were read, as one list
abbrev pub events_in : Events → List Event
events_in read = take read.count read.events

-- the events that were made, with their lines, and the refusal of the next one if it was refused; the runner has the bench that they left, and
-- there are so many bridges
unfoldable pub batch_step : ℕ → Runner → BatchResult → Events → List ℕ → List ℕ → StepOutcome
batch_step bridges r batch read answers out =
    let texts : List ℕ = texts_of bridges (take batch.made (events_in read)) answers in
    let used : ℕ = bytes_by read.ends batch.made in
    with_ending (ending_of batch.disposition)
    (step_outcome 0 true used (length texts)
    (record { bench = r.bench; stage = 3; events = r.events + batch.made; offset = r.offset + used })
    (buffers [] [] [] [] (sets out 0 texts)))

-- all of it has room and stays in range
pub record ResultFits (bridges : ℕ) (r : Runner) (batch : BatchResult) (read : Events) (answers : List ℕ) (out : ℕ) : Type 0 where
  pub most : bridges ≤ 16
  pub few : batch.made ≤ length (events_in read)
  pub sizes : answer_sizes bridges (take batch.made (events_in read)) ≤ length answers
  pub room : length (texts_of bridges (take batch.made (events_in read)) answers) + longest_text ≤ out
  pub counted : r.events + batch.made ≤ longest_plan
  pub offset : r.offset + bytes_by read.ends batch.made ≤ longest_plan
