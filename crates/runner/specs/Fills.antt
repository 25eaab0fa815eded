-- Several fields carried out at once, each text behind the last: the events of a list; and what is printed where that is done again and
-- again. For every input. Assumes nothing.
use Rattle.std.specs.Prelude.{ℕ, zero, suc, ◌+◌, ◌-◌, ◌/◌, min, ◌≡◌, Bool, cond, ◌&&◌, List, [], ◌++◌, length, take, drop, eqb, leb}
use Rattle.plan.specs.Events.{events_at, list_progress}
use Rattle.plan.specs.Sizes.{most_events}
use Rattle.runner.specs.Buffers.{Buffers, buffers, buffers_long}
use Rattle.runner.specs.Steps.{StepOutcome, step_outcome, step_of}
use Rattle.runner.specs.Plans.{prints}
use Rattle.runner.specs.Sizes.{longest_plan, most_answers, bytes_for_anumber}
use Rattle.runner.specs.declared.Runner.{Runner}
use Rattle.text.specs.Writing.{longest_text}

-- the buffers with other bytes to be printed
abbrev pub buffers_with_out : List ℕ → Buffers → Buffers
buffers_with_out out k = buffers k.costs k.sent k.held k.messages out

-- one step more: on what is left of the plan, its text behind what is to be printed already
unfoldable pub step_on : StepOutcome → List ℕ → StepOutcome
step_on t rest =
    let u : StepOutcome = step_of t.runner (buffers_with_out (drop t.written t.buffers.out) t.buffers) (drop t.used rest) in
    step_outcome u.reply u.going (t.used + u.used) (t.written + u.written) u.runner
    (buffers_with_out (take t.written t.buffers.out ++ u.buffers.out) u.buffers)

-- the plan goes on, and 544 bytes are left: room for the longest text
unfoldable pub steps_on : StepOutcome → Bool
steps_on t = t.going && leb longest_text (length t.buffers.out - t.written)

-- so many steps more, at most
unfoldable pub fills : ℕ → StepOutcome → List ℕ → StepOutcome
fills zero t rest = t
fills (suc fuel) t rest = cond (steps_on t) (fills fuel (step_on t rest) rest) t

-- a list of events is in range from here on: its events, and the bytes that are left
unfoldable pub list_fits : Runner → ℕ → Bool
list_fits r left = eqb r.stage 3 && (leb (r.events + most_events) longest_plan && leb (r.offset + left) longest_plan)

-- so many numbers that what their events print has room, and the longest text behind it
abbrev pub answer_room : ℕ → ℕ
answer_room bytes = min most_answers ((bytes - longest_text) / bytes_for_anumber)

-- how many fields are carried out at once: the events of a list, as long as their answers have room; 1 where no list fits, and 0 where no
-- event comes next, and then one field too: its step
unfoldable pub fields_at_once : Runner → Buffers → List ℕ → ℕ
fields_at_once r k rest =
    cond (list_fits r (length rest) && buffers_long k)
    (length (events_at most_events (list_progress r.bench) (answer_room (length k.out)) 0 rest)) 1

-- a step, which may be refused with 17, and those of the other fields; where no event comes next the step alone
unfoldable pub fill_of : Runner → Buffers → List ℕ → StepOutcome
fill_of r k rest = fills (fields_at_once r k rest - 1) (step_of r k rest) rest

-- what is printed from a step on: its own bytes, and where the plan goes on what is printed from there
abbrev pub prints_after : StepOutcome → List ℕ → List ℕ
prints_after t rest =
    take t.written t.buffers.out
    ++ cond t.going (prints (suc (length (drop t.used rest))) t.runner t.buffers (drop t.used rest)) []

-- what is printed is what one filling prints, and what is printed after it
abbrev pub FillPrints : Type 0
FillPrints = (r : Runner) (k : Buffers) (rest : List ℕ) → prints (suc (length rest)) r k rest ≡ prints_after (fill_of r k rest) rest

-- filled and printed again and again, with fuel for so many times
unfoldable pub prints_filled : ℕ → Runner → Buffers → List ℕ → List ℕ
prints_filled zero r k rest = []
prints_filled (suc fuel) r k rest =
    let t : StepOutcome = fill_of r k rest in
    take t.written t.buffers.out ++ cond t.going (prints_filled fuel t.runner t.buffers (drop t.used rest)) []
