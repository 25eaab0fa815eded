-- What is claimed of the program for every list of bytes: it prints what specs/Program.antt says, and demands 2 and 3 are about each line.
-- Assumes nothing.
use Rattle.std.specs.Prelude.{ℕ, suc, ◌<◌, ◌≤◌, ◌≡◌, Bool, true, ◌&&◌, List, [], ◌∷◌, ◌++◌, length}
use Rattle.protocol.specs.Net.{Network, PlanInRange, fresh}
use Rattle.protocol.specs.Calls.{Call, accepted, step, run}
use Rattle.protocol.specs.Demand2.{ByTheRule}
use Rattle.protocol.specs.Demand3.{Holds}
use Rattle.text.specs.Writing.{longest_text}
use Rattle.runner.specs.Plans.{first_runner, first_buffers}
use Rattle.runner.specs.Fills.{buffers_with_out, prints_filled}
use Rattle.runner.specs.Program.{nothing_set_up, reading, PlanEvent, read_from, read_plan, lines_of, carried_out, output}
use Rattle.runner.specs.Sizes.{longest_plan}

-- fuel for one field more than there are bytes is enough: with any more the same is read
abbrev pub ReadingEnds : Type 0
ReadingEnds = (plan : List ℕ) (fuel : ℕ) → length plan < fuel → read_from fuel (reading 0 nothing_set_up 0) plan ≡ read_plan plan

-- bytes that are filled from a plan and printed, again and again, whatever they held, are `output` of the plan, byte by byte
abbrev pub PlanFilled : Type 0
PlanFilled =
    (plan out : List ℕ) →
    length plan ≤ longest_plan →
    longest_text ≤ length out →
    prints_filled (suc (length plan)) first_runner (buffers_with_out out first_buffers) plan ≡ output plan

-- the calls of events; whether all of them are accepted, one after the other; and the lines that they print
unfoldable pub calls_in : List PlanEvent → List Call
calls_in [] = []
calls_in (e ∷ es) = e.call ∷ calls_in es

unfoldable pub all_accepted : Network → List PlanEvent → Bool
all_accepted n [] = true
all_accepted n (e ∷ es) = accepted n e.call && all_accepted (step n e.call) es

unfoldable pub lines_by : Network → List PlanEvent → List ℕ
lines_by n [] = []
lines_by n (e ∷ es) = lines_of n e.call ++ lines_by (step n e.call) es

-- behind the first events of a plan: what it sets up is in the ranges; the first events' lines stand, and what is printed next is of the
-- network that their calls make of the fresh one. That network is told of by the rule of demand 2, and of those calls demand 3 holds: so both
-- are about each line
pub record LinesHold (plan : List ℕ) (first rest : List PlanEvent) : Type 0 where
  pub in_range : PlanInRange (read_plan plan).setup
  pub rule : ByTheRule (run (fresh (read_plan plan).setup) (calls_in first))
  pub holds : Holds (read_plan plan).setup (calls_in first)
  pub printed :
      let start : Network = fresh (read_plan plan).setup in
      output plan ≡ lines_by start first ++ carried_out (run start (calls_in first)) (length first) rest (read_plan plan).end

-- for every list of bytes that is carried out, and each of its events that is reached
abbrev pub EveryLine : Type 0
EveryLine =
    (plan : List ℕ) → length plan ≤ longest_plan →
    (first : List PlanEvent) (next : PlanEvent) (more : List PlanEvent) →
    (read_plan plan).events ≡ first ++ (next ∷ more) →
    all_accepted (fresh (read_plan plan).setup) first ≡ true →
    LinesHold plan first (next ∷ more)
