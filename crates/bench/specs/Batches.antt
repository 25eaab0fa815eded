-- A list of events as calls, made one after the other up to the first that is refused or whose answer has no room. Assumes nothing.
use Rattle.std.specs.Prelude.{ℕ, suc, ◌+◌, ◌*◌, ◌-◌, ◌<◌, ◌≡◌, Bool, true, cond, ◌&&◌, List, [], ◌∷◌, ◌++◌, length, take, drop, eqb, ltb, Option, None, Some}
use Rattle.distances.specs.declared.refusals.Refusal.{Refusal}
use Rattle.distances.specs.Refusal.{number}
use Rattle.agreement.specs.Record.{answer_numbers}
use Rattle.protocol.specs.Net.{Network}
use Rattle.protocol.specs.Calls.{Call, change, update, cut, restore, send, deliver, repeat, lose, report, path, answer_at}
use Rattle.protocol.specs.Paths as paths
use Rattle.bench.specs.State.{State, network}
use Rattle.bench.specs.Ranges.{state_in_range}
use Rattle.bench.specs.Standing.{step_in}
use Rattle.bench.specs.Outcomes.{refusal_of, or_refused, left_by, report_numbers, path_numbers}
use Rattle.bench.specs.Whole.{run_in}
use Rattle.bench.specs.declared.Event.{Event}
use Rattle.bench.specs.declared.Event.TheVariants.{Update, Send, Deliver, Repeat, Lose, Cut, Restore, Report, Path}
use Rattle.bench.specs.declared.Disposition.{Disposition}
use Rattle.bench.specs.declared.Disposition.TheVariants.{Complete, Refused, Full}

-- the call that an event is
abbrev pub call_of : Event → Call
call_of (Update b t) = change (update b t)
call_of (Send b l) = send b l
call_of (Deliver p) = deliver p
call_of (Repeat p) = repeat p
call_of (Lose p) = lose p
call_of (Cut y l) = change (cut y l)
call_of (Restore y l) = change (restore y l)
call_of (Report d) = report d
call_of (Path s d) = path s d

-- its number in the table of refusals, 0 where it is accepted: 17 where the state is out of range, then the table's checks of the call
unfoldable pub reply_of : State → Event → ℕ
reply_of s e = refusal_of (state_in_range s) (network s) (call_of e)

-- the numbers that an accepted event answers with
unfoldable pub answers_of : Network → Event → List ℕ
answers_of n (Update b t) = []
answers_of n (Send b l) = []
answers_of n (Deliver p) = answer_numbers (answer_at n p)
answers_of n (Repeat p) = answer_numbers (answer_at n p)
answers_of n (Lose p) = []
answers_of n (Cut y l) = []
answers_of n (Restore y l) = []
answers_of n (Report d) = report_numbers n d n.plan.graph.bridges
answers_of n (Path y d) = path_numbers (paths.path n y d)

-- how many they are, with so many bridges
unfoldable pub answer_size : ℕ → Event → ℕ
answer_size bridges (Update b t) = 0
answer_size bridges (Send b l) = 0
answer_size bridges (Deliver p) = 3
answer_size bridges (Repeat p) = 3
answer_size bridges (Lose p) = 0
answer_size bridges (Cut y l) = 0
answer_size bridges (Restore y l) = 0
answer_size bridges (Report d) = 2 * bridges
answer_size bridges (Path y d) = 3

-- of so many events
unfoldable pub answer_sizes : ℕ → List Event → ℕ
answer_sizes bridges [] = 0
answer_sizes bridges (e ∷ es) = answer_size bridges e + answer_sizes bridges es

-- why a list ends: all its events are made; the next one is refused, or the list itself is, by this number; the next one's answer has no room
pub data Ending : Type 0 where
  complete : Ending
  refused_with : ℕ → Ending
  out_of_room : Ending

abbrev pub ending_of : Disposition → Ending
ending_of Complete = complete
ending_of (Refused r) = refused_with (number r)
ending_of Full = out_of_room

-- the refusal, where there is one
abbrev pub refusal_in : Disposition → Option Refusal
refusal_in Complete = None
refusal_in (Refused r) = Some r
refusal_in Full = None

-- after a list of calls: how many were made, why it ended, the state, and the answers one behind the other
pub record Batch : Type 0 where
  pub made : ℕ
  pub ending : Ending
  pub state : State
  pub answers : List ℕ

abbrev pub batch : ℕ → Ending → State → List ℕ → Batch
batch made ending s answers = record { made = made; ending = ending; state = s; answers = answers }

-- one event: refused, it changes nothing
unfoldable pub event_batch : State → Event → Batch
event_batch s e =
    or_refused (reply_of s e) (λ k. batch 0 (refused_with k) s []) (batch 1 complete (step_in s (call_of e)) (answers_of (network s) e))

-- where its answer has room: without, the list ends before the event's own refusal is looked at
unfoldable pub event_batch_in : ℕ → State → Event → Batch
event_batch_in room s e = cond (ltb room (answer_size s.bench.bridges e)) (batch 0 out_of_room s []) (event_batch s e)

-- one after the other, with room for so many numbers
unfoldable pub batch_from : ℕ → State → List Event → Batch
batch_from room s [] = batch 0 complete s []
batch_from room s (e ∷ es) =
    let first : Batch = event_batch_in room s e in
    let then : Batch = batch_from (room - length first.answers) first.state es in
    cond (eqb first.made 0) first (batch (suc then.made) then.ending then.state (first.answers ++ then.answers))

-- the counts, why it ended, the state, and the lent numbers
pub record BatchOutcome : Type 0 where
  pub made : ℕ
  pub answered : ℕ
  pub ending : Ending
  pub state : State
  pub answers : List ℕ

abbrev pub batch_outcome : ℕ → ℕ → Ending → State → List ℕ → BatchOutcome
batch_outcome made answered ending s answers =
    record { made = made; answered = answered; ending = ending; state = s; answers = answers }

-- the answers stand at the head of the lent numbers, and the others are as they were
abbrev pub batch_outcome_of : Batch → List ℕ → BatchOutcome
batch_outcome_of b answers =
    batch_outcome b.made (length b.answers) b.ending b.state (b.answers ++ drop (length b.answers) answers)

-- a list of events: 17 where the state is out of range, and then nothing is changed
unfoldable pub batch_of : State → List Event → List ℕ → BatchOutcome
batch_of s events answers =
    cond (state_in_range s) (batch_outcome_of (batch_from (length answers) s events) answers)
    (batch_outcome 0 0 (refused_with 17) s answers)

-- the calls of so many events, in order
unfoldable pub calls_of : List Event → List Call
calls_of [] = []
calls_of (e ∷ es) = call_of e ∷ calls_of es

-- each of them is accepted, and their answers, where they are made one after the other
unfoldable pub each_accepted : State → List Event → Bool
each_accepted s [] = true
each_accepted s (e ∷ es) = eqb (reply_of s e) 0 && each_accepted (left_by s (call_of e)) es

unfoldable pub answers_by : State → List Event → List ℕ
answers_by s [] = []
answers_by s (e ∷ es) = answers_of (network s) e ++ answers_by (left_by s (call_of e)) es

-- why a list ends where it does: there are no more events; the next is refused, and by which number; its answer has no room
abbrev pub Ended : ℕ → List Event → Batch → Ending → Type 0
Ended room es b complete = b.made ≡ length es
Ended room es b (refused_with k) = (e : Event) × (more : List Event) × (drop b.made es ≡ e ∷ more) × (reply_of b.state e ≡ k) × (k ≡ 0 → ⊥)
Ended room es b out_of_room = (e : Event) × (more : List Event) × (drop b.made es ≡ e ∷ more) × (room < length b.answers + answer_size b.state.bench.bridges e)

-- what becomes of a list: the events that it makes are accepted, its state is that after their calls, in that order (so what is said of lists
-- of calls is said of it), its answers are theirs, and it ends for a reason
pub record IsRun (room : ℕ) (s : State) (es : List Event) (b : Batch) : Type 0 where
  pub accepted : each_accepted s (take b.made es) ≡ true
  pub state : b.state ≡ run_in s (calls_of (take b.made es))
  pub answers : b.answers ≡ answers_by s (take b.made es)
  pub sizes : length b.answers ≡ answer_sizes s.bench.bridges (take b.made es)
  pub ended : Ended room es b b.ending

abbrev pub BatchesAreRuns : Type 0
BatchesAreRuns = (room : ℕ) (s : State) (es : List Event) → IsRun room s es (batch_from room s es)
