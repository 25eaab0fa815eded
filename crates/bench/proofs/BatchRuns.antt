-- A list of events from its first one on, and the calls that it is. Assumes nothing.
use Prim.Native.Nat.{ℕ, suc, ◌-◌, ◌≤◌, ◌<◌}
use native.Mathlib.Omega.{arith}
use mathlib.Core.Path.{◌≡◌, refl, sym, ap, ◌∙◌}
use mathlib.Core.Bool.{Bool, true, false, cond, false≢true}
use mathlib.Core.List.{List, [], ◌∷◌, ◌++◌}
use borrow.Author.Tests.{eq-eqb, eqb-true, eqb-false, ltb-true, ltb-false}
use lib.ListN.{length, take, length-append}
use lib.Dec.{eqb, ltb}
use Rattle.distances.proofs.Booleans.{true-both}
use Rattle.agreement.specs.Record.{answer_numbers}
use Rattle.agreement.specs.declared.Answer.{Answer}
use Rattle.agreement.specs.declared.Answer.TheVariants.{Stale, Agreed, Noted}
use Rattle.protocol.specs.Calls.{answer_at}
use Rattle.protocol.specs.Paths.{PathResult, delivered, stops, path}
use Rattle.bench.specs.State.{State, network}
use Rattle.bench.specs.Standing.{step_in}
use Rattle.bench.specs.Outcomes.{left_by, path_numbers}
use Rattle.bench.specs.Whole.{run_in}
use Rattle.bench.specs.Ranges.{state_in_range}
use Rattle.bench.specs.Batches.{Ending, complete, refused_with, out_of_room, call_of, reply_of, answers_of, answer_size, answer_sizes, Batch, batch, event_batch, event_batch_in, batch_from, batch_outcome, batch_outcome_of, batch_of, calls_of, each_accepted, answers_by, Ended, IsRun, BatchesAreRuns}
use Rattle.bench.specs.declared.Event.{Event}
use Rattle.bench.specs.declared.Event.TheVariants.{Update, Send, Deliver, Repeat, Lose, Cut, Restore, Report, Path}
use Rattle.bench.proofs.RunSteps.{step_kept, left-ready}
use Rattle.bench.proofs.ReportRows.{report-length}
use Rattle.bench.proofs.QueueCalls.{refusal-none}
use Rattle.bench.proofs.TieRanges.{told, plan-in-range}
use Rattle.bench.proofs.TieRefusals.{refusal-out}

-- ---- one event: it has no room, it is refused, or it is made

pub data First (room : ℕ) (s : State) (e : Event) : Batch → Type 0 where
  full : room < answer_size s.bench.bridges e → First room s e (batch 0 out_of_room s [])
  refused : (reply_of s e ≡ 0 → ⊥) → First room s e (batch 0 (refused_with (reply_of s e)) s [])
  made : reply_of s e ≡ 0 → answer_size s.bench.bridges e ≤ room → First room s e (batch 1 complete (step_in s (call_of e)) (answers_of (network s) e))

pub first_of : (room : ℕ) (s : State) (e : Event) → First room s e (event_batch_in room s e)
unfolding event_batch_in event_batch
first_of room s e = go (ltb room (answer_size s.bench.bridges e)) refl (eqb (reply_of s e) 0) refl
  where
    go :
        (b : Bool) → ltb room (answer_size s.bench.bridges e) ≡ b → (c : Bool) → eqb (reply_of s e) 0 ≡ c →
        First room s e (cond b (batch 0 out_of_room s []) (cond c (batch 1 complete (step_in s (call_of e)) (answers_of (network s) e)) (batch 0 (refused_with (reply_of s e)) s [])))
    go true p c q = full (ltb-true _ _ p)
    go false p true q = made (eqb-true _ 0 q) (ltb-false _ _ p)
    go false p false q = refused (eqb-false _ 0 q)

-- a state that an event is accepted in is in range
pub accepted-ready : (s : State) (e : Event) → reply_of s e ≡ 0 → state_in_range s ≡ true
unfolding reply_of
accepted-ready s e none = (refusal-none _ _ (call_of e) none).0

-- and has as many bridges as a network may have
pub accepted-bridges : (s : State) (e : Event) → reply_of s e ≡ 0 → (2 ≤ s.bench.bridges) × (s.bench.bridges ≤ 16)
accepted-bridges s e none =
    let graph = (plan-in-range s.bench s.costs (told s (accepted-ready s e none)).lasting).graph in
    (graph.least, graph.most)

-- in range 32 numbers have room for any answer
pub size_few : (s : State) (e : Event) → state_in_range s ≡ true → answer_size s.bench.bridges e ≤ 32
unfolding answer_size
size_few s (Update b t) ok = omega arith
size_few s (Send b l) ok = omega arith
size_few s (Deliver p) ok = omega arith
size_few s (Repeat p) ok = omega arith
size_few s (Lose p) ok = omega arith
size_few s (Cut y l) ok = omega arith
size_few s (Restore y l) ok = omega arith
size_few s (Report d) ok = omega (arith, (plan-in-range s.bench s.costs (told s ok).lasting).graph.most)
size_few s (Path y d) ok = omega arith

-- out of range every event is refused with 17
pub refused-out : (s : State) (e : Event) → state_in_range s ≡ false → reply_of s e ≡ 17
unfolding reply_of
refused-out s e out = sym (refusal-out _ _ (call_of e) out)

-- its answers are as many as it has room for
answered-length : (a : Answer) → length (answer_numbers a) ≡ 3
answered-length Stale = refl
answered-length (Agreed n v) = refl
answered-length (Noted n v) = refl

path-length : (w : PathResult) → length (path_numbers w) ≡ 3
path-length (delivered h) = refl
path-length (stops last h) = refl

pub answers-length : (s : State) (e : Event) → length (answers_of (network s) e) ≡ answer_size s.bench.bridges e
unfolding answers_of answer_size
answers-length s (Update b t) = refl
answers-length s (Send b l) = refl
answers-length s (Deliver p) = answered-length (answer_at (network s) p)
answers-length s (Repeat p) = answered-length (answer_at (network s) p)
answers-length s (Lose p) = refl
answers-length s (Cut y l) = refl
answers-length s (Restore y l) = refl
answers-length s (Report d) = report-length (network s) d s.bench.bridges
answers-length s (Path y d) = path-length (path (network s) y d)

-- ---- the list

pub runs_none : (room : ℕ) (s : State) → batch_from room s [] ≡ batch 0 complete s []
unfolding batch_from
runs_none room s = refl

-- what follows an event that was made
abbrev pub following : ℕ → State → Event → List Event → Batch
following room s e es = batch_from (room - length (answers_of (network s) e)) (step_in s (call_of e)) es

module _ (room : ℕ) (s : State) (e : Event) (es : List Event) where
  pub runs-made :
      event_batch_in room s e ≡ batch 1 complete (step_in s (call_of e)) (answers_of (network s) e) →
      let b : Batch = following room s e es in
      batch_from room s (e ∷ es) ≡ batch (suc b.made) b.ending b.state (answers_of (network s) e ++ b.answers)
  unfolding batch_from
  runs-made is = rw is

  pub runs-unmade : (b : Batch) → event_batch_in room s e ≡ b → b.made ≡ 0 → batch_from room s (e ∷ es) ≡ b
  unfolding batch_from
  runs-unmade b is none = rw (is, none)

-- an event that was made, and what follows it
module _ (room : ℕ) (s : State) (e : Event) (es : List Event) (none : reply_of s e ≡ 0) (fits : answer_size s.bench.bridges e ≤ room) where
  abbrev own : List ℕ
  own = answers_of (network s) e

  abbrev then : Batch
  then = following room s e es

  abbrev whole : Batch
  whole = batch (suc then.made) then.ending then.state (own ++ then.answers)

  left : left_by s (call_of e) ≡ step_in s (call_of e)
  left = left-ready s (call_of e) (accepted-ready s e none)

  ended-later : (d : Ending) → Ended (room - length own) es then d → Ended room (e ∷ es) whole d
  ended-later complete all = ap suc all
  ended-later (refused_with k) w = w
  ended-later out_of_room w = (w.0, w.1, w.2, omega (arith, w.3, fits, answers-length s e, length-append own then.answers))

  run-further : IsRun (room - length own) (step_in s (call_of e)) es then → IsRun room s (e ∷ es) whole
  unfolding run_in calls_of answer_sizes each_accepted answers_by
  run-further later =
      record {
        accepted = true-both (eq-eqb (reply_of s e) 0 none) (ap (λ (x : State). each_accepted x (take then.made es)) left ∙ later.accepted);
        state = later.state ∙ ap (λ (x : State). run_in x (calls_of (take then.made es))) (sym left);
        answers = ap (λ (l : List ℕ). own ++ l) (later.answers ∙ ap (λ (x : State). answers_by x (take then.made es)) (sym left));
        sizes =
            length-append own then.answers
            ∙ omega (arith, answers-length s e, later.sizes ∙ ap (λ (n : ℕ). answer_sizes n (take then.made es)) (step_kept s (call_of e)).bridges);
        ended = ended-later then.ending later.ended;
      }

-- the events that were made, their calls and their answers
pub batches-are-runs : BatchesAreRuns
unfolding run_in calls_of answer_sizes each_accepted answers_by batch_from
batches-are-runs room s [] = record { accepted = refl; state = refl; answers = refl; sizes = refl; ended = refl }
batches-are-runs room s (e ∷ es) =
    go (batches-are-runs (room - length (answers_of (network s) e)) (step_in s (call_of e)) es) (event_batch_in room s e) refl (first_of room s e)
  where
    go : IsRun (room - length (answers_of (network s) e)) (step_in s (call_of e)) es (following room s e es) → (b : Batch) → event_batch_in room s e ≡ b → First room s e b → IsRun room s (e ∷ es) (batch_from room s (e ∷ es))
    go later b is (full few) = rw (runs-unmade room s e es b is refl) (record { accepted = refl; state = refl; answers = refl; sizes = refl; ended = (e, es, refl, omega (arith, few)) })
    go later b is (refused some) = rw (runs-unmade room s e es b is refl) (record { accepted = refl; state = refl; answers = refl; sizes = refl; ended = (e, es, refl, refl, some) })
    go later b is (made none fits) = rw (runs-made room s e es is) (run-further room s e es none fits later)

-- no more numbers are answered with than there is room for
pub answers-within : (room : ℕ) (s : State) (es : List Event) → length (batch_from room s es).answers ≤ room
answers-within room s [] = rw runs_none (omega arith)
answers-within room s (e ∷ es) = go (answers-within (room - length (answers_of (network s) e)) (step_in s (call_of e)) es) (event_batch_in room s e) refl (first_of room s e)
  where
    then : Batch
    then = following room s e es

    go : length then.answers ≤ room - length (answers_of (network s) e) → (b : Batch) → event_batch_in room s e ≡ b → First room s e b → length (batch_from room s (e ∷ es)).answers ≤ room
    go later b is (full few) = rw (runs-unmade room s e es b is refl) (omega arith)
    go later b is (refused some) = rw (runs-unmade room s e es b is refl) (omega arith)
    go later b is (made none fits) =
        rw (runs-made room s e es is)
        (omega (arith, later, fits, answers-length s e, length-append (answers_of (network s) e) then.answers))

-- no more are made than there are
pub runs-few : (room : ℕ) (s : State) (es : List Event) → (batch_from room s es).made ≤ length es
runs-few room s [] = rw runs_none (omega arith)
runs-few room s (e ∷ es) = go (runs-few (room - length (answers_of (network s) e)) (step_in s (call_of e)) es) (event_batch_in room s e) refl (first_of room s e)
  where
    go : (following room s e es).made ≤ length es → (b : Batch) → event_batch_in room s e ≡ b → First room s e b → (batch_from room s (e ∷ es)).made ≤ length (e ∷ es)
    go later b is (full few) = rw (runs-unmade room s e es b is refl) (omega arith)
    go later b is (refused some) = rw (runs-unmade room s e es b is refl) (omega arith)
    go later b is (made none fits) = rw (runs-made room s e es is) (omega (arith, later))

-- the parts of the outcome, in range and out of range
module _ (s : State) (events : List Event) (answers : List ℕ) where
  pub batch-in : state_in_range s ≡ true → batch_of s events answers ≡ batch_outcome_of (batch_from (length answers) s events) answers
  unfolding batch_of
  batch-in ok = rw ok

  pub batch-out : state_in_range s ≡ false → batch_of s events answers ≡ batch_outcome 0 0 (refused_with 17) s answers
  unfolding batch_of
  batch-out out = rw out

  -- out of range the first event is refused, if its answer has room
  pub batch-first :
      (e : Event) (es : List Event) → events ≡ e ∷ es → answer_size s.bench.bridges e ≤ length answers →
      batch_of s events answers ≡ batch_outcome_of (batch_from (length answers) s events) answers
  batch-first e es head room = go (state_in_range s) refl
    where
      refused-first : state_in_range s ≡ false → (b : Batch) → event_batch_in (length answers) s e ≡ b → First (length answers) s e b → batch_outcome 0 0 (refused_with 17) s answers ≡ batch_outcome_of (batch_from (length answers) s (e ∷ es)) answers
      refused-first q b is (full less) = absurd (omega (arith, less, room))
      refused-first q b is (refused some) = rw (runs-unmade (length answers) s e es b is refl, refused-out s e q)
      refused-first q b is (made none fits) = absurd (false≢true (sym q ∙ accepted-ready s e none))

      go : (b : Bool) → state_in_range s ≡ b → batch_of s events answers ≡ batch_outcome_of (batch_from (length answers) s events) answers
      go true q = batch-in q
      go false q = rw (batch-out q, head) (refused-first q (event_batch_in (length answers) s e) refl (first_of (length answers) s e))
