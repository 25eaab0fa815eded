-- What an event prints (docs/PROTOCOL.md, "Events" and "The plan file"). Assumes nothing.
use Rattle.std.specs.Prelude.{ℕ, ◌≡◌, cond, List, [], length, get_or, eqb}
use Rattle.std.proofs.lemmas.List.Edits.{sets}
use Rattle.bench.specs.State.{State, network}
use Rattle.bench.specs.Standing.{step_in}
use Rattle.bench.specs.Batches.{call_of, answers_of}
use Rattle.bench.specs.declared.Event.{Event}
use Rattle.bench.specs.declared.Event.TheVariants.{Update, Send, Deliver, Repeat, Lose, Cut, Restore, Report, Path}
use Rattle.text.specs.Lines.{report_text, delivered_text, stops_text}

-- the line of a path, by the three numbers that it answers with: 0, 0 and its hops, or 1, its last bridge and its hops
unfoldable pub path_text : ℕ → ℕ → List ℕ → List ℕ
path_text start dest answers =
    cond (eqb (get_or answers 0 0) 0) (delivered_text start dest (get_or answers 2 0))
    (stops_text start dest (get_or answers 1 0) (get_or answers 2 0))

-- what an accepted event prints, by the numbers that it answers with, where there are so many bridges
unfoldable pub event_text : ℕ → Event → List ℕ → List ℕ
event_text bridges (Update b t) answers = []
event_text bridges (Send b l) answers = []
event_text bridges (Deliver p) answers = []
event_text bridges (Repeat p) answers = []
event_text bridges (Lose p) answers = []
event_text bridges (Cut y l) answers = []
event_text bridges (Restore y l) answers = []
event_text bridges (Report d) answers = report_text d bridges answers
event_text bridges (Path y d) answers = path_text y d answers

-- an event has no text, whatever it answers with
abbrev pub NoText : Event → Type 0
NoText e = (bridges : ℕ) (answers : List ℕ) → event_text bridges e answers ≡ []

abbrev pub text_of : State → Event → List ℕ
text_of s e = event_text s.bench.bridges e (answers_of (network s) e)

-- the state afterwards: the network that stands in it makes the call's step
abbrev pub state_after : State → Event → State
state_after s e = step_in s (call_of e)

-- a text written from the first lent byte on, and its count, by a private function
pub record Line : Type 0 where
  pub count : ℕ
  pub out : List ℕ

abbrev pub line : ℕ → List ℕ → Line
line count out = record { count = count; out = out }

abbrev pub line_of : List ℕ → List ℕ → Line
line_of text out = line (length text) (sets out 0 text)
