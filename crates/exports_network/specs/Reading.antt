-- What the exported calls of the plan file's reader do, for every input: the reply and the list that the call may write. Assumes nothing.
use Rattle.std.specs.Prelude.{ℕ, List, [], ◌∷◌, ◌++◌, length, leb}
use Rattle.std.proofs.lemmas.List.Edits.{sets}
use Rattle.bench.specs.declared.Event.{Event}
use Rattle.bench.specs.declared.Event.TheVariants.{Update, Send, Deliver, Repeat, Lose, Cut, Restore, Report, Path}
use Rattle.plan.specs.Reading.{Read, read_reply, Stored, costs_reply}
use Rattle.plan.specs.declared.Field.{Field}
use Rattle.plan.specs.declared.Progress.{Progress}
use Rattle.encoding.specs.Replies.{CallOutcome, call_outcome, with_numbers, if_long}
use Rattle.exports_network.specs.Network.{low}

-- the bytes that the field takes stand in front, 0 where the plan properly ends
abbrev pub read_outcome : List ℕ → Read → CallOutcome
read_outcome out (Read.Field f used) = call_outcome 0 (sets out 0 (low used ∷ []) ∷ [])
read_outcome out (Read.Stop number) = call_outcome number (with_numbers number out (0 ∷ []) ∷ [])

abbrev pub read_field_reply : List ℕ → ℕ → ℕ → ℕ → ℕ → List ℕ → CallOutcome
read_field_reply rest stage bridges links views out =
    let p : Progress = record { stage = stage; bridges = bridges; links = links; views = views } in
    if_long (leb 1 (length out)) (out ∷ []) (read_outcome out (read_reply rest p))

abbrev pub read_costs_reply : List ℕ → ℕ → List ℕ → CallOutcome
read_costs_reply rest links row =
    let s : Stored = costs_reply rest links row in
    call_outcome (s.number) (s.row ∷ [])

-- ---- the field told

-- an event by the table of tags (docs/PROTOCOL.md, "The plan file"): its tag and the numbers of its value, 0 for a second that it has not
abbrev pub event_numbers : Event → List ℕ
event_numbers (Update bridge view) = 4 ∷ bridge ∷ view ∷ []
event_numbers (Send bridge link) = 5 ∷ bridge ∷ link ∷ []
event_numbers (Deliver place) = 6 ∷ place ∷ 0 ∷ []
event_numbers (Repeat place) = 7 ∷ place ∷ 0 ∷ []
event_numbers (Lose place) = 8 ∷ place ∷ 0 ∷ []
event_numbers (Cut bridge link) = 9 ∷ bridge ∷ link ∷ []
event_numbers (Restore bridge link) = 10 ∷ bridge ∷ link ∷ []
event_numbers (Report dest) = 11 ∷ dest ∷ 0 ∷ []
event_numbers (Path start dest) = 12 ∷ start ∷ dest ∷ []

-- any field by that table: a bridge count, a link with its two bridges, a view, whose costs are read apart, or an event
abbrev pub field_numbers : Field → List ℕ
field_numbers (Field.Bridges count) = 1 ∷ count ∷ 0 ∷ []
field_numbers (Field.Link a b) = 2 ∷ a ∷ b ∷ []
field_numbers Field.View = 3 ∷ 0 ∷ 0 ∷ []
field_numbers (Field.Event event) = event_numbers event

-- the field's three numbers and the bytes that it takes stand in front, four zeros where the plan properly ends
abbrev pub told_outcome : List ℕ → Read → CallOutcome
told_outcome out (Read.Field f used) = call_outcome 0 (sets out 0 (field_numbers f ++ (low used ∷ [])) ∷ [])
told_outcome out (Read.Stop number) = call_outcome number (with_numbers number out (0 ∷ 0 ∷ 0 ∷ 0 ∷ []) ∷ [])

abbrev pub tell_field_reply : List ℕ → ℕ → ℕ → ℕ → ℕ → List ℕ → CallOutcome
tell_field_reply rest stage bridges links views out =
    let p : Progress = record { stage = stage; bridges = bridges; links = links; views = views } in
    if_long (leb 4 (length out)) (out ∷ []) (told_outcome out (read_reply rest p))
