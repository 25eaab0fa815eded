-- What the exported list of calls does, for every input: its reply and every list that it may write. It is `bench::batches::run` of the
-- events at the head of a plan's bytes; a list that holds no bench, and one too short for the counts, are refused first. Assumes nothing.
use Rattle.std.specs.Prelude.{ℕ, cond, ◌&&◌, List, [], ◌∷◌, length, take, eqb, leb}
use Rattle.std.proofs.lemmas.List.Edits.{sets}
use Rattle.bench.specs.State.{state}
use Rattle.bench.specs.Batches.{Ending, complete, refused_with, out_of_room, BatchOutcome, batch_of}
use Rattle.bench.specs.declared.Bench.{Bench}
use Rattle.plan.specs.Events.{list_progress, events_reply, bytes_by}
use Rattle.plan.specs.declared.events.Events.{Events}
use Rattle.encoding.specs.Replies.{CallOutcome, call_outcome, if_long}
use Rattle.exports_network.specs.Network.{holds_bench, bench_in, low, stored}

-- the new bench where an event was made, else as it was
abbrev pub stored_if_made : ℕ → Bench → List ℕ → List ℕ
stored_if_made made b xs = cond (eqb made 0) xs (stored b xs)

-- how many events were made, how many bytes they take, how many numbers they answered with
abbrev pub counts_of : ℕ → ℕ → ℕ → List ℕ
counts_of made used answered = low made ∷ low used ∷ low answered ∷ []

-- the number of the refusal by which a list ended, 0 where none did
abbrev pub ending_number : Ending → ℕ
ending_number complete = 0
ending_number (refused_with k) = k
ending_number out_of_room = 0

abbrev pub batch_reply : List ℕ → List ℕ → ℕ → BatchOutcome → CallOutcome
batch_reply xs out used o =
    call_outcome (ending_number o.ending)
    (stored_if_made o.made o.state.bench xs
    ∷ sets out 0 (counts_of o.made used o.answered)
    ∷ o.state.sent
    ∷ o.state.held
    ∷ o.state.messages
    ∷ o.answers
    ∷ [])

-- the events that are read
abbrev pub events_in : Bench → List ℕ → List ℕ → Events
events_in b rest answers = events_reply rest (list_progress b) (length answers)

abbrev pub net_run_reply : List ℕ → List ℕ → List ℕ → List ℕ → List ℕ → List ℕ → List ℕ → List ℕ → CallOutcome
net_run_reply xs costs sent held messages rest answers out =
    let l : Events = events_in (bench_in xs) rest answers in
    let o : BatchOutcome = batch_of (state (bench_in xs) costs sent held messages) (take l.count l.events) answers in
    if_long (holds_bench xs && leb 3 (length out)) (xs ∷ out ∷ sent ∷ held ∷ messages ∷ answers ∷ [])
    (batch_reply xs out (bytes_by l.ends o.made) o)
