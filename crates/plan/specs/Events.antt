-- The events at the head of the bytes that are left, as a list of calls takes them. Assumes nothing.
use Rattle.std.specs.Prelude.{ℕ, zero, suc, ◌+◌, ◌-◌, cond, List, [], ◌∷◌, ◌++◌, length, get_or, drop, replicate, eqb, ltb}
use Rattle.bench.specs.Batches.{answer_size}
use Rattle.bench.specs.declared.Bench.{Bench}
use Rattle.bench.specs.declared.Event.{Event}
use Rattle.bench.specs.declared.Event.TheVariants.{Lose}
use Rattle.plan.specs.Sizes.{most_events}
use Rattle.plan.specs.Reading.{Read, read_reply}
use Rattle.plan.specs.declared.Field.{Field}
use Rattle.plan.specs.declared.Progress.{Progress}
use Rattle.plan.specs.declared.events.Events.{Events}

-- an event, and the bytes up to its end
pub record Placed : Type 0 where
  pub event : Event
  pub past : ℕ

abbrev pub placed : Event → ℕ → Placed
placed e past = record { event = e; past = past }

-- what follows from an event that was read; nothing from anything else
unfoldable pub if_event : Read → (Event → ℕ → List Placed) → List Placed
if_event (Read.Field (Field.Event e) used) f = f e used
if_event (Read.Field (Field.Bridges n) used) f = []
if_event (Read.Field (Field.Link x y) used) f = []
if_event (Read.Field Field.View used) f = []
if_event (Read.Stop number) f = []

-- events one behind the other, at most so many, and as long as the numbers that they answer with have room; `at` bytes were before them
unfoldable pub events_at : ℕ → Progress → ℕ → ℕ → List ℕ → List Placed
events_at zero p room at rest = []
events_at (suc most) p room at rest =
    if_event (read_reply rest p)
    (λ e used.
    cond (ltb room (answer_size p.bridges e)) []
    (placed e (at + used) ∷ events_at most p (room - answer_size p.bridges e) (at + used) (drop used rest)))

unfoldable pub events_of : List Placed → List Event
events_of [] = []
events_of (x ∷ xs) = x.event ∷ events_of xs

unfoldable pub ends_of : List Placed → List ℕ
ends_of [] = []
ends_of (x ∷ xs) = x.past ∷ ends_of xs

-- the reply: the events, and `Lose 0` behind them; how many they are; where the first begins and where each ends
unfoldable pub listing : List Placed → Events
listing xs =
    record {
      count = length xs;
      events = events_of xs ++ replicate (most_events - length xs) (Lose 0);
      ends = 0 ∷ (ends_of xs ++ replicate (most_events - length xs) 0);
    }

unfoldable pub events_reply : List ℕ → Progress → ℕ → Events
events_reply rest p room = listing (events_at most_events p room 0 rest)

-- for whoever makes the events: how far a plan has come whose network stands in a bench
abbrev pub list_progress : Bench → Progress
list_progress b = record { stage = 3; bridges = b.bridges; links = b.links; views = b.views }

-- the bytes of so many events, by where each ends
abbrev pub bytes_by : List ℕ → ℕ → ℕ
bytes_by ends made = cond (eqb made 0) 0 (get_or ends made 0)
