-- For private functions: a tag, a header, and the next event of a list. Assumes nothing.
use Rattle.std.specs.Prelude.{ℕ, suc, ◌≡◌, true, false, cond, List, set, ltb, Option, Some, None, Result, MatchResult}
use Rattle.distances.specs.Refusal.{number, refusal}
use Rattle.distances.specs.declared.refusals.Refusal.{Refusal}
use Rattle.distances.specs.declared.refusals.Refusal.TheVariants.{UnknownTag}
use Rattle.bench.specs.Batches.{answer_size}
use Rattle.bench.specs.declared.Event.{Event}
use Rattle.plan.specs.Tags.{known}
use Rattle.plan.specs.Fields.{tag, value_length}
use Rattle.plan.specs.Reading.{Read, header_checks, read_reply}
use Rattle.plan.specs.declared.Field.{Field}
use Rattle.plan.specs.declared.Progress.{Progress}
use Rattle.plan.specs.declared.events.Events.{Events}
use Rattle.plan.specs.declared.events.NextEvent.{NextEvent}
use Rattle.plan.specs.declared.header.Header.{Header}
use Rattle.plan.specs.declared.tags.Tag.{Tag}

-- each tag's number in the table
abbrev pub tag_number : Tag → ℕ
tag_number Tag.BridgeCount = 1
tag_number Tag.Link = 2
tag_number Tag.View = 3
tag_number Tag.Update = 4
tag_number Tag.Send = 5
tag_number Tag.Deliver = 6
tag_number Tag.Repeat = 7
tag_number Tag.Lose = 8
tag_number Tag.Cut = 9
tag_number Tag.Restore = 10
tag_number Tag.Report = 11
tag_number Tag.Path = 12

-- the tag of this number, or its refusal where the table has none
abbrev pub TagReads : ℕ → Result Tag Refusal → Type 0
TagReads n r = MatchResult r (λ t. (tag_number t ≡ n) × (known n ≡ true)) (λ e. (e ≡ UnknownTag) × (known n ≡ false))

-- the tag and the length, where no check of the header applies; else the number of the first that does
abbrev pub HeaderReads : List ℕ → Progress → Result Header Refusal → Type 0
HeaderReads rest p r =
    MatchResult r
    (λ h. (tag_number h.tag ≡ tag rest) × (h.length ≡ value_length rest) × (refusal (header_checks rest p) ≡ 0))
    (λ e. number e ≡ refusal (header_checks rest p))

-- what was read, if it is an event and its answer has room
unfoldable pub next_of : Read → ℕ → ℕ → Option NextEvent
next_of (Read.Field (Field.Event e) used) bridges room =
    cond (ltb room (answer_size bridges e)) None (Some (record { event = e; used = used; size = answer_size bridges e }))
next_of (Read.Field (Field.Bridges n) used) bridges room = None
next_of (Read.Field (Field.Link x y) used) bridges room = None
next_of (Read.Field Field.View used) bridges room = None
next_of (Read.Stop number) bridges room = None

abbrev pub next_event : List ℕ → Progress → ℕ → Option NextEvent
next_event rest p room = next_of (read_reply rest p) p.bridges room

-- one event more, behind the others
abbrev pub with_event : Events → Event → ℕ → Events
with_event read event end =
    record {
      count = suc read.count;
      events = set read.events read.count event;
      ends = set read.ends (suc read.count) end;
    }
