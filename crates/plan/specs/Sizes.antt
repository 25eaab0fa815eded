-- The sizes that a plan is read by, and of a list of events. The greatest cost is `max_cost` of distances. Assumes nothing.
use Rattle.std.specs.Prelude.{ℕ}

abbrev pub least_bridges : ℕ
least_bridges = 2

abbrev pub most_bridges : ℕ
most_bridges = 16

abbrev pub most_links : ℕ
most_links = 32

abbrev pub most_views : ℕ
most_views = 32

-- a field's header: one byte of tag, two of length
abbrev pub header_bytes : ℕ
header_bytes = 3

-- a link's cost in a view
abbrev pub cost_bytes : ℕ
cost_bytes = 4

-- the events of one list, as the bench has it
abbrev pub most_events : ℕ
most_events = 2048
