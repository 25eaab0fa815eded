-- Sizes of what is handed to layer 3; the limit tables are as layer 2 has them. Assumes nothing.
use Rattle.std.specs.Prelude.{ℕ}

-- a row of 32 costs for each of 32 views
abbrev pub cost_numbers : ℕ
cost_numbers = 1024

-- the most messages in flight, and five numbers for each
abbrev pub most_messages : ℕ
most_messages = 64

abbrev pub flight_numbers : ℕ
flight_numbers = 320
