-- Sizes of what is lent to layer 2. Assumes nothing.
use Rattle.std.specs.Prelude.{ℕ}

-- a table of limits: a row of 16 for each end
abbrev pub limit_numbers : ℕ
limit_numbers = 1024

-- the ends of 32 links
abbrev pub most_ends : ℕ
most_ends = 64
