-- Sizes by which a plan is carried out. Assumes nothing.
use Rattle.std.specs.Prelude.{ℕ}

-- the longest plan, in bytes
abbrev pub longest_plan : ℕ
longest_plan = 61440

-- the answers of one list, and the most bytes that are printed for one of their numbers
abbrev pub most_answers : ℕ
most_answers = 2048

abbrev pub bytes_for_anumber : ℕ
bytes_for_anumber = 15
