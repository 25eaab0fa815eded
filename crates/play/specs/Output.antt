-- What is replied for a plan, and for what it was read from. Assumes nothing.
use Rattle.std.specs.Prelude.{ℕ, suc, ◌≤◌, ◌<◌, ◌≡◌, Option, None, Some, Result, Ok, Err, List, ◌++◌, length, take, drop}
use Rattle.std.specs.Io.KnownBytes.{Appends, Consumes, IsAtEnd, Keeps}
use Rattle.runner.specs.Program.{output}
use Rattle.play.specs.declared.PlayError.{PlayError}
use Rattle.runner.specs.Sizes.{longest_plan}

-- what a call replies: a count of bytes, or why there is none
abbrev pub Reply : Type 0
Reply = Result ℕ PlayError

-- of a text: as many bytes were counted as it has; or a write failed after fewer
abbrev pub Handed : Reply → List ℕ → Type 0
Handed (Ok n) text = n ≡ length text
Handed (Err (PlayError.Stopped n)) text = n < length text
Handed (Err PlayError.Unread) text = ⊥

-- of a reader, of which these bytes were read: it could not be read on; or the count is that of the output of a plan which begins with
-- them and is at most one byte longer than a plan may be. Where the reader's type does not tell the bytes behind them, no contract can say that they are those that were read
pub data Played (begun : List ℕ) : Reply → Type 0 where
  unread : Played begun (Err PlayError.Unread)
  read : {r : Reply} (more : List ℕ) → length (begun ++ more) ≤ suc longest_plan → Handed r (output (begun ++ more)) → Played begun r

-- the bytes that were read lie behind the first `from` of those that are lent, and these are as they were; or a read failed
abbrev pub ReadBehind : ℕ → Reply → List ℕ → List ℕ → Type 0
ReadBehind from (Ok end) before after = (from ≤ end) × (end ≤ length after) × (take from after ≡ take from before)
ReadBehind from (Err e) before after = e ≡ PlayError.Unread

-- these bytes stand in a plan's output, behind the first `from` of it
abbrev pub StandsAt : List ℕ → ℕ → List ℕ → Type 0
StandsAt plan from bytes = take (length bytes) (drop from (output plan)) ≡ bytes

-- ---- what a writer and a reader hold, where their types tell it (`W.contents`, `R.remaining`)

-- the writer's bytes grew by a text's first bytes, so many of them at least
abbrev pub WrotePart : ℕ → List ℕ → Option (List ℕ) → Option (List ℕ) → Type 0
WrotePart least text old new = (n : ℕ) × (least ≤ n) × (n ≤ length text) × Appends old new (take n text)

-- of a text: where all of it was counted, the writer's bytes grew by it, and else by a part of it that has as many bytes at least as were counted
abbrev pub Wrote : Reply → List ℕ → Option (List ℕ) → Option (List ℕ) → Type 0
Wrote (Ok n) text old new = Appends old new text
Wrote (Err (PlayError.Stopped n)) text old new = WrotePart n text old new
Wrote (Err PlayError.Unread) text old new = Keeps old new

-- of a reader, of which nothing more was read: a plan is all that it had, or as many of its bytes as show that it is too long
abbrev pub IsReadOf : Option (List ℕ) → List ℕ → Type 0
IsReadOf None plan = Unit {0}
IsReadOf (Some bytes) plan = plan ≡ take (suc longest_plan) bytes

-- of a reader and a writer: the plan could not be read, and nothing was written; or the plan that was read is what was counted and written
pub data Carried (given : Option (List ℕ)) : Reply → Option (List ℕ) → Option (List ℕ) → Type 0 where
  unread : {old new : Option (List ℕ)} → Keeps old new → Carried given (Err PlayError.Unread) old new
  read : {r : Reply} {old new : Option (List ℕ)} (plan : List ℕ) → IsReadOf given plan → Handed r (output plan) → Wrote r (output plan) old new → Carried given r old new

-- what lies behind the first `from` of the lent bytes is what the reader gave, and where it ends before `full`, the reader has no more
abbrev pub Gave : ℕ → ℕ → Reply → List ℕ → Option (List ℕ) → Option (List ℕ) → Type 0
Gave from full (Ok end) bytes old new = Consumes old new (drop from (take end bytes)) × (end < full → from < length bytes → IsAtEnd new)
Gave from full (Err e) bytes old new = Unit {0}
