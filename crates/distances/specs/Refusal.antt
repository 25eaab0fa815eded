-- The table of refusals: the number of each, and a place's checks, read from the top down. Assumes nothing.
use Rattle.std.specs.Prelude.{ℕ, Bool, cond, List, [], ◌∷◌, Result, Ok, Err}
use Rattle.distances.specs.declared.refusals.Refusal.{Refusal}
use Rattle.distances.specs.declared.refusals.Refusal.TheVariants.{
  CutShort,
  UnknownTag,
  WrongLength,
  OutOfPlace,
  BridgeCount,
  TooManyLinks,
  WrongEnds,
  TooManyViews,
  CostTooHigh,
  NotThere,
  NotOnLink,
  AlreadySo,
  EndDown,
  QueueFull,
  NoMessage,
  NumbersUsedUp,
  OutOfRange,
  PlanTooLong,
}

-- each refusal's number
abbrev pub number : Refusal → ℕ
number CutShort = 1
number UnknownTag = 2
number WrongLength = 3
number OutOfPlace = 4
number BridgeCount = 5
number TooManyLinks = 6
number WrongEnds = 7
number TooManyViews = 8
number CostTooHigh = 9
number NotThere = 10
number NotOnLink = 11
number AlreadySo = 12
number EndDown = 13
number QueueFull = 14
number NoMessage = 15
number NumbersUsedUp = 16
number OutOfRange = 17
number PlanTooLong = 18

-- the number that a reply tells: 0 where nothing is refused
abbrev pub reply_number : {A : Type 0} → Result A Refusal → ℕ
reply_number (Ok x) = 0
reply_number (Err r) = number r

-- a row: a condition and its number
pub record Check : Type 0 where
  pub when : Bool
  pub number : ℕ

abbrev pub check : Bool → ℕ → Check
check when number = record { when = when; number = number }

-- the number of the first that applies, 0 where none does
unfoldable pub refusal : List Check → ℕ
refusal [] = 0
refusal (c ∷ cs) = cond c.when c.number (refusal cs)
