-- A reply of the code, by what it is: a refusal's number is that of the table, and not 0. Assumes nothing.
use native.Mathlib.Omega.{arith}
use mathlib.Core.Path.{◌≡◌}
use mathlib.Core.Bool.{true}
use Rattle.distances.specs.declared.refusals.Refusal.{Refusal}
use Rattle.distances.specs.declared.refusals.Refusal.TheVariants.{CutShort, UnknownTag, WrongLength, OutOfPlace, BridgeCount, TooManyLinks, WrongEnds, TooManyViews, CostTooHigh, NotThere, NotOnLink, AlreadySo, EndDown, QueueFull, NoMessage, NumbersUsedUp, OutOfRange, PlanTooLong}
use Rattle.distances.specs.Refusal.{number}
use Rattle.protocol.specs.Net.{Network}
use Rattle.protocol.specs.Calls.{Call, refuse}
use Rattle.bench.specs.State.{State, network}
use Rattle.bench.specs.Outcomes.{refused_by, ready_for, outcome, outcome_of}
use Rattle.bench.proofs.OutcomeLaws.{table-refused, reply-refused}

-- no refusal has the number 0
pub some_number : (r : Refusal) → number r ≡ 0 → ⊥
some_number CutShort e = omega arith
some_number UnknownTag e = omega arith
some_number WrongLength e = omega arith
some_number OutOfPlace e = omega arith
some_number BridgeCount e = omega arith
some_number TooManyLinks e = omega arith
some_number WrongEnds e = omega arith
some_number TooManyViews e = omega arith
some_number CostTooHigh e = omega arith
some_number NotThere e = omega arith
some_number NotOnLink e = omega arith
some_number AlreadySo e = omega arith
some_number EndDown e = omega arith
some_number QueueFull e = omega arith
some_number NoMessage e = omega arith
some_number NumbersUsedUp e = omega arith
some_number OutOfRange e = omega arith
some_number PlanTooLong e = omega arith

-- what is in range and is refused by the table
module _ {A : Type 0} (s : State) (c : Call) (value : Network → A) (ok : ready_for s c ≡ true) (r : Refusal) (is : number r ≡ refuse (network s) c) where
  pub refused-outcome : outcome (refused_by (number r)) s ≡ outcome_of s c value
  refused-outcome = table-refused s c value ok (number r) is (some_number r)

  pub refused-reply : refused_by (number r) ≡ (outcome_of s c value).reply
  refused-reply = reply-refused s c value ok (number r) is (some_number r)
