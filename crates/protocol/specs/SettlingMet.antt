-- The premises of the settling statement can be met: a worked list of calls on the triangle of document 01's examples, among them a
-- stale, a lost and a repeated message and refused calls. Assumes nothing.
use Rattle.std.specs.Prelude.{◌≡◌, List, [], ◌∷◌, ◌++◌}
use Rattle.agreement.specs.declared.Answer.TheVariants.{Stale}
use Rattle.protocol.specs.Net.{Network, PlanInRange, distance_in, fresh}
use Rattle.protocol.specs.Calls.{Call, change, update, cut, send, deliver, repeat, lose, answer_at, run}
use Rattle.protocol.specs.Demand3.{Settling}
use Rattle.protocol.specs.Examples.{plan}

-- bridge 1 sends in view 0, and then all go to view 1, which has no link 0; link 0 is cut at both ends
unfoldable pub before : List Call
before =
    send 1 1 ∷ change (update 0 1) ∷ change (update 1 1) ∷ change (update 2 1) ∷ change (cut 0 0) ∷ change (cut 1 0) ∷ []

-- a round in which one message is lost, and the one of view 0 comes after a newer one, which is delivered twice
unfoldable pub opening : List Call
opening = send 1 1 ∷ send 0 2 ∷ send 2 1 ∷ lose 2 ∷ send 0 2 ∷ repeat 1 ∷ []

unfoldable pub closing : List Call
closing = deliver 0 ∷ deliver 0 ∷ send 2 2 ∷ deliver 2 ∷ deliver 0 ∷ deliver 0 ∷ []

unfoldable pub first : List Call
first = opening ++ closing

-- a second round, with a refused cut and a refused send over the cut link
unfoldable pub second : List Call
second =
    send 1 1 ∷ send 2 1 ∷ change (cut 1 0) ∷ send 0 0 ∷ send 0 2 ∷ send 2 2
    ∷ deliver 3 ∷ deliver 0 ∷ repeat 0 ∷ deliver 1 ∷ lose 0 ∷ []

unfoldable pub start : Network
start = run (fresh plan) before

pub record SettlingCanBeMet : Type 0 where
  pub in_range : PlanInRange plan
  pub premises : Settling start 1 first second
  -- bridges 1 and 2 have a path to bridge 0 in view 1
  pub distances : (distance_in plan 1 1 0 ≡ 4) × (distance_in plan 1 2 0 ≡ 3)
  -- the first delivery of `closing` is stale
  pub stale : answer_at (run start opening) 0 ≡ Stale
