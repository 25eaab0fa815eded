-- Worked cases of layer 3: the protocol's examples (docs/PROTOCOL.md) in a caller's numbers. Assumes nothing.
use Rattle.std.specs.Prelude.{ℕ, ◌≡◌, true, ◌&&◌, List, [], ◌∷◌, ◌++◌, length, get_or, take, replicate, leb, Some}
use Rattle.distances.specs.View.{NONE}
use Rattle.distances.specs.Table.{cell}
use Rattle.agreement.specs.Call.{says}
use Rattle.agreement.specs.Record.{fresh_record}
use Rattle.agreement.specs.declared.Answer.TheVariants.{Stale}
use Rattle.agreement.specs.declared.Verdict.TheVariants.{SentNotAbove}
use Rattle.protocol.specs.Net.{fresh}
use Rattle.protocol.specs.Calls as calls
use Rattle.protocol.specs.Calls.{Call, change, cut, answer_at}
use Rattle.protocol.specs.Ports.{own_distance, forwarding_verdict, forwarding_port, crosses, hop}
use Rattle.protocol.specs.Paths.{delivered, stops, path}
use Rattle.protocol.specs.Paths as paths
use Rattle.protocol.specs.Demand2.{ForwardsBy}
use Rattle.protocol.specs.Examples.{calls_e3, calls_one_end, calls_e4, calls_e6, calls_e7}
use Rattle.bench.specs.State.{State, state, network}
use Rattle.bench.specs.Outcomes.{refusal_of, ready_for, outcome, outcome_of, left_by, report_of, fresh_of}
use Rattle.bench.specs.Whole.{run_in}
use Rattle.bench.specs.Batches.{reply_of, batch_from, each_accepted}
use Rattle.bench.specs.declared.Bench.{Bench}
use Rattle.bench.specs.declared.Event.{Event}
use Rattle.bench.specs.declared.Event.TheVariants.{Cut, Report}
use Rattle.messages.specs.SliceLists.{Kept, kept, numbered, Lead, Starts}
use Rattle.messages.specs.declared.Message.{Message}

-- the triangle with its two views in a caller's numbers, of which the others held something else before
abbrev pub bench : Bench
bench =
    record {
      bridges = 3;
      links = 3;
      views = 2;
      messages = 5;
      ends = 0 ∷ 1 ∷ 1 ∷ 2 ∷ 0 ∷ 2 ∷ replicate 58 0;
      view = replicate 16 9;
      number = replicate 16 7;
      records = replicate 64 fresh_record;
      down = replicate 64 true;
    }

abbrev pub costs : List ℕ
costs = (1 ∷ 1 ∷ 3 ∷ replicate 29 0) ++ ((0 ∷ 1 ∷ 3 ∷ replicate 29 0) ++ replicate 960 0)

abbrev pub lent_state : State
lent_state = state bench costs (replicate 1024 8) (replicate 1024 8) (replicate 320 6)

-- what `fresh` makes of it, and any calls after that
abbrev pub started : State
started = (fresh_of lent_state).state

abbrev pub left : List Call → State
left cs = run_in started cs

-- the same with a slice of messages
abbrev pub leftover : Message
leftover = record { link = 6; direction = 6; view = 6; number = 6; discarded = 6 }

abbrev pub lent_slice : Kept
lent_slice = kept bench costs (replicate 1024 8) (replicate 1024 8) (replicate 64 leftover)

-- a list of events: the third is refused, and the fourth is not looked at
abbrev pub events : List Event
events = Report 0 ∷ Cut 0 0 ∷ Cut 0 0 ∷ Cut 1 0 ∷ []

pub record WorkedCalls : Type 0 where
  -- E3: the call replies that bridge 2's port is open on link 1, that its path is delivered after two hops, and that its distance is 2
  pub port : outcome_of (left calls_e3) (calls.port 2 0) (λ n. forwarding_port n 2 0) ≡ outcome (says (Some 1)) (left calls_e3)
  pub path : outcome_of (left calls_e3) (calls.path 2 0) (λ n. path n 2 0) ≡ outcome (says (delivered 2)) (left calls_e3)
  pub report : (let rows = (report_of (left calls_e3) 0 (replicate 32 5)).rows in (get_or rows 4 0 ≡ 2) × (get_or rows 5 0 ≡ 1))
  -- by the conditions of demand 2, on what stands in the caller's numbers; and one message is in flight there
  pub rule : (e : ℕ) × ForwardsBy (network (left calls_e3)) 2 0 1 e
  pub in_flight : (left calls_e3).bench.messages ≡ 1
  -- E4: bridge 1 has distance 4
  pub distance : own_distance (network (left calls_e4)) 1 0 ≡ 4
  -- of link 0 bridge 0's end alone is cut: bridge 1's port is open on it, and the path from 2 stops at bridge 1 after one hop
  pub dies : (forwarding_port (network (left calls_one_end)) 1 0 ≡ Some 0) × (paths.path (network (left calls_one_end)) 2 0 ≡ stops 1 1)
  -- E6: at bridge 1's end of link 1 the caller's tables have the limits 2, sent, and 4, held
  pub sent : cell (left calls_e6).sent 2 0 ≡ 2
  pub held : cell (left calls_e6).held 2 0 ≡ 4
  -- and of its port the call replies that the sent limit on link 1 is not above the distance
  pub verdict : outcome_of (left calls_e6) (calls.verdict 1 0) (λ n. forwarding_verdict n 1 0) ≡ outcome (says (SentNotAbove 1)) (left calls_e6)
  -- E8: the delivery is accepted, and stale
  pub accepted : refusal_of (ready_for (left calls_e7) (calls.deliver 0)) (network (left calls_e7)) (calls.deliver 0) ≡ 0
  pub stale : answer_at (network (left calls_e7)) 0 ≡ Stale
  -- a cut of a link that is not there changes nothing, and asking neither
  pub refused : left_by started (change (cut 0 9)) ≡ started
  pub asking : (left_by started (calls.port 2 0) ≡ started) × (left_by started (calls.verdict 2 0) ≡ started) × (left_by started (calls.report 0) ≡ started) × (left_by started (calls.path 2 0) ≡ started)
  -- a verdict of a bridge that is not there is refused with 10
  pub lacking : refusal_of (ready_for started (calls.verdict 3 0)) (network started) (calls.verdict 3 0) ≡ 10
  -- E7: bridge 1's frame goes to bridge 2, and so none of bridge 2 goes to bridge 1
  pub no_ring : (l : ℕ) → hop (calls.run (fresh (network lent_state).plan) calls_e7) 0 2 ≡ crosses l 1 → ⊥
  -- a report is not refused where there is room for its rows
  pub reported : refusal_of (ready_for (left calls_e3) (calls.report 0) && leb 32 40) (network (left calls_e3)) (calls.report 0) ≡ 0
  -- of the list of events the report and one cut of an end are made: both accepted, the state that they leave, the report's distances without a port; and the
  -- next, the same cut again, is refused with 12
  pub made : each_accepted started (take 2 events) ≡ true
  pub batch : (batch_from 6 started events).state ≡ left (calls.report 0 ∷ change (cut 0 0) ∷ [])
  pub answers : (batch_from 6 started events).answers ≡ 0 ∷ NONE ∷ 1 ∷ NONE ∷ 2 ∷ NONE ∷ []
  pub sizes : length (batch_from 6 started events).answers ≡ 6
  pub ended : reply_of (batch_from 6 started events).state (Cut 0 0) ≡ 12
  -- over the slice, after `fresh` and the calls of E3: bridge 2's port is open on link 1
  pub slices : (first t : Kept) × Starts lent_slice first × Lead first calls_e3 t × (forwarding_port (network (numbered t)) 2 0 ≡ Some 1)
