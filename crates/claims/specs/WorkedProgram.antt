-- Worked cases of the program: the sample plan (plans/cases/sample.hex), example E3 as a plan, and plans that are refused. Assumes nothing.
use Rattle.std.specs.Prelude.{ℕ, suc, ◌≤◌, ◌<◌, ◌≡◌, List, [], ◌∷◌, ◌++◌, length, get_or, take, drop, replicate}
use Rattle.distances.specs.View.{NONE}
use Rattle.protocol.specs.Net.{Network, PlanInRange, fresh}
use Rattle.protocol.specs.Calls as calls
use Rattle.protocol.specs.Ports.{crosses, hop}
use Rattle.protocol.specs.Demand2.{ForwardsBy}
use Rattle.text.specs.Decimal.{decimal, value_from}
use Rattle.runner.specs.Plans.{first_runner, first_buffers, prints}
use Rattle.runner.specs.Buffers.{Buffers}
use Rattle.runner.specs.Steps.{with_bridges, with_link, with_view}
use Rattle.runner.specs.declared.Runner.{Runner}
use Rattle.runner.specs.Fills.{buffers_with_out, fields_at_once, fill_of, prints_after, prints_filled}
use Rattle.runner.specs.Program.{nothing_set_up, reading, PlanEvent, read_from, read_plan, output}
use Rattle.runner.specs.Whole.{calls_in}

-- the sample plan (plans/cases/sample.hex)
abbrev pub pair : List ℕ
pair = 1 ∷ 0 ∷ 1 ∷ 2 ∷ 2 ∷ 0 ∷ 2 ∷ 0 ∷ 1 ∷ 3 ∷ 0 ∷ 4 ∷ 0 ∷ 0 ∷ 0 ∷ 5 ∷ []

abbrev pub agreeing : List ℕ
agreeing = 11 ∷ 0 ∷ 1 ∷ 0 ∷ 5 ∷ 0 ∷ 2 ∷ 0 ∷ 0 ∷ 6 ∷ 0 ∷ 1 ∷ 0 ∷ 11 ∷ 0 ∷ 1 ∷ 0 ∷ []

abbrev pub plan01 : List ℕ
plan01 = pair ++ agreeing

-- `dest 0`, `0 0 -`, `1 5 -`, `dest 0`, `0 0 -`, `1 5 0`, `end 4`
abbrev pub printed01 : List ℕ
printed01 =
    100 ∷ 101 ∷ 115 ∷ 116 ∷ 32 ∷ 48 ∷ 10 ∷ 48 ∷ 32 ∷ 48 ∷ 32 ∷ 45 ∷ 10 ∷ 49 ∷ 32 ∷ 53 ∷ 32 ∷ 45 ∷ 10
    ∷ 100 ∷ 101 ∷ 115 ∷ 116 ∷ 32 ∷ 48 ∷ 10 ∷ 48 ∷ 32 ∷ 48 ∷ 32 ∷ 45 ∷ 10 ∷ 49 ∷ 32 ∷ 53 ∷ 32 ∷ 48 ∷ 10
    ∷ 101 ∷ 110 ∷ 100 ∷ 32 ∷ 52 ∷ 10
    ∷ []

-- a cut of link 9 at bridge 0, where there is one link, and a broken field behind it: `refused 10 at 16`; the empty plan: `refused 4 at 0`
abbrev pub plan_cut : List ℕ
plan_cut = pair ++ (9 ∷ 0 ∷ 2 ∷ 0 ∷ 9 ∷ 255 ∷ [])

abbrev pub printed_cut : List ℕ
printed_cut = 114 ∷ 101 ∷ 102 ∷ 117 ∷ 115 ∷ 101 ∷ 100 ∷ 32 ∷ 49 ∷ 48 ∷ 32 ∷ 97 ∷ 116 ∷ 32 ∷ 49 ∷ 54 ∷ 10 ∷ []

abbrev pub printed_none : List ℕ
printed_none = 114 ∷ 101 ∷ 102 ∷ 117 ∷ 115 ∷ 101 ∷ 100 ∷ 32 ∷ 52 ∷ 32 ∷ 97 ∷ 116 ∷ 32 ∷ 48 ∷ 10 ∷ []

-- E3 as a plan: the triangle with view 0, two rounds, a report of destination 0
abbrev pub round : List ℕ
round =
    5 ∷ 0 ∷ 2 ∷ 0 ∷ 0 ∷ 5 ∷ 0 ∷ 2 ∷ 0 ∷ 2 ∷ 5 ∷ 0 ∷ 2 ∷ 1 ∷ 0 ∷ 5 ∷ 0 ∷ 2 ∷ 1 ∷ 1 ∷ 5 ∷ 0 ∷ 2 ∷ 2 ∷ 1 ∷ 5 ∷ 0 ∷ 2 ∷ 2 ∷ 2
    ∷ 6 ∷ 0 ∷ 1 ∷ 0 ∷ 6 ∷ 0 ∷ 1 ∷ 0 ∷ 6 ∷ 0 ∷ 1 ∷ 0 ∷ 6 ∷ 0 ∷ 1 ∷ 0 ∷ 6 ∷ 0 ∷ 1 ∷ 0 ∷ 6 ∷ 0 ∷ 1 ∷ 0
    ∷ []

abbrev pub plan_e3 : List ℕ
plan_e3 =
    (1 ∷ 0 ∷ 1 ∷ 3 ∷ 2 ∷ 0 ∷ 2 ∷ 0 ∷ 1 ∷ 2 ∷ 0 ∷ 2 ∷ 1 ∷ 2 ∷ 2 ∷ 0 ∷ 2 ∷ 0 ∷ 2 ∷ 3 ∷ 0 ∷ 12 ∷ 0 ∷ 0 ∷ 0 ∷ 1 ∷ 0 ∷ 0 ∷ 0 ∷ 1 ∷ 0 ∷ 0 ∷ 0 ∷ 3 ∷ [])
    ++ (round ++ (round ++ (11 ∷ 0 ∷ 1 ∷ 0 ∷ [])))

-- `dest 0`, `0 0 -`, `1 1 0`, `2 2 1`, `end 25`
abbrev pub printed_e3 : List ℕ
printed_e3 =
    100 ∷ 101 ∷ 115 ∷ 116 ∷ 32 ∷ 48 ∷ 10 ∷ 48 ∷ 32 ∷ 48 ∷ 32 ∷ 45 ∷ 10 ∷ 49 ∷ 32 ∷ 49 ∷ 32 ∷ 48 ∷ 10 ∷ 50 ∷ 32 ∷ 50 ∷ 32 ∷ 49 ∷ 10
    ∷ 101 ∷ 110 ∷ 100 ∷ 32 ∷ 50 ∷ 53 ∷ 10
    ∷ []

-- its events before the report, and the network of which the report tells
abbrev pub rounds : List PlanEvent
rounds = take 24 (read_plan plan_e3).events

abbrev pub reported : Network
reported = calls.run (fresh (read_plan plan_e3).setup) (calls_in rounds)

-- a plan filled and printed by 600 bytes that held something else
abbrev pub printed_by : List ℕ → List ℕ
printed_by plan = prints_filled (suc (length plan)) first_runner (buffers_with_out (replicate 600 7) first_buffers) plan

-- behind the first event of the sample plan, with 700 bytes to fill, and the bytes of the plan that are left
abbrev pub behind_first : Runner
behind_first =
    record { bench = with_view (with_link (with_bridges first_runner.bench 2) 0 1); stage = 3; events = 1; offset = 20 }

abbrev pub lent_bytes : Buffers
lent_bytes = buffers_with_out (replicate 700 7) first_buffers

abbrev pub rest : List ℕ
rest = drop 20 plan01

pub record WorkedProgram : Type 0 where
  -- with fuel for 99 fields the same is read
  pub reading : read_from 99 (reading 0 nothing_set_up 0) plan01 ≡ read_plan plan01
  -- the next filling has a list of three events, and what is printed from there on is what it prints and what is printed after it
  pub filling : fields_at_once behind_first lent_bytes rest ≡ 3
  pub fills : prints 14 behind_first lent_bytes rest ≡ prints_after (fill_of behind_first lent_bytes rest) rest
  -- what is filled and printed
  pub filled : printed_by plan01 ≡ printed01
  pub filled_cut : printed_by plan_cut ≡ printed_cut
  pub filled_none : printed_by [] ≡ printed_none
  -- E3's report: what was set up is in the ranges; bridge 2 forwards on link 1, as the report says, by the conditions of demand 2; its frame goes to
  -- bridge 1, and so none of bridge 1 goes to bridge 2
  pub in_range : PlanInRange (read_plan plan_e3).setup
  pub rule : (e : ℕ) × ForwardsBy reported 2 0 1 e
  pub no_ring : (l : ℕ) → hop reported 0 1 ≡ crosses l 2 → ⊥
  pub printed : output plan_e3 ≡ printed_e3
  -- decimal: the greatest number stands for itself; 0 is one byte; the digits of 10
  pub value : value_from 0 (decimal NONE) ≡ NONE
  pub zero : decimal 0 ≡ 48 ∷ []
  pub digit : (48 ≤ get_or (decimal 10) 1 0) × (get_or (decimal 10) 1 0 ≤ 57)
  pub first : 48 < get_or (decimal 10) 0 0
