-- What the private functions assume, and answers of theirs. Assumes nothing.
use Rattle.std.specs.Prelude.{ℕ, ◌+◌, ◌*◌, ◌/◌, ◌<◌, ◌≤◌, ◌≡◌, Bool, true, false, cond, List, ◌++◌, length, get_or, take, drop, replicate, Option, None, Some, Result, Ok, Err}
use Rattle.distances.specs.View.{max_cost, costs_of, table_numbers}
use Rattle.distances.specs.Table.{cell}
use Rattle.distances.specs.Call.{distances_of}
use Rattle.agreement.specs.Call.{ViewData, lent_graph}
use Rattle.agreement.specs.Choice.{choice_below}
use Rattle.agreement.specs.Sizes.{limit_numbers}
use Rattle.agreement.specs.declared.Choice.{Choice}
use Rattle.agreement.specs.declared.LinkEnd.{LinkEnd}
use Rattle.agreement.specs.Offer.{opposite}
use Rattle.agreement.specs.Record.{fresh_record}
use Rattle.protocol.specs.Net.{Network}
use Rattle.protocol.specs.Calls.{report, refuse}
use Rattle.protocol.specs.Ports.{Hop, stays, crosses}
use Rattle.bench.specs.Sizes.{cost_numbers}
use Rattle.bench.specs.State.{State, network, part}
use Rattle.bench.specs.Ranges.{network_in_range, state_in_range}
use Rattle.bench.specs.Standing.{step_in}
use Rattle.bench.specs.Outcomes.{refusal_of, or_refused, reply_to, report_numbers, ReportOutcome, report_outcome}
use Rattle.bench.specs.Batches.{Batch, Ending, complete, ending_of, call_of, answers_of}
use Rattle.bench.specs.Private.Views.{lent_view, distance_table}
use Rattle.bench.specs.Private.Chains.{Chained}
use Rattle.bench.specs.declared.Bench.{Bench}
use Rattle.bench.specs.declared.Disposition.{Disposition}
use Rattle.bench.specs.declared.Event.{Event}
use Rattle.bench.specs.declared.tables.Distances.{Distances}
use Rattle.bench.specs.declared.tables.Prepared.{Prepared}

-- what the entry check has told of a bench and of what is lent beside it
pub record Ready (b : Bench) (costs : List ℕ) : Type 0 where
  pub few_bridges : b.bridges ≤ 16
  pub few_links : b.links ≤ 32
  pub few_views : b.views ≤ 32
  pub are_bridges : (e : ℕ) → e < 2 * b.links → get_or b.ends e 0 < b.bridges
  pub are_views : (y : ℕ) → y < b.bridges → get_or b.view y 0 < b.views
  pub costs_long : cost_numbers ≤ length costs

-- and a call that asks for ports
pub record PortsReady (s : State) : Type 0 where
  pub in_range : network_in_range s ≡ true
  pub ready : Ready s.bench s.costs
  pub sent_long : limit_numbers ≤ length s.sent
  pub held_long : limit_numbers ≤ length s.held
  pub costs_most : (t l : ℕ) → t < s.bench.views → l < s.bench.links → get_or s.costs (32 * t + l) 0 ≤ max_cost

-- the table of a view's distances, a block of 256 for each view: layer 1's work in block t
unfoldable pub filled_view : ℕ → ℕ → List ℕ → List ℕ → ℕ → List ℕ → List ℕ
filled_view bridges links places costs t tables =
    take (table_numbers * t) tables
    ++ ((distances_of bridges links places (part 32 t costs) (part table_numbers t tables)).table ++ drop table_numbers (drop (table_numbers * t) tables))

-- block t holds the view's distances
abbrev pub IsFilled : Bench → List ℕ → List ℕ → ℕ → Type 0
IsFilled b costs tables t = part table_numbers t tables ≡ distance_table b.bridges b.links b.ends costs t

-- and so do those of the views that the bridges are on
abbrev pub AllFilled : Bench → List ℕ → List ℕ → Type 0
AllFilled b costs tables = (y : ℕ) → y < b.bridges → IsFilled b costs tables (get_or b.view y 0)

-- the tables of a call or of a list of calls: the blocks of the views that are known are filled, the others hold nothing yet
pub record TablesOf (bridges links : ℕ) (places costs tables : List ℕ) (known : List Bool) : Type 0 where
  pub long : length tables ≡ 8192
  pub flags : length known ≡ 32
  pub block : (t : ℕ) → t < 32 → part table_numbers t tables ≡ cond (get_or known t false) (distance_table bridges links places costs t) (replicate table_numbers 0)

abbrev pub Tables : Bench → List ℕ → Distances → Type 0
Tables b costs d = TablesOf b.bridges b.links b.ends costs d.numbers d.known

-- what a call or a list of calls has worked out of a bench: distances, and the ends of each bridge
pub record IsPrepared (b : Bench) (costs : List ℕ) (p : Prepared) : Type 0 where
  pub tables : Tables b costs p.distances
  pub chained : Chained b.links b.ends p.chains

-- the forwarding choice of bridge y for destination d by its ends below e, in y's view
unfoldable pub choice_in : State → ℕ → ℕ → ℕ → Choice
choice_in s d y e =
    let v : ViewData = lent_view s.bench s.costs (get_or s.bench.view y 0) in
    choice_below (lent_graph v) (costs_of v.costs) (cell v.table) (network s).records y d e

-- the choices of the bridges below n
abbrev pub AreChoices : State → ℕ → ℕ → ℕ → List Choice → Type 0
AreChoices s d e n choices = (y : ℕ) → y < n → (none : Choice) → get_or choices y none ≡ choice_in s d y e

-- where a frame goes from a bridge: the link that it crosses, and the bridge across
abbrev pub protocol_hop : Option (ℕ × ℕ) → Hop
protocol_hop None = stays
protocol_hop (Some h) = crosses h.0 h.1

-- end e as the choice looks at it, for destination d, in view t, whose distances are in block t
abbrev pub link_seen : State → List ℕ → ℕ → ℕ → ℕ → LinkEnd
link_seen s tables t e d =
    record {
      link = e / 2;
      cost = get_or s.costs (32 * t + e / 2) 0;
      far = get_or tables (256 * t + 16 * get_or s.bench.ends (opposite e) 0 + d) 0;
      down = get_or s.bench.down e false;
      holding = (get_or s.bench.records e fresh_record).holding;
      sent = get_or s.sent (16 * e + d) 0;
      held = get_or s.held (16 * e + d) 0;
    }

-- the rows of the bridges below k at the head of lent numbers
abbrev pub with_report : Network → ℕ → ℕ → List ℕ → List ℕ
with_report n d k rows = let numbers : List ℕ = report_numbers n d k in numbers ++ drop (length numbers) rows

-- a report into numbers with room for the bridges that there are
abbrev pub report_into : State → ℕ → List ℕ → ReportOutcome
report_into s d rows =
    report_outcome (reply_to (network_in_range s) (network s) (report d) tt)
    (or_refused (refusal_of (network_in_range s) (network s) (report d)) (λ k. rows)
    (with_report (network s) d s.bench.bridges rows))

-- an event of a list: how many are made, why the list ends there, how many numbers it answers with
abbrev pub made_by : Result ℕ Disposition → ℕ
made_by (Ok n) = 1
made_by (Err how) = 0

abbrev pub ended_by : Result ℕ Disposition → Ending
ended_by (Ok n) = complete
ended_by (Err how) = ending_of how

abbrev pub answered_by : Result ℕ Disposition → ℕ
answered_by (Ok n) = n
answered_by (Err how) = 0

-- an event that is made or refused, by its number k: the state that it leaves, and its answer at the head of the lent numbers
pub record Makes (s : State) (e : Event) (lent : List ℕ) (k : ℕ) (left : State) (after : List ℕ) : Type 0 where
  pub number : k ≡ refuse (network s) (call_of e)
  pub state : left ≡ step_in s (call_of e)
  pub answers : after ≡ or_refused k (λ j. lent) (answers_of (network s) e ++ drop (length (answers_of (network s) e)) lent)

-- what a list of one event leaves: the batch b, its answers at the head of the lent numbers; a state in range stays so
pub record BatchLeft (b : Batch) (answers : List ℕ) (count : ℕ) (how : Ending) (s : State) (answered : ℕ) (after : List ℕ) : Type 0 where
  pub made : count ≡ b.made
  pub ending : how ≡ b.ending
  pub state : s ≡ b.state
  pub counted : answered ≡ length b.answers
  pub rest : after ≡ b.answers ++ drop answered answers
  pub ready : state_in_range s ≡ true
