-- What every call on a network replies and leaves, for every input. Assumes nothing.
use Rattle.std.specs.Prelude.{ℕ, zero, suc, ◌≡◌, Bool, false, cond, ◌&&◌, not, List, [], ◌∷◌, ◌++◌, length, drop, replicate, eqb, leb}
use Rattle.agreement.specs.Call.{Response, says}
use Rattle.agreement.specs.Record.{fresh_record}
use Rattle.encoding.specs.Numbers.{link_number}
use Rattle.protocol.specs.Net.{Network, fresh}
use Rattle.protocol.specs.Calls.{Call, change, update, cut, restore, send, deliver, repeat, lose, port, verdict, report, path, refusal, checks}
use Rattle.protocol.specs.Ports.{own_distance, forwarding_port}
use Rattle.protocol.specs.Paths as paths
use Rattle.bench.specs.State.{State, state, network}
use Rattle.bench.specs.Ranges.{graph_in_range, bench_in_range, costs_in_range, limits_long, messages_in_range, network_in_range, state_in_range}
use Rattle.bench.specs.Standing.{standing, step_in}
use Rattle.bench.specs.declared.Bench.{Bench}
use Rattle.bench.specs.declared.Path.{Path}

-- ---- replies: the number of a refusal, and the value where the call is accepted

abbrev pub refused_by : {A : Type 0} → ℕ → Response A
refused_by k = record { number = k; value = [] }

-- a path that is found, in the protocol's words
abbrev pub path_told : Path → paths.PathResult
path_told (Path.Delivered h) = paths.delivered h
path_told (Path.Stops last h) = paths.stops last h

-- ---- every call but `fresh`

-- what a call is handed, in range
unfoldable pub ready_for : State → Call → Bool
ready_for s (change (update b t)) = network_in_range s
ready_for s (change (cut b l)) = bench_in_range s.bench
ready_for s (change (restore b l)) = bench_in_range s.bench
ready_for s (send b l) = bench_in_range s.bench && messages_in_range s.bench s.messages
ready_for s (deliver p) = state_in_range s
ready_for s (repeat p) = state_in_range s
ready_for s (lose p) = bench_in_range s.bench && messages_in_range s.bench s.messages
ready_for s (port b d) = network_in_range s
ready_for s (verdict b d) = network_in_range s
ready_for s (report d) = network_in_range s
ready_for s (path b d) = network_in_range s

-- 17 first, then the table's checks of the call
unfoldable pub refusal_of : Bool → Network → Call → ℕ
refusal_of ready n c = refusal (record { when = not ready; number = 17 } ∷ checks n c)

-- what is done, or what a refusal by this number leaves
abbrev pub or_refused : {A : Type 0} → ℕ → (ℕ → A) → A → A
or_refused k refused done = cond (eqb k 0) done (refused k)

-- the reply: 17 where what the call is handed is out of range, else its number in the table of refusals on the network, else its value there
unfoldable pub reply_to : {A : Type 0} → Bool → Network → Call → A → Response A
reply_to ready n c value = or_refused (refusal_of ready n c) refused_by (says value)

-- the state afterwards: out of range, nothing is changed
unfoldable pub left_by : State → Call → State
left_by s c = cond (ready_for s c) (step_in s c) s

-- a reply, and the state afterwards
pub record Outcome (A : Type 0) : Type 0 where
  pub reply : Response A
  pub state : State

abbrev pub outcome : {A : Type 0} → Response A → State → Outcome A
outcome reply s = record { reply = reply; state = s }

-- call c in state s, with the value that the network has for it
unfoldable pub outcome_of : {A : Type 0} → State → Call → (Network → A) → Outcome A
outcome_of s c value = outcome (reply_to (ready_for s c) (network s) c (value (network s))) (left_by s c)

-- a refused call changes nothing: the network that makes no step stands in s as it is
abbrev pub RefusedChangesNothing : Type 0
RefusedChangesNothing = (s : State) (c : Call) → (refusal_of (ready_for s c) (network s) c ≡ 0 → ⊥) → left_by s c ≡ s

-- and asking changes nothing
abbrev pub AskingChangesNothing : Type 0
AskingChangesNothing =
    (s : State) (b d : ℕ) →
    (left_by s (port b d) ≡ s) × (left_by s (verdict b d) ≡ s) × (left_by s (report d) ≡ s) × (left_by s (path b d) ≡ s)

-- ---- a report's rows, a path's numbers

-- 0, 0 and the hops where the frame is delivered; 1, the last bridge and the hops where it stops
abbrev pub path_numbers : paths.PathResult → List ℕ
path_numbers (paths.delivered h) = 0 ∷ 0 ∷ h ∷ []
path_numbers (paths.stops b h) = 1 ∷ b ∷ h ∷ []

-- for each bridge below k its distance to d in its own view and its link, NONE for no port
unfoldable pub report_numbers : Network → ℕ → ℕ → List ℕ
report_numbers n d zero = []
report_numbers n d (suc y) = report_numbers n d y ++ (own_distance n y d ∷ link_number (forwarding_port n y d) ∷ [])

-- the reply, and the lent rows
pub record ReportOutcome : Type 0 where
  pub reply : Response (Unit {0})
  pub rows : List ℕ

abbrev pub report_outcome : Response (Unit {0}) → List ℕ → ReportOutcome
report_outcome reply rows = record { reply = reply; rows = rows }

-- the report of destination d into rows for 16 bridges: those that there are at the head, and every other number as it was
unfoldable pub report_of : State → ℕ → List ℕ → ReportOutcome
report_of s d rows =
    let ready : Bool = ready_for s (report d) && leb 32 (length rows) in
    let numbers : List ℕ = report_numbers (network s) d s.bench.bridges in
    report_outcome (reply_to ready (network s) (report d) tt)
    (or_refused (refusal_of ready (network s) (report d)) (λ k. rows) (numbers ++ drop (length numbers) rows))

-- ---- `fresh`

-- what `fresh` reads, in range: the counts of bridges, links and views, the ends, the costs; and the limits' lengths
abbrev pub plan_ready : State → Bool
plan_ready s = graph_in_range s.bench && (costs_in_range s.bench s.costs && limits_long (length s.sent) (length s.held))

-- all else of the bench starts anew, also past the counts
abbrev pub blank : Bench → Bench
blank b =
    record {
      bridges = b.bridges;
      links = b.links;
      views = b.views;
      messages = 0;
      ends = b.ends;
      view = replicate 16 0;
      number = replicate 16 1;
      records = replicate 64 fresh_record;
      down = replicate 64 false;
    }

unfoldable pub fresh_of : State → Outcome (Unit {0})
fresh_of s =
    cond (plan_ready s)
    (outcome (says tt) (standing (fresh (network s).plan) (state (blank s.bench) s.costs s.sent s.held s.messages)))
    (outcome (refused_by 17) s)
