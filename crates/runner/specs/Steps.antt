-- One step of a plan: a field read and carried out, for every input. Assumes nothing.
use Rattle.std.specs.Prelude.{ℕ, ◌+◌, ◌*◌, ◌≤◌, ◌<◌, Bool, true, false, cond, ◌&&◌, Option, None, Some, is_none, Result, List, [], ◌++◌, length, set, take, drop, eqb, leb}
use Rattle.distances.specs.View.{max_cost}
use Rattle.distances.specs.Call.{graph_passes}
use Rattle.distances.specs.Refusal.{reply_number}
use Rattle.distances.specs.declared.refusals.Refusal.{Refusal}
use Rattle.bench.specs.State.{State, state, part}
use Rattle.bench.specs.Batches.{reply_of}
use Rattle.agreement.specs.Call.{says}
use Rattle.bench.specs.Outcomes.{Outcome, outcome, fresh_of}
use Rattle.bench.specs.declared.Bench.{Bench}
use Rattle.plan.specs.Sizes.{most_links, most_views, header_bytes, cost_bytes}
use Rattle.plan.specs.Fields.{cost_in}
use Rattle.plan.specs.Reading.{Read, read_reply, costs_reply}
use Rattle.bench.specs.declared.Event.{Event}
use Rattle.plan.specs.declared.Field.{Field}
use Rattle.text.specs.Lines.{refused_text}
use Rattle.runner.specs.Buffers.{Buffers, buffers, buffers_of, buffers_long, state_on, buffers_with, progress_of}
use Rattle.runner.specs.Events.{text_of, state_after}
-- the plan's last line
unfoldable pub use Rattle.runner.specs.Program.{last_text}
use Rattle.runner.specs.declared.Memory.{Memory}
use Rattle.runner.specs.declared.Runner.{Runner}
use Rattle.runner.specs.declared.StepResult.{StepResult}
use Rattle.runner.specs.Sizes.{longest_plan}

-- after a step: its number in the table of refusals, whether the plan goes on, the bytes used and those to be printed, the runner and the buffers
pub record StepOutcome : Type 0 where
  pub reply : ℕ
  pub going : Bool
  pub used : ℕ
  pub written : ℕ
  pub runner : Runner
  pub buffers : Buffers

abbrev pub step_outcome : ℕ → Bool → ℕ → ℕ → Runner → Buffers → StepOutcome
step_outcome reply going used written runner k =
    record { reply = reply; going = going; used = used; written = written; runner = runner; buffers = k }

-- the number of an end in the table of refusals, 0 for the proper end; 0 too of a plan that goes on
abbrev pub number_of : Option (Result (Unit {0}) Refusal) → ℕ
number_of None = 0
number_of (Some end) = reply_number end

-- what a call replied, and the runner and what is lent as it left them
abbrev pub outcome_of : StepResult → Runner → Memory → List ℕ → StepOutcome
outcome_of s r m out = step_outcome (number_of s.end) (is_none s.end) s.used s.written r (buffers_of m out)

-- of a private call to which only the bytes to be printed are lent
abbrev pub outcome_on : StepResult → Runner → List ℕ → StepOutcome
outcome_on s r out = step_outcome (number_of s.end) (is_none s.end) s.used s.written r (buffers [] [] [] [] out)

-- the plan ends here, with its last line
unfoldable pub last_step : ℕ → List ℕ → Runner → Buffers → StepOutcome
last_step reply text r k = step_outcome reply false 0 (length text) r (buffers_with (state_on r.bench k) text k)

-- the plan goes on after a setup of so many bytes
unfoldable pub setup_step : ℕ → Bench → ℕ → Runner → Buffers → StepOutcome
setup_step used b stage r k =
    step_outcome 0 true used 0 (record { bench = b; stage = stage; events = r.events; offset = r.offset + used }) k

-- the bench with a bridge count, with one more link, with one more view
abbrev pub with_bridges : Bench → ℕ → Bench
with_bridges b n =
    record {
      bridges = n;
      links = b.links;
      views = b.views;
      messages = b.messages;
      ends = b.ends;
      view = b.view;
      number = b.number;
      records = b.records;
      down = b.down;
    }

abbrev pub with_link : Bench → ℕ → ℕ → Bench
with_link b x y =
    record {
      bridges = b.bridges;
      links = b.links + 1;
      views = b.views;
      messages = b.messages;
      ends = set (set b.ends (2 * b.links) x) (2 * b.links + 1) y;
      view = b.view;
      number = b.number;
      records = b.records;
      down = b.down;
    }

abbrev pub with_view : Bench → Bench
with_view b =
    record {
      bridges = b.bridges;
      links = b.links;
      views = b.views + 1;
      messages = b.messages;
      ends = b.ends;
      view = b.view;
      number = b.number;
      records = b.records;
      down = b.down;
    }

-- a view's costs in its row
unfoldable pub with_row : List ℕ → Bench → List ℕ → List ℕ
with_row rest b costs =
    take (32 * b.views) costs
    ++ ((costs_reply rest b.links (part 32 b.views costs)).row ++ drop 32 (drop (32 * b.views) costs))

-- "A fresh network": it is made with the first view, which is all that it needs
unfoldable pub fresh_with_view : State → Outcome (Unit {0})
fresh_with_view s = cond (eqb s.bench.views 1) (fresh_of s) (outcome (says tt) s)

-- a view of so many bytes, which b and costs hold already: the plan goes on, or ends where the network cannot be made
unfoldable pub view_step : ℕ → Bench → List ℕ → Runner → Buffers → StepOutcome
view_step used b costs r k =
    let o : Outcome (Unit {0}) = fresh_with_view (state b costs k.sent k.held k.messages) in
    cond (eqb o.reply.number 0)
    (setup_step used o.state.bench 2 r (buffers_with o.state [] k))
    (last_step o.reply.number (refused_text o.reply.number r.offset) r k)

-- an event: accepted, it is counted and printed; refused, it ends the plan and leaves runner, network and messages as they were
unfoldable pub event_step : Event → ℕ → Runner → Buffers → StepOutcome
event_step e used r k =
    let s : State = state_on r.bench k in
    let reply : ℕ = reply_of s e in
    cond (eqb reply 0)
    (step_outcome 0 true used (length (text_of s e))
    (record { bench = (state_after s e).bench; stage = 3; events = r.events + 1; offset = r.offset + used })
    (buffers_with (state_after s e) (text_of s e) k))
    (last_step reply (refused_text reply r.offset) r k)

-- the field
unfoldable pub field_step : List ℕ → Field → ℕ → Runner → Buffers → StepOutcome
field_step rest (Field.Bridges n) used r k = setup_step used (with_bridges r.bench n) 1 r k
field_step rest (Field.Link x y) used r k = setup_step used (with_link r.bench x y) 1 r k
field_step rest Field.View used r k = view_step used (with_view r.bench) (with_row rest r.bench k.costs) r k
field_step rest (Field.Event e) used r k = event_step e used r k

-- what was read: a field, or the plan's end
unfoldable pub read_step : List ℕ → Read → Runner → Buffers → StepOutcome
read_step rest (Read.Field f used) r k = field_step rest f used r k
read_step rest (Read.Stop number) r k = last_step number (last_text number r.events r.offset) r k

-- counts that no plan of 61,440 bytes exceeds
unfoldable pub runner_in_range : Runner → Bool
runner_in_range r = leb r.events longest_plan && leb r.offset longest_plan

-- a step: 17 where a lent buffer is too short or the runner's counts of events and bytes are out of range, and then nothing is changed
unfoldable pub step_of : Runner → Buffers → List ℕ → StepOutcome
step_of r k rest = cond (runner_in_range r && buffers_long k) (read_step rest (read_reply rest (progress_of r)) r k) (step_outcome 17 false 0 0 r k)

-- for private functions: a further view, or the first one of a graph in range
abbrev pub may_view : Bench → Bool
may_view b = cond (eqb b.views 0) (graph_passes b.bridges b.links b.ends) true

-- what the reader has told of a view at the head of these bytes
pub record ViewFits (rest : List ℕ) (b : Bench) : Type 0 where
  pub room : b.views < most_views
  pub listed : b.links ≤ most_links
  pub whole : header_bytes + cost_bytes * b.links ≤ length rest
  pub costs : (l : ℕ) → l < b.links → cost_in rest l ≤ max_cost

-- and of any field
abbrev pub field_fits : List ℕ → Bench → Field → Type 0
field_fits rest b (Field.Bridges n) = Unit {0}
field_fits rest b (Field.Link x y) = b.links < 32
field_fits rest b Field.View = ViewFits rest b
field_fits rest b (Field.Event e) = Unit {0}
