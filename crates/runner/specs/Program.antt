-- The program on one page (docs/PROTOCOL.md, "The plan file"): from the bytes of a plan to the bytes that are printed, by the protocol's networks
-- alone. A plan is read; the fresh network of what it sets up makes its events one after the other; each line tells of the network as it
-- then is, so demands 2 and 3 are about each line (`EveryLine`, specs/Whole.antt). What the code keeps in its buffers has no part in it.
-- Assumes nothing.
use Rattle.std.specs.Prelude.{ℕ, zero, suc, ◌+◌, ◌*◌, cond, ◌&&◌, List, [], ◌∷◌, ◌++◌, length, drop, eqb, ltb}
use Rattle.encoding.specs.Numbers.{link_number}
use Rattle.protocol.specs.Net.{Network, Plan, fresh}
use Rattle.protocol.specs.Calls.{Call, change, send, deliver, repeat, lose, port, verdict, report, path, refuse, accepted, step}
use Rattle.protocol.specs.Ports.{own_distance, forwarding_port}
use Rattle.protocol.specs.Paths as paths
use Rattle.bench.specs.Batches.{call_of}
use Rattle.plan.specs.Fields.{cost_in}
use Rattle.plan.specs.Reading.{Read, read_of}
use Rattle.plan.specs.declared.Field.{Field}
use Rattle.plan.specs.declared.Progress.{Progress}
use Rattle.text.specs.Lines.{report_lines, delivered_text, stops_text, end_text, refused_text}
use Rattle.runner.specs.Sizes.{longest_plan}

-- ---- a plan is read

-- what is set up: nothing; a bridge count; one link more; one view more, of which the field's bytes have a cost for each link
abbrev pub nothing_set_up : Plan
nothing_set_up = record { graph = record { bridges = 0; links = 0; bridge_at = λ e. 0 }; views = 0; costs = λ t l. 0 }

abbrev pub set_bridges : Plan → ℕ → Plan
set_bridges p n =
    record { graph = record { bridges = n; links = p.graph.links; bridge_at = p.graph.bridge_at }; views = p.views; costs = p.costs }

abbrev pub add_link : Plan → ℕ → ℕ → Plan
add_link p x y =
    let l : ℕ = p.graph.links in
    record {
      graph =
          record {
            bridges = p.graph.bridges;
            links = l + 1;
            bridge_at = λ e. cond (eqb e (2 * l)) x (cond (eqb e (2 * l + 1)) y (p.graph.bridge_at e));
          };
      views = p.views;
      costs = p.costs;
    }

abbrev pub add_view : Plan → List ℕ → Plan
add_view p field =
    record {
      graph = p.graph;
      views = p.views + 1;
      costs = λ t l. cond (eqb t p.views && ltb l p.graph.links) (cost_in field l) (p.costs t l);
    }

-- while it is read: its stage (0: nothing is read, 1: the bridge count is, 2: a view is, 3: an event is), what is set up so far, the offset
-- of the next field
pub record Reading : Type 0 where
  pub stage : ℕ
  pub setup : Plan
  pub offset : ℕ

abbrev pub reading : ℕ → Plan → ℕ → Reading
reading stage setup offset = record { stage = stage; setup = setup; offset = offset }

abbrev pub progress_in : Reading → Progress
progress_in g = record { stage = g.stage; bridges = g.setup.graph.bridges; links = g.setup.graph.links; views = g.setup.views }

-- an event: its call, and the offset of its field
pub record PlanEvent : Type 0 where
  pub call : Call
  pub offset : ℕ

-- where its reading ended, and by which number: 0 at its proper end
pub record PlanEnd : Type 0 where
  pub number : ℕ
  pub offset : ℕ

-- as it was read: what it sets up, its events in order, its end
pub record PlanRead : Type 0 where
  pub setup : Plan
  pub events : List PlanEvent
  pub end : PlanEnd

abbrev pub with_event : PlanEvent → PlanRead → PlanRead
with_event e r = record { setup = r.setup; events = e ∷ r.events; end = r.end }

abbrev pub read_to : Reading → ℕ → PlanRead
read_to g number = record { setup = g.setup; events = []; end = record { number = number; offset = g.offset } }

-- a field, and what is read behind it; "A field that cannot be read ends the plan there"
unfoldable pub read_on : (Reading → List ℕ → PlanRead) → Reading → List ℕ → Read → PlanRead
read_on on g rest (Read.Field (Field.Bridges n) used) = on (reading 1 (set_bridges g.setup n) (g.offset + used)) (drop used rest)
read_on on g rest (Read.Field (Field.Link x y) used) = on (reading 1 (add_link g.setup x y) (g.offset + used)) (drop used rest)
read_on on g rest (Read.Field Field.View used) = on (reading 2 (add_view g.setup rest) (g.offset + used)) (drop used rest)
read_on on g rest (Read.Field (Field.Event e) used) =
    with_event (record { call = call_of e; offset = g.offset }) (on (reading 3 g.setup (g.offset + used)) (drop used rest))
read_on on g rest (Read.Stop number) = read_to g number

-- field after field, with fuel for so many; a field has bytes, so that fuel for one more than there are bytes is enough: `ReadingEnds`
-- (specs/Whole.antt)
unfoldable pub read_from : ℕ → Reading → List ℕ → PlanRead
read_from zero g rest = read_to g 0
read_from (suc fuel) g rest = read_on (read_from fuel) g rest (read_of rest (progress_in g))

unfoldable pub read_plan : List ℕ → PlanRead
read_plan plan = read_from (suc (length plan)) (reading 0 nothing_set_up 0) plan

-- ---- its events are carried out

abbrev pub path_line : ℕ → ℕ → paths.PathResult → List ℕ
path_line s d (paths.delivered h) = delivered_text s d h
path_line s d (paths.stops b h) = stops_text s d b h

-- what an accepted call prints of network n; NONE is printed as `-`, and it is the number of no port
unfoldable pub lines_of : Network → Call → List ℕ
lines_of n (report d) = report_lines d n.plan.graph.bridges (λ y. own_distance n y d) (λ y. link_number (forwarding_port n y d))
lines_of n (path s d) = path_line s d (paths.path n s d)
lines_of n (port b d) = []
lines_of n (verdict b d) = []
lines_of n (change x) = []
lines_of n (send b l) = []
lines_of n (deliver p) = []
lines_of n (repeat p) = []
lines_of n (lose p) = []

-- the plan's last line, after so many events: its proper end where the number is 0, else the refusal
unfoldable pub last_text : ℕ → ℕ → ℕ → List ℕ
last_text number events offset = cond (eqb number 0) (end_text events) (refused_text number offset)

-- events, `count` having been carried out before them: each prints its lines of the network as it then is and makes its step; "A refused
-- event ends the plan too, and lines printed before it stand"
unfoldable pub carried_out : Network → ℕ → List PlanEvent → PlanEnd → List ℕ
carried_out n count [] end = last_text end.number count end.offset
carried_out n count (e ∷ es) end =
    cond (accepted n e.call) (lines_of n e.call ++ carried_out (step n e.call) (suc count) es end)
    (refused_text (refuse n e.call) e.offset)

-- ---- the whole output: 18 for a plan longer than 61,440 bytes, "nothing else printed"

unfoldable pub output_of : PlanRead → List ℕ
output_of r = carried_out (fresh r.setup) 0 r.events r.end

unfoldable pub output : List ℕ → List ℕ
output plan = cond (ltb longest_plan (length plan)) (refused_text 18 longest_plan) (output_of (read_plan plan))
