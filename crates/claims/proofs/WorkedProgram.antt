-- What the claims of the program tell of the worked plans: each is applied, and only numbers are computed. Assumes nothing.
use Prim.Native.Nat.{ℕ, ◌≤◌, ◌<◌}
use native.Mathlib.Omega.{arith}
use mathlib.Core.Path.{◌≡◌, refl, ◌∙◌}
use mathlib.Core.Bool.{Bool, true}
use mathlib.Core.List.{List, [], ◌∷◌, ◌++◌}
use lib.ListN.{length, length-replicate}
use Rattle.std.specs.Prelude.{Some}
use Rattle.protocol.specs.Net.{fresh}
use Rattle.protocol.specs.Calls as calls
use Rattle.protocol.specs.Ports.{crosses, forwarding_port, hop}
use Rattle.protocol.specs.Rings.{Trail.stay, Trail.cross}
use Rattle.protocol.proofs.Example.{computing}
use Rattle.plan.specs.Tags.{tags, may_come, length_fits, passes, known, in_order, right_length}
use Rattle.plan.specs.Fields.{cost_in, event_by, field_of}
use Rattle.plan.specs.Reading.{header_checks, costs_fit, bridge_checks, link_checks, view_checks, value_checks, field_refusal, read_of, graph_counted, progress_in_range, read_reply}
use Rattle.plan.specs.Events.{if_event, events_at}
use Rattle.bench.specs.Batches.{answer_size}
use Rattle.text.specs.Decimal.{digits, decimal}
use Rattle.text.specs.Lines.{or_dash, row_line, row_lines, report_lines, end_text, refused_text}
use Rattle.runner.specs.Buffers.{buffers_long}
use Rattle.runner.specs.Fills.{list_fits, fields_at_once}
use Rattle.runner.specs.Program.{PlanEvent, read_on, read_from, read_plan, lines_of, last_text, carried_out, output_of, output}
use Rattle.runner.specs.Whole.{calls_in, all_accepted, lines_by, LinesHold}
use Rattle.claims.specs.Claims.{Claims}
use Rattle.claims.specs.WorkedProgram.{plan01, printed01, plan_cut, printed_cut, printed_none, plan_e3, printed_e3, rounds, reported, printed_by, behind_first, lent_bytes, rest, WorkedProgram}

-- all that computes below
unfoldable all : Bool
unfolding computing tags may_come length_fits passes known in_order right_length cost_in event_by field_of header_checks costs_fit bridge_checks link_checks view_checks value_checks field_refusal read_of digits or_dash row_line row_lines report_lines end_text refused_text read_on read_from read_plan lines_of last_text carried_out output_of output all_accepted calls_in lines_by
all = true

-- ---- what is filled

-- the program's own outputs, computed
outputs : (output plan01 ≡ printed01) × (output plan_cut ≡ printed_cut) × (output [] ≡ printed_none)
unfolding all
outputs = (refl, refl, refl)

filled : Claims → (plan : List ℕ) → length plan ≤ 61440 → printed_by plan ≡ output plan
filled claims plan few = claims.filled plan _ few (omega (arith, length-replicate {A = ℕ} 600 7))

-- ---- E3's report

-- the report comes last
last : PlanEvent
last = record { call = calls.report 0; offset = 142 }

read : ((read_plan plan_e3).events ≡ rounds ++ (last ∷ [])) × (all_accepted (fresh (read_plan plan_e3).setup) rounds ≡ true)
unfolding all last
read = (refl, refl)

line : Claims → LinesHold plan_e3 rounds (last ∷ [])
line claims = claims.lines plan_e3 (omega arith) rounds last [] read.0 read.1

-- bridge 2's port, and its frame
over : (forwarding_port reported 2 0 ≡ Some 1) × (hop reported 0 2 ≡ crosses 1 1)
unfolding all
over = (refl, refl)

behind :
    (let n = fresh (read_plan plan_e3).setup in
    lines_by n rounds ++ carried_out (calls.run n (calls_in rounds)) (length rounds) (last ∷ []) (read_plan plan_e3).end ≡ printed_e3)
unfolding all last
behind = refl

-- ---- a list of three

list-of-three : fields_at_once behind_first lent_bytes rest ≡ 3
unfolding all graph_counted progress_in_range read_reply if_event events_at answer_size buffers_long list_fits fields_at_once
list-of-three = refl

two_digits : 1 < length (decimal 10)
unfolding all
two_digits = omega arith

pub worked-program : Claims → WorkedProgram
worked-program claims =
    record {
      reading = claims.reading plan01 99 (omega arith);
      filling = list-of-three;
      fills = claims.fills behind_first lent_bytes rest;
      filled = filled claims plan01 (omega arith) ∙ outputs.0;
      filled_cut = filled claims plan_cut (omega arith) ∙ outputs.1;
      filled_none = filled claims [] (omega arith) ∙ outputs.2;
      in_range = (line claims).in_range;
      rule = (line claims).rule.forwards 2 0 1 over.0;
      no_ring = λ l e. (line claims).holds.no_ring 0 2 1 (cross over.1 (cross e stay));
      printed = (line claims).printed ∙ behind;
      value = claims.decimal.value _ (omega arith);
      zero = claims.decimal.zero;
      digit = claims.decimal.digits 10 1 two_digits;
      first = claims.decimal.first 10 (omega arith) (omega arith);
    }
