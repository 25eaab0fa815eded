-- What is read at the head of the bytes that are left (docs/PROTOCOL.md, "What is refused"). Assumes nothing.
use Rattle.std.specs.Prelude.{ℕ, zero, suc, ◌+◌, ◌*◌, Bool, true, cond, ◌&&◌, not, List, [], ◌∷◌, length, set, eqb, leb, ltb, Option, Some, None, Result, Ok, Err}
use Rattle.distances.specs.View.{max_cost}
use Rattle.distances.specs.Refusal.{Check, check, refusal, number}
use Rattle.distances.specs.declared.refusals.Refusal.{Refusal}
use Rattle.plan.specs.Sizes.{least_bridges, most_bridges, most_links, most_views, header_bytes, cost_bytes}
use Rattle.plan.specs.Tags.{known, in_order, right_length}
use Rattle.plan.specs.Fields.{value, tag, value_length, size, cost_in, field_of}
use Rattle.plan.specs.declared.Progress.{Progress}
use Rattle.plan.specs.declared.Field.{Field as PlanField}

-- what is read: a field and the bytes that it takes, or that the plan ends here, with the number of its refusal, 0 for its proper end
pub data Read : Type 0 where
  Field : PlanField → ℕ → Read
  Stop : ℕ → Read

-- what the call answers, as that
abbrev pub reading : Result (Option (PlanField × ℕ)) Refusal → Read
reading (Ok (Some x)) = Read.Field x.0 x.1
reading (Ok None) = Read.Stop 0
reading (Err r) = Read.Stop (number r)

-- the number of its refusal
abbrev pub stop_number : Read → ℕ
stop_number (Read.Stop number) = number
stop_number (Read.Field f used) = 0

-- the header's checks, in the order of the table of refusals
unfoldable pub header_checks : List ℕ → Progress → List Check
header_checks rest p =
    check (ltb (length rest) header_bytes) 1
    ∷ check (not (known (tag rest))) 2
    ∷ check (not (in_order (tag rest) p.stage)) 4
    ∷ check (not (right_length (tag rest) p.links (value_length rest))) 3
    ∷ check (ltb (length rest) (size rest)) 1
    ∷ []

-- every cost of the first k links is at most the greatest there is
unfoldable pub costs_fit : List ℕ → ℕ → Bool
costs_fit rest zero = true
costs_fit rest (suc l) = costs_fit rest l && leb (cost_in rest l) max_cost

-- the tag's own
unfoldable pub bridge_checks : List ℕ → List Check
bridge_checks rest = check (not (leb least_bridges (value rest 0) && leb (value rest 0) most_bridges)) 5 ∷ []

unfoldable pub link_checks : List ℕ → Progress → List Check
link_checks rest p =
    check (leb most_links p.links) 6
    ∷ check
    (not (ltb (value rest 0) p.bridges && (ltb (value rest 1) p.bridges && not (eqb (value rest 0) (value rest 1)))))
    7
    ∷ []

unfoldable pub view_checks : List ℕ → Progress → List Check
view_checks rest p = check (leb most_views p.views) 8 ∷ check (not (costs_fit rest p.links)) 9 ∷ []

unfoldable pub value_checks : List ℕ → Progress → List Check
value_checks rest p =
    cond (eqb (tag rest) 1) (bridge_checks rest)
    (cond (eqb (tag rest) 2) (link_checks rest p) (cond (eqb (tag rest) 3) (view_checks rest p) []))

-- the first check that applies, of the header's and then of the tag's own
unfoldable pub field_refusal : List ℕ → Progress → ℕ
field_refusal rest p = cond (eqb (refusal (header_checks rest p)) 0) (refusal (value_checks rest p)) (refusal (header_checks rest p))

-- nothing left: the plan's end, 4 without a view; else the field, or its refusal
unfoldable pub read_of : List ℕ → Progress → Read
read_of rest p =
    cond (eqb (length rest) 0) (Read.Stop (cond (eqb p.views 0) 4 0))
    (cond (eqb (field_refusal rest p) 0) (Read.Field (field_of rest) (size rest)) (Read.Stop (field_refusal rest p)))

-- 2 to 16 bridges, and up to 32 links
unfoldable pub graph_counted : Progress → Bool
graph_counted p = leb least_bridges p.bridges && (leb p.bridges most_bridges && leb p.links most_links)

-- a plan can have come so far: at stage 0 there are no bridges, links or views; at stage 1 there are 2 to 16 bridges, up to 32 links and no view;
-- at stages 2 and 3 there are 2 to 16 bridges, up to 32 links and 1 to 32 views
unfoldable pub progress_in_range : Progress → Bool
progress_in_range p =
    cond (eqb p.stage 0) (eqb p.bridges 0 && (eqb p.links 0 && eqb p.views 0))
    (cond (eqb p.stage 1) (graph_counted p && eqb p.views 0)
    (leb p.stage 3 && (graph_counted p && (leb 1 p.views && leb p.views most_views))))

-- for any progress handed in: 17 where no plan can have come so far
unfoldable pub read_reply : List ℕ → Progress → Read
read_reply rest p = cond (progress_in_range p) (read_of rest p) (Read.Stop 17)

-- a view's costs into a row: the first k numbers
unfoldable pub with_costs : List ℕ → ℕ → List ℕ → List ℕ
with_costs rest zero row = row
with_costs rest (suc l) row = set (with_costs rest l row) l (cost_in rest l)

-- the checks of a view's costs, for a row of so many numbers: 17 at the entry, then the bytes of header and value, then each cost
unfoldable pub costs_checks : List ℕ → ℕ → ℕ → List Check
costs_checks rest links room =
    check (ltb most_links links) 17
    ∷ check (ltb room most_links) 17
    ∷ check (ltb (length rest) (header_bytes + cost_bytes * links)) 1
    ∷ check (not (costs_fit rest links)) 9
    ∷ []

-- the number of the refusal, 0 where nothing is refused, and the lent row
pub record Stored : Type 0 where
  pub number : ℕ
  pub row : List ℕ

abbrev pub stored : ℕ → List ℕ → Stored
stored number row = record { number = number; row = row }

-- the first check that applies, and the row as it was; else the row with the costs
unfoldable pub costs_reply : List ℕ → ℕ → List ℕ → Stored
costs_reply rest links row =
    let n : ℕ = refusal (costs_checks rest links (length row)) in
    cond (eqb n 0) (stored 0 (with_costs rest links row)) (stored n row)
