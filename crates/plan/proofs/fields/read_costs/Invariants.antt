-- The row has the costs below `l`.
use Rattle.std.proofs.Common.{◌≡◌}
use Rattle.plan.specs.Reading.{with_costs}
use Rattle.plan.proofs.fields.read_costs.Given as goal

abbrev pub invariant-loop-l : goal.invariant-loop-l
invariant-loop-l l = l.row ≡ with_costs l.rest l.l l.initial.row
