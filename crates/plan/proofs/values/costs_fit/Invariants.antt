-- `ok` says whether every cost below `l` fits.
use Rattle.std.proofs.Common.{◌≡◌}
use Rattle.plan.specs.Reading.{costs_fit}
use Rattle.plan.proofs.values.costs_fit.Given as goal

abbrev pub invariant-loop-l : goal.invariant-loop-l
invariant-loop-l l = l.ok ≡ costs_fit l.rest l.l
