-- `refusals::switch` meets its contract. Each return cites the tests that led to it. Assumes nothing.
use mathlib.Core.Path.{sym, ◌∙◌}
use Rattle.distances.proofs.Checks.{First.none, First.here, First.next, first}
use Rattle.protocol.specs.Calls.{already}
use Rattle.bench.proofs.Switches.{as-flag, switch-refuses}
use Rattle.bench.proofs.refusals.switch.Goals as goal

pub returns-then-bench-end-clause-number : goal.returns-then-bench-end-clause-number
unfolding already
returns-then-bench-end-clause-number c =
    switch-refuses _ _ _ c.args.down (first (here (rw c.in_ok-end.ensures.end.is at (sym (as-flag _ _) ∙ c.if-bench-end.true))) ∙ c.in_ok-end.ensures.first _)

pub returns-clause-number : goal.returns-clause-number
unfolding already
returns-clause-number c =
    switch-refuses _ _ _ c.args.down (first (next (rw c.in_ok-end.ensures.end.is at (sym (as-flag _ _) ∙ c.if-bench-end.false)) none) ∙ c.in_ok-end.ensures.first _)
