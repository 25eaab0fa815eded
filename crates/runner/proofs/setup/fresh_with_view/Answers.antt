-- `setup::fresh_with_view` meets its contract: fresh with the first view, else as it is; the costs are those that were lent. Assumes nothing.
use borrow.Author.Rules.{rules}
use Rattle.bench.specs.State.{state}
use Rattle.runner.proofs.ViewSteps.{opens, stays}
use Rattle.runner.proofs.setup.fresh_with_view.Goals as goal

pub returns-then-bench-eq1-clause-fresh : goal.returns-then-bench-eq1-clause-fresh
returns-then-bench-eq1-clause-fresh c =
    λ messages.
    let left = opens (state _ _ _ _ messages) c.if-bench-eq1.true c.fresh.result (c.fresh.ensures.outcome messages) (c.requires messages) in
    search rules

pub returns-else-bench-eq1-clause-fresh : goal.returns-else-bench-eq1-clause-fresh
returns-else-bench-eq1-clause-fresh c = λ messages. stays (state _ _ _ _ messages) c.if-bench-eq1.false
