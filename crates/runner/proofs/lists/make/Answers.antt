-- `lists::make` meets its contract: the costs are those that were lent. Assumes nothing.
use borrow.Author.Rules.{rules}
use Rattle.runner.proofs.ListCosts.{with_costs}
use Rattle.runner.proofs.lists.make.Goals as goal

pub returns-clause-made : goal.returns-clause-made
returns-clause-made c = let left = with_costs _ _ _ c.run.ensures.answers_after in search rules
