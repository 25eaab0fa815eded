-- On a checked view it is the call by what is seen from the end. Assumes nothing.
use mathlib.Core.Path.{sym, ◌∙◌}
use borrow.Author.Rules.{rules}
use Rattle.agreement.specs.Call.{lent}
use Rattle.agreement.proofs.BetweenLaws.{update-between}
use Rattle.agreement.proofs.calls.update_end.Goals as goal

pub returns-clause-outcome : goal.returns-clause-outcome
returns-clause-outcome c = c.update_between.ensures.outcome ∙ rw c.across.ensures (sym (update-between (lent c.args.view.now) _ _ _ _ _ _ (search rules)))
