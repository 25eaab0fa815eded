use borrow.Author.Rules.{rules}
use Rattle.agreement.specs.Call.{lent}
use Rattle.agreement.specs.Ends.{seen}
use Rattle.agreement.proofs.BetweenLaws.{fresh-seen}
use Rattle.agreement.proofs.calls.start_end.Goals as goal

pub returns-clause-outcome : goal.returns-clause-outcome
returns-clause-outcome c = rw (c.rewrite.ensures.sent_after, c.rewrite.ensures.held_after) (fresh-seen (lent c.args.view.now) _ (seen c.across.result) _ _ c.across.ensures (search rules))
