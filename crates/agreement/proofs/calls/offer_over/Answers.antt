use borrow.Author.Rules.{rules}
use Rattle.agreement.specs.Call.{lent}
use Rattle.agreement.specs.Ends.{seen}
use Rattle.agreement.proofs.BetweenLaws.{offer-seen}
use Rattle.agreement.proofs.calls.offer_over.Goals as goal

pub returns : goal.returns
returns c = offer-seen (lent c.args.view.now) c.args.end c.args.dest _ (seen c.across.result) c.across.ensures c.offer_at.ensures (search rules)
