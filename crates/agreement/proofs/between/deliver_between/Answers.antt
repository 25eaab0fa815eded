-- The rows are renewed as the protocol says. Assumes nothing.
use borrow.Author.Rules.{rules}
use mathlib.Core.Path.{sym}
use Rattle.agreement.specs.Ends.{seen}
use Rattle.agreement.proofs.LimitLaws.{row-cleared, row-adopted}
use Rattle.agreement.proofs.BetweenLaws.{deliver-between-accepted}
use Rattle.agreement.proofs.between.deliver_between.Goals as goal

pub returns-clause-outcome : goal.returns-clause-outcome
returns-clause-outcome c =
    let a = c.args in
    rw (
      c.take.ensures,
      c.answer-answer.ensures,
      c.rewrite.ensures.sent_after,
      c.rewrite.ensures.held_after,
      c.renew_if-sent_how.ensures,
      c.is_clearing.ensures,
      c.renew_if-held_how.ensures,
      c.is_adopting.ensures,
      row-cleared a.number a.end_record.now a.message,
      row-adopted a.at a.end_record.now a.message,
    )
    (sym (deliver-between-accepted (seen a.across.now) a.end a.limits.now.sent.now a.limits.now.held.now a.views a.at a.end_record.now a.number a.message (search rules)))
