-- The rows are lowered and renewed as the protocol says. Assumes nothing.
use borrow.Author.Rules.{rules}
use mathlib.Core.Path.{sym}
use Rattle.agreement.specs.Ends.{seen}
use Rattle.agreement.proofs.LimitLaws.{row-lowered, row-updated}
use Rattle.agreement.proofs.BetweenLaws.{update-between-accepted}
use Rattle.agreement.proofs.between.update_between.Goals as goal

pub returns-clause-outcome : goal.returns-clause-outcome
returns-clause-outcome c =
    let a = c.args in
    rw (
      c.update.ensures,
      c.rewrite.ensures.sent_after,
      c.rewrite.ensures.held_after,
      c.renew_if-held_how.ensures,
      row-lowered,
      row-updated a.to a.end_record.now,
    )
    (sym (update-between-accepted (seen a.across.now) a.end a.limits.now.sent.now a.limits.now.held.now a.views a.to a.end_record.now (search rules)))
