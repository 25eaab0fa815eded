-- `records::bench_deliver_end` meets its contract: the record and the answer that the delivery leaves are stored. Assumes nothing.
use borrow.Author.Rules.{rules}
use borrow.Author.Tests.{le-leb}
use Rattle.encoding.proofs.Entry.{passed}
use Rattle.encoding.specs.Replies.{with_value}
use Rattle.exports_bridge.specs.Call.{deliver_reply}
use Rattle.exports_bridge.proofs.records.bench_deliver_end.Goals as goal

pub returns-in-Ok : goal.returns-in-Ok
unfolding deliver_reply with_value
returns-in-Ok c =
    rw (
      passed c.holds_record.ensures c.if-not-holds_record.false,
      passed c.holds_agreement.ensures c.if-not-holds_agreement.false,
      le-leb 3 _ c.if-out-lt-ANSWER.false,
      c.put_record.ensures,
      c.put_answer.ensures,
      ← c.view_of-seen.ensures,
      ← c.record_at-received.ensures,
      ← c.agreement_in-taken.ensures,
      ← c.deliver_end.ensures.outcome,
      c.in-Ok.is,
    ) (search rules)
