-- `records::bench_offer` meets its contract: a refusal's number is the reply, and nothing is written. Assumes nothing.
use Prim.Native.Nat.{◌≤◌}
use borrow.Author.Rules.{rules}
use borrow.Author.Tests.{le-leb}
use lib.ListN.{length}
use Rattle.encoding.specs.Replies.{with_value}
use Rattle.exports_bridge.specs.Call.{offer_reply}
use Rattle.exports_bridge.proofs.records.bench_offer.Goals as goal

pub returns-in-Err : goal.returns-in-Err
unfolding offer_reply with_value
returns-in-Err c =
    let room : 1 ≤ length c.args.out.now = search rules in
    rw (le-leb 1 _ room, ← c.view_of-seen.ensures, ← c.offer_over.ensures, c.in-Err.is, c.number.ensures)
