-- `network::bench_net_deliver` meets its contract, where the numbers hold a bench and where they do not.
use Rattle.std.proofs.Common.{rules}
use borrow.Author.Tests.{le-leb}
use Rattle.encoding.specs.Replies.{with_value}
use Rattle.exports_network.specs.Network.{holds_bench}
use Rattle.exports_network.proofs.Frame.{either_way}
use Rattle.exports_network.proofs.network.bench_net_deliver.Goals as goal

pub returns : goal.returns
unfolding with_value
returns c =
    either_way (holds_bench c.args.bench.now) c.changed.ensures
    (λ t p. rw (t, le-leb _ _ c.if-out-lt-ANSWER.false, p.3, ← p.2.bench) (search rules))
    (λ f q. search rules)
