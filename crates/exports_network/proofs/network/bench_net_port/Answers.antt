-- `network::bench_net_port` meets its contract. What is refused is so by the call, or since the numbers hold no bench.
use Rattle.std.proofs.Common.{rules}
use borrow.Author.Tests.{le-leb}
use Rattle.encoding.specs.Replies.{with_value}
use Rattle.exports_network.specs.Network.{holds_bench}
use Rattle.exports_network.proofs.Frame.{either_way}
use Rattle.exports_network.proofs.network.bench_net_port.Goals as goal

pub returns-in-Err : goal.returns-in-Err
unfolding with_value
returns-in-Err c =
    either_way (holds_bench c.args.bench.now) c.in-Err.ensures
    (λ t p. rw (t, le-leb _ _ c.if-out-lt1.false, ← p.2) (search rules))
    (λ f q. search rules)
