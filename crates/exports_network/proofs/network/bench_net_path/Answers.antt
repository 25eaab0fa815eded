-- `network::bench_net_path` meets its contract. What is refused is so by the call, or since the numbers hold no bench.
use Rattle.std.proofs.Common.{rules, []}
use borrow.Author.Tests.{le-leb}
use Rattle.bench.specs.State.{lent_state}
use Rattle.encoding.specs.Replies.{with_value}
use Rattle.exports_network.specs.Network.{holds_bench}
use Rattle.exports_network.proofs.Frame.{either_way}
use Rattle.exports_network.proofs.Loaded.{typed-bench}
use Rattle.exports_network.proofs.PathNumbers.{fits}
use Rattle.exports_network.proofs.network.bench_net_path.Goals as goal

pub returns-in-Err : goal.returns-in-Err
unfolding with_value
returns-in-Err c =
    either_way (holds_bench c.args.bench.now) c.in-Err.ensures
    (λ t p. rw (t, le-leb _ _ c.if-out-lt-ANSWER.false, ← p.2) (search rules))
    (λ f q. search rules)

-- the numbers of an accepted path have 32 bits
pub put_path-requires : goal.put_path-requires
put_path-requires c =
    either_way (holds_bench c.args.bench.now) c.in-Ok.ensures (λ t p. fits (lent_state p.0.now []) (typed-bench p.1) c.args.start c.args.dest c.in-Ok.path (search rules)) (λ f q. search rules)
