-- `network::bench_net_restore` meets its contract, where the numbers hold a bench and where they do not.
use Rattle.std.proofs.Common.{rules}
use Rattle.exports_network.specs.Network.{holds_bench}
use Rattle.exports_network.proofs.Frame.{either_way}
use Rattle.exports_network.proofs.network.bench_net_restore.Goals as goal

pub returns : goal.returns
returns c = either_way (holds_bench c.args.bench.now) c.changed.ensures (λ t p. search rules) (λ f q. search rules)
