-- `slices::bench_slice_send` meets its contract, where the numbers hold a bench and where they do not.
use Rattle.std.proofs.Common.{rules}
use borrow.Author.Tests.{le-leb}
use Rattle.exports_network.specs.Network.{holds_bench}
use Rattle.exports_network.proofs.Frame.{either_way}
use Rattle.exports_network.proofs.slices.bench_slice_send.Goals as goal

pub returns : goal.returns
returns c =
    either_way (holds_bench c.args.bench.now) c.changed-reply.ensures
    (λ t p. rw (le-leb _ _ c.if-messages-lt-MESSAGES.false, t, p.3, ← p.2.bench) (search rules))
    (λ f q. rw (le-leb _ _ c.if-messages-lt-MESSAGES.false, f, q.1) (search rules))
