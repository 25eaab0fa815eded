-- `slices::bench_slice_repeat` meets its contract, where the numbers hold a bench and where they do not.
use Rattle.std.proofs.Common.{rules, ◌≡◌, ◌++◌, drop}
use borrow.Author.Tests.{lt-leb, le-leb}
use lib.ListN.{take-append-drop}
use Rattle.encoding.specs.Replies.{with_value}
use Rattle.exports_network.specs.Network.{holds_bench}
use Rattle.exports_network.proofs.Frame.{either_way, in_both}
use Rattle.exports_network.proofs.slices.bench_slice_repeat.Goals as goal

pub returns-then-out-lt-ANSWER : goal.returns-then-out-lt-ANSWER
unfolding with_value
returns-then-out-lt-ANSWER c =
    in_both (holds_bench c.args.bench.now)
    (λ t. rw (le-leb _ _ c.if-messages-lt-MESSAGES.false, t, lt-leb _ _ c.if-out-lt-ANSWER.true, take-append-drop 320 c.args.messages.now) (search rules))
    (λ f. rw (le-leb _ _ c.if-messages-lt-MESSAGES.false, f, take-append-drop 320 c.args.messages.now) (search rules))

pub returns : goal.returns
unfolding with_value
returns c =
    let whole : c.part-numbers.result ++ drop 320 c.args.messages.now ≡ c.args.messages.now = rw c.part-numbers.ensures (take-append-drop 320 c.args.messages.now) in
    either_way (holds_bench c.args.bench.now) c.changed.ensures
    (λ t p. rw (le-leb _ _ c.if-messages-lt-MESSAGES.false, t, le-leb _ _ c.if-out-lt-ANSWER.false, ← c.part-numbers.ensures, p.3, ← p.2.bench) (search (rules, whole)))
    (λ f q. rw (le-leb _ _ c.if-messages-lt-MESSAGES.false, f, q.1, take-append-drop 320 c.args.messages.now) (search rules))
