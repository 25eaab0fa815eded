-- `answers::verdict` meets its contract: in range, then nothing of the table applies, then the verdict that layer 2 finds. Assumes nothing.
use mathlib.Core.Path.{sym, ◌∙◌}
use mathlib.Core.List.{[]}
use borrow.Author.Rules.{rules}
use Rattle.protocol.specs.Calls.{verdict, refuse, checks, no_such_bridge}
use Rattle.protocol.specs.Ports.{forwarding_verdict}
use Rattle.bench.specs.State.{lent_state, network}
use Rattle.bench.specs.Outcomes.{ready_for}
use Rattle.bench.specs.Private.Answers.{verdict_in}
use Rattle.bench.specs.Private.Views.{network_of}
use Rattle.bench.proofs.ChainSteps.{ends-told}
use Rattle.bench.proofs.ChoiceSteps.{ports-told}
use Rattle.bench.proofs.PathSteps.{bridges-listed}
use Rattle.bench.proofs.OutcomeLaws.{reply-out, reply-done}
use Rattle.bench.proofs.Replies.{refused-reply}
use Rattle.bench.proofs.Quiet.{verdict-is}
use Rattle.bench.proofs.answers.verdict.Goals as goal

pub returns-then-not-network_in_range : goal.returns-then-not-network_in_range
unfolding ready_for
returns-then-not-network_in_range c =
    λ messages.
    let a = c.args in
    reply-out (lent_state a.net.now messages) (verdict a.bridge a.dest) (λ n. forwarding_verdict n a.bridge a.dest)
    (sym c.network_in_range.ensures ∙ c.if-not-network_in_range.true)

pub returns-in_err-verdict : goal.returns-in_err-verdict
unfolding ready_for refuse checks no_such_bridge
returns-in_err-verdict c =
    λ messages.
    let a = c.args in
    let told =
    refused-reply (lent_state a.net.now messages) (verdict a.bridge a.dest) (λ n. forwarding_verdict n a.bridge a.dest)
    (sym c.network_in_range.ensures ∙ c.if-not-network_in_range.false) c.in_err-verdict.field-0.0 c.in_err-verdict.ensures in
    search rules

pub of-prepared-requires : goal.of-prepared-requires
of-prepared-requires c = ends-told _ _ _ _ (sym c.network_in_range.ensures ∙ c.if-not-network_in_range.false)

pub verdict_in-requires-clause-ports_ready : goal.verdict_in-requires-clause-ports_ready
verdict_in-requires-clause-ports_ready c = ports-told _ (sym c.network_in_range.ensures ∙ c.if-not-network_in_range.false)

pub verdict_in-requires-clause-listed : goal.verdict_in-requires-clause-listed
unfolding refuse checks
verdict_in-requires-clause-listed c =
    let a = c.args in
    let two = bridges-listed (network_of a.net.now.bench.now []) a.bridge a.dest _ (sym c.in_ok-verdict.ensures) in
    (two.0, two.1, record { tables = c.none-prepared.ensures c.args.net.now.bench.now c.args.net.now.costs.now; chained = c.of-prepared.ensures })

pub returns : goal.returns
unfolding ready_for refuse checks no_such_bridge verdict_in
returns c =
    λ messages.
    let a = c.args in
    let s = lent_state a.net.now messages in
    let ok = sym c.network_in_range.ensures ∙ c.if-not-network_in_range.false in
    let none = sym c.in_ok-verdict.ensures in
    let two = bridges-listed (network s) a.bridge a.dest _ none in
    reply-done s (verdict a.bridge a.dest) (λ n. forwarding_verdict n a.bridge a.dest) ok none
    (c.verdict_in.ensures.value ∙ verdict-is s ok c.typed.ensures a.bridge a.dest two.0 two.1)
