-- `answers::path_ready` meets its contract: nothing of the table applies, then the walk itself. Assumes nothing.
use mathlib.Core.Path.{sym, ◌∙◌}
use mathlib.Core.List.{[]}
use borrow.Author.Rules.{rules}
use Rattle.protocol.specs.Calls.{path, refuse, checks, no_such_bridge}
use Rattle.protocol.specs.Paths as paths
use Rattle.bench.specs.State.{lent_state, network}
use Rattle.bench.specs.Outcomes.{ready_for}
use Rattle.bench.specs.Private.Answers.{hop_in, verdict_in}
use Rattle.bench.specs.Private.Views.{network_of}
use Rattle.bench.proofs.AnswerRanges.{path-fits}
use Rattle.bench.proofs.ChoiceSteps.{ports-told}
use Rattle.bench.proofs.QueueRanges.{network-told}
use Rattle.bench.proofs.PathSteps.{bridges-listed}
use Rattle.bench.proofs.OutcomeLaws.{reply-done}
use Rattle.bench.proofs.Replies.{refused-reply}
use Rattle.bench.proofs.Quiet.{path-is}
use Rattle.bench.proofs.answers.path_ready.Goals as goal

pub returns-in_err-verdict-clause-reply : goal.returns-in_err-verdict-clause-reply
unfolding ready_for refuse checks no_such_bridge
returns-in_err-verdict-clause-reply c =
    λ messages.
    let a = c.args in
    let told =
    refused-reply (lent_state a.net.now messages) (path a.start a.dest) (λ n. paths.path n a.start a.dest) c.requires.in_range
    c.in_err-verdict.field-0.0 c.in_err-verdict.ensures in
    search rules

pub walk-requires-clause-ports_ready : goal.walk-requires-clause-ports_ready
walk-requires-clause-ports_ready c = ports-told _ c.requires.in_range

pub walk-requires-clause-listed : goal.walk-requires-clause-listed
unfolding refuse checks
walk-requires-clause-listed c =
    let a = c.args in
    let two = bridges-listed (network_of a.net.now.bench.now []) a.start a.dest _ (sym c.in_ok-verdict.ensures) in
    (two.0, two.1, c.requires.prepared)

pub returns-clause-reply : goal.returns-clause-reply
unfolding ready_for refuse checks no_such_bridge hop_in verdict_in
returns-clause-reply c =
    λ messages.
    let a = c.args in
    let s = lent_state a.net.now messages in
    let none = sym c.in_ok-verdict.ensures in
    let two = bridges-listed (network s) a.start a.dest _ none in
    reply-done s (path a.start a.dest) (λ n. paths.path n a.start a.dest) c.requires.in_range none
    (c.walk.ensures.path ∙ path-is s c.requires.in_range c.typed.ensures a.start a.dest two.0 two.1)

pub returns-clause-fits : goal.returns-clause-fits
unfolding refuse checks
returns-clause-fits c =
    let a = c.args in
    let two = bridges-listed (network_of a.net.now.bench.now []) a.start a.dest _ (sym c.in_ok-verdict.ensures) in
    path-fits (lent_state a.net.now []) (network-told _ _ _ _ c.requires.in_range) a.start a.dest two.0 _ c.walk.ensures.path
