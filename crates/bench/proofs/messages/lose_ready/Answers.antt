-- `messages::lose_ready` meets its contract: turned down, or one of those in flight goes. Assumes nothing.
use native.Mathlib.Omega.{arith}
use mathlib.Core.Path.{sym, ◌∙◌}
use borrow.Author.Rules.{rules}
use Rattle.protocol.specs.Calls.{lose, refuse, checks, no_message}
use Rattle.bench.specs.State.{state}
use Rattle.bench.specs.Outcomes.{ready_for}
use Rattle.bench.proofs.QueueRanges.{flight-told}
use Rattle.bench.proofs.QueueCalls.{lose-same, lose-told}
use Rattle.bench.proofs.CallOutcomes.{lose-done}
use Rattle.bench.proofs.Replies.{refused-outcome}
use Rattle.bench.proofs.messages.lose_ready.Goals as goal

pub returns-in_err-lose : goal.returns-in_err-lose
unfolding ready_for refuse checks no_message
returns-in_err-lose c =
    λ costs sent held.
    let a = c.args in
    let s = state a.bench.now costs sent held a.messages.now in
    let told =
    refused-outcome {A = Unit {0}} s (lose a.place) (λ n. tt) c.requires c.in_err-lose.field-0.0
    (c.in_err-lose.ensures ∙ lose-same a.bench.now a.messages.now a.place) in
    search rules

pub take_out-requires : goal.take_out-requires
take_out-requires c =
    let a = c.args in
    let h = flight-told _ _ c.requires in
    (lose-told a.bench.now a.messages.now a.place (sym (c.in_ok-lose.ensures ∙ lose-same a.bench.now a.messages.now a.place)), h.0.messages, h.1.long)

pub overflow_sub-bench : goal.overflow_sub-bench
overflow_sub-bench c =
    let a = c.args in
    omega (arith, lose-told a.bench.now a.messages.now a.place (sym (c.in_ok-lose.ensures ∙ lose-same a.bench.now a.messages.now a.place)))

pub returns : goal.returns
unfolding refuse checks no_message
returns c =
    λ costs sent held.
    let a = c.args in
    rw c.take_out.ensures
    (lose-done (state a.bench.now costs sent held a.messages.now) c.requires a.place (sym (c.in_ok-lose.ensures ∙ lose-same a.bench.now a.messages.now a.place)))
