-- `changes::switch_ready` meets its contract: turned down, or the end goes down or up. Assumes nothing.
use native.Mathlib.Omega.{arith}
use mathlib.Core.Path.{◌≡◌, refl, sym, ◌∙◌}
use lib.ListN.{length}
use borrow.Author.Rules.{rules}
use Rattle.protocol.specs.Calls.{change, refuse}
use Rattle.bench.specs.State.{state, network}
use Rattle.bench.specs.Private.Changes.{switch}
use Rattle.bench.proofs.EntryChecks.{bench-counted}
use Rattle.bench.proofs.OutcomeLaws.{call-done}
use Rattle.bench.proofs.Replies.{refused-outcome}
use Rattle.bench.proofs.Switches.{switch-range, switch-same}
use Rattle.bench.proofs.Stepped.{switch-is}
use Rattle.bench.proofs.changes.switch_ready.Goals as goal

pub switch-requires : goal.switch-requires
switch-requires c = let counted = bench-counted _ c.requires in (counted.bridges, counted.links)

pub returns-in_err-end : goal.returns-in_err-end
returns-in_err-end c =
    λ costs sent held messages.
    let a = c.args in
    let s = state a.bench.now costs sent held messages in
    let told =
    refused-outcome {A = Unit {0}} s (change (switch a.down a.bridge a.link)) (λ n. tt) (switch-range a.bridge a.link s a.down ∙ c.requires) c.in_err-end.field-0.0
    (c.in_err-end.ensures.number ∙ switch-same a.bridge a.link s a.down) in
    search rules

pub returns : goal.returns
returns c =
    λ costs sent held messages.
    let a = c.args in
    let s = state a.bench.now costs sent held messages in
    let at = c.in_ok-end.ensures in
    let flags : length s.bench.down ≡ 64 = search rules in
    let none : refuse (network s) (change (switch a.down a.bridge a.link)) ≡ 0 = sym (at.number ∙ switch-same a.bridge a.link s a.down) in
    rw at.end.is
    (call-done s (change (switch a.down a.bridge a.link)) (λ n. tt) (switch-range a.bridge a.link s a.down ∙ c.requires) none
    (switch-is s a.bridge a.link a.down (rw (← at.end.is) (omega arith)) none) refl)
