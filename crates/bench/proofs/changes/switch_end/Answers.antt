-- `changes::switch_end` meets its contract. Assumes nothing.
use mathlib.Core.Path.{sym, ◌∙◌}
use Rattle.protocol.specs.Calls.{change}
use Rattle.bench.specs.State.{state}
use Rattle.bench.specs.Private.Changes.{switch}
use Rattle.bench.proofs.OutcomeLaws.{range-refused}
use Rattle.bench.proofs.Switches.{switch-range}
use Rattle.bench.proofs.changes.switch_end.Goals as goal

pub returns-then-not-bench_in_range : goal.returns-then-not-bench_in_range
returns-then-not-bench_in_range c =
    λ costs sent held messages.
    let a = c.args in
    let s = state a.bench.now costs sent held messages in
    range-refused s (change (switch a.down a.bridge a.link)) (λ n. tt) (switch-range a.bridge a.link s a.down ∙ sym c.bench_in_range.ensures ∙ c.if-not-bench_in_range.true)
