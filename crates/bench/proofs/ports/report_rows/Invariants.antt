-- `ports::report_rows` meets its contract. The loop's invariant: the rows of the bridges below `y` are written. Assumes nothing.
use Prim.Native.Nat.{ℕ}
use mathlib.Core.Path.{◌≡◌}
use mathlib.Core.List.{List}
use Rattle.bench.specs.State.{lent_state, network}
use Rattle.bench.specs.Private.Steps.{with_report}
use Rattle.bench.proofs.ports.report_rows.Given as goal

abbrev pub invariant-loop-y : goal.invariant-loop-y
invariant-loop-y l = (messages : List ℕ) → l.rows ≡ with_report (network (lent_state l.net messages)) l.dest l.y l.initial.rows
