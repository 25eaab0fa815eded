-- `ready::messages_in_range` meets its contract. The loop's invariant: `ok` says whether every message below `place` passes. Assumes nothing.
use mathlib.Core.Path.{◌≡◌}
use Rattle.distances.specs.Call.{all_below}
use Rattle.bench.specs.Ranges.{message_in_range}
use Rattle.bench.proofs.ready.messages_in_range.Given as goal

abbrev pub invariant-loop-place : goal.invariant-loop-place
invariant-loop-place l = l.ok ≡ all_below l.place (message_in_range l.bench l.messages)
