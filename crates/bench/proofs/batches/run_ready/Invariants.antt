-- `batches::run_ready` meets its contract: the events go on from one to the next as the definition's do. Assumes nothing.
use mathlib.Core.Path.{◌≡◌}
use mathlib.Core.Bool.{true}
use lib.ListN.{length}
use Rattle.bench.specs.State.{state_of, SameReferences}
use Rattle.bench.specs.Ranges.{state_in_range}
use Rattle.bench.specs.Batches.{batch_from}
use Rattle.bench.specs.Private.Steps.{IsPrepared}
use Rattle.bench.proofs.BatchLoop.{Underway}
use Rattle.bench.proofs.batches.run_ready.Given as goal

abbrev pub invariant-loop-made : goal.invariant-loop-made
invariant-loop-made l =
    record {
      underway :
          Underway (batch_from (length l.initial.answers) (state_of l.initial.net l.initial.flight) l.events) l.events l.initial.answers (state_of l.net l.flight)
          l.made l.answered l.answers;
      in_range : state_in_range (state_of l.net l.flight) ≡ true;
      prepared : IsPrepared l.net.bench.now l.net.costs.now l.prepared;
      references : SameReferences l.initial.net l.net;
    }
