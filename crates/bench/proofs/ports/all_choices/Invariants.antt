-- `ports::all_choices` meets its contract. The loop's invariant: each bridge's choice is that of its ends below `e`. Assumes nothing.
use mathlib.Core.Path.{◌≡◌}
use mathlib.Core.List.{[]}
use lib.ListN.{length}
use Rattle.bench.specs.State.{lent_state}
use Rattle.bench.specs.Private.Steps.{AreChoices}
use Rattle.bench.proofs.ports.all_choices.Given as goal

abbrev pub invariant-loop-e : goal.invariant-loop-e
invariant-loop-e l =
    record {
      long : length l.choices ≡ 16;
      chosen : AreChoices (lent_state l.net []) l.dest l.e l.net.bench.now.bridges l.choices;
    }
