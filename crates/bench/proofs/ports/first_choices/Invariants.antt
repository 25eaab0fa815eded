-- `ports::first_choices` meets its contract. The loop's invariant: the choices of the bridges below `y` are begun. Assumes nothing.
use mathlib.Core.Path.{◌≡◌}
use mathlib.Core.List.{[]}
use lib.ListN.{length}
use Rattle.bench.specs.State.{lent_state}
use Rattle.bench.specs.Private.Steps.{AreChoices}
use Rattle.bench.proofs.ports.first_choices.Given as goal

abbrev pub invariant-loop-y : goal.invariant-loop-y
invariant-loop-y l =
    record {
      long : length l.choices ≡ 16;
      begun : AreChoices (lent_state l.net []) l.dest 0 l.y l.choices;
    }
