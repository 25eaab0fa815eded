use native.Mathlib.Omega.{arith}
use mathlib.Core.Logic.{⊎_elim}
use Rattle.bench.proofs.TableSteps.{below_or}
use Rattle.bench.proofs.tables.Distances.need_all.Goals as goal

pub need-requires : goal.need-requires
need-requires c = (omega (arith, c.requires.0.few_views, c.requires.0.are_views c.loop-y.y (omega arith)), c.requires.0.costs_long, c.loop-y.invariant.tables)

pub loop-y-preserved : goal.loop-y-preserved
loop-y-preserved c =
    record {
      tables = c.need.ensures.tables;
      known = λ k low. ⊎_elim (λ less. c.need.ensures.still _ (c.loop-y.invariant.known k less)) (λ same. rw same c.need.ensures.known) (below_or k c.loop-y.y low);
    }
