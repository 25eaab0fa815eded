-- `Distances::need` meets its contract: the view is known, or its block is filled. Assumes nothing.
use Rattle.bench.proofs.TableSteps.{tables_more}
use Rattle.bench.proofs.tables.Distances.need.Goals as goal

pub returns-then-not-self-view-clause-tables : goal.returns-then-not-self-view-clause-tables
returns-then-not-self-view-clause-tables c =
    let p = c.requires in
    rw c.fill_view.ensures (tables_more _ _ _ _ _ _ p.2 _ p.0 c.if-not-self-view.true)
