-- `Distances::none` meets its contract. No view is known. Assumes nothing.
use Rattle.bench.proofs.TableSteps.{tables-none}
use Rattle.bench.proofs.tables.Distances.none.Goals as goal

pub returns : goal.returns
returns c = tables-none
