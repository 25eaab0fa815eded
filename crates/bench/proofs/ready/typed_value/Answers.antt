-- `ready::typed_value` meets its contract. Assumes nothing.
use Rattle.bench.proofs.Types.{typed-by}
use Rattle.bench.proofs.ready.typed_value.Goals as goal

pub returns : goal.returns
returns c = typed-by _ _ c.well_formed.0
