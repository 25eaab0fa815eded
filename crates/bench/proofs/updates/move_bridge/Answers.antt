-- `updates::move_bridge` meets its contract. The parts that are lent are the view's costs and distances. Assumes nothing.
use Rattle.bench.proofs.ChainSteps.{parts-in-range}
use Rattle.bench.proofs.updates.move_bridge.Goals as goal

pub move_ends-requires-clause-ends : goal.move_ends-requires-clause-ends
move_ends-requires-clause-ends c =
    parts-in-range c.args.net.now.bench.now c.args.net.now.costs.now c.args.prepared.now.distances.numbers _ c.args.view _ _ c.requires.in_range c.requires.listed.1
    c.requires.prepared.1 c.table-table.ensures
