-- `Chains::of` meets its contract. The loop's invariant: the ends from the last one taken on are chained. Assumes nothing.
use Rattle.bench.proofs.ChainLaws.{ChainedFrom}
use Rattle.bench.proofs.tables.Chains.of.Given as goal

abbrev pub invariant-loop-e : goal.invariant-loop-e
invariant-loop-e l = ChainedFrom l.bench.links l.bench.ends l.e l.first l.next
