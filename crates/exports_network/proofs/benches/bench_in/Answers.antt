-- `benches::bench_in` meets its contract. The agreement numbers are what a closure makes of a part of the numbers.
use borrow.Author.Rules.{rules}
use Prim.Native.Nat.{◌%◌}
use Rattle.exports_network.specs.Network.{bench_in}
use Rattle.exports_network.proofs.Parts.{each_is}
use Rattle.exports_network.proofs.benches.bench_in.Goals as goal

pub returns : goal.returns
unfolding bench_in
returns c =
    rw (
      c.bytes_in.ensures,
      c.bytes_in-2.ensures,
      each_is (λ x. x % 65536) 0 c.args.numbers.now c.part.result c.map.result 16 84 c.part.ensures c.map.ensures.items.long (λ i h. let r = c.map.ensures.items.at i 0 0 h in search rules),
      c.flags_in.ensures,
      c.records_in.ensures,
    )
