-- The counts of what the entry checks let pass, one by one. Assumes nothing.
use Prim.Native.Nat.{ℕ, ◌≤◌}
use mathlib.Core.Path.{◌≡◌}
use mathlib.Core.Bool.{true}
use mathlib.Core.List.{List}
use Rattle.bench.specs.Ranges.{graph_in_range, bench_in_range, parts_in_range}
use Rattle.bench.specs.declared.Bench.{Bench}
use Rattle.bench.proofs.EntryChecks.{graph-counted, bench-counted}
use Rattle.bench.proofs.QueueRanges.{bench-told, network-bench}

pub graph_bridges : (b : Bench) → graph_in_range b ≡ true → b.bridges ≤ 16
graph_bridges b ok = (graph-counted b ok).bridges

pub graph_views : (b : Bench) → graph_in_range b ≡ true → b.views ≤ 32
graph_views b ok = (graph-counted b ok).views

pub bench_views : (b : Bench) → bench_in_range b ≡ true → b.views ≤ 32
bench_views b ok = (bench-counted b ok).views

pub parts_messages : (b : Bench) (costs : List ℕ) (sent held : ℕ) → parts_in_range b costs sent held ≡ true → b.messages ≤ 64
parts_messages b costs sent held ok = (bench-told b (network-bench b costs sent held ok)).messages
