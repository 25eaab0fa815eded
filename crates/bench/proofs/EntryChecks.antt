-- What a bench that passes the entry check tells of its counts. Assumes nothing.
use Prim.Native.Nat.{◌≤◌}
use mathlib.Core.Path.{◌≡◌}
use mathlib.Core.Bool.{true}
use borrow.Author.Tests.{leb-true}
use lib.Dec.{leb}
use Rattle.distances.proofs.Booleans.{both_true}
use Rattle.distances.proofs.Ranges.{counts}
use Rattle.bench.specs.Ranges.{graph_in_range, bench_in_range}
use Rattle.bench.specs.declared.Bench.{Bench}

-- the counts of a bench in range
pub record Counted (b : Bench) : Type 0 where
  pub bridges : b.bridges ≤ 16
  pub links : b.links ≤ 32
  pub views : b.views ≤ 32

module _ (b : Bench) where
  pub graph-counted : graph_in_range b ≡ true → Counted b
  unfolding graph_in_range
  graph-counted ok =
      let g = both_true (leb b.views 32) _ (both_true (leb 1 b.views) _ ok).1 in
      let h = counts _ _ _ g.1 in
      record { bridges = h.0; links = h.1; views = leb-true b.views 32 g.0 }

  pub bench-counted : bench_in_range b ≡ true → Counted b
  unfolding bench_in_range
  bench-counted ok = graph-counted (both_true (graph_in_range b) _ ok).0
