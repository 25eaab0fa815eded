-- What the entry checks tell the calls: of a bench, of the messages beside it, and of what is lent to a delivery. Assumes nothing.
use Prim.Native.Nat.{ℕ, ◌*◌, ◌≤◌, ◌<◌}
use mathlib.Core.Path.{◌≡◌}
use mathlib.Core.Bool.{true, ◌&&◌}
use mathlib.Core.List.{List}
use borrow.Author.Tests.{leb-true, ltb-true}
use lib.ListN.{length, get_or}
use lib.Dec.{leb, ltb}
use Rattle.distances.specs.Call.{all_below}
use Rattle.distances.proofs.Booleans.{both_true}
use Rattle.distances.proofs.Ranges.{all_below-true}
use Rattle.agreement.specs.Record.{fresh_record}
use Rattle.agreement.specs.Ranges.{is_view, record_in_range}
use Rattle.agreement.proofs.InRange.{view-passes, records-told}
use Rattle.bench.specs.Ranges.{graph_in_range, bench_in_range, costs_in_range, message_in_range, messages_in_range, parts_in_range}
use Rattle.bench.specs.Private.Steps.{Ready}
use Rattle.bench.specs.declared.Bench.{Bench}
use Rattle.bench.proofs.EntryChecks.{Counted, bench-counted}
use Rattle.bench.proofs.TieRanges.{LastingOf, lasting-told, are-bridges}

-- a bench in range
pub record BenchFacts (b : Bench) : Type 0 where
  pub counted : Counted b
  pub least : 1 ≤ b.views
  pub messages : b.messages ≤ 64
  pub view : (y : ℕ) → y < b.bridges → get_or b.view y 0 < b.views
  pub records : (e : ℕ) → e < 2 * b.links → record_in_range b.views (get_or b.records e fresh_record) ≡ true

module _ (b : Bench) where
  pub bench-told : bench_in_range b ≡ true → BenchFacts b
  unfolding bench_in_range graph_in_range
  bench-told ok =
      let graph = both_true (graph_in_range b) _ ok in
      let count = both_true (leb b.messages 64) _ graph.1 in
      let views = both_true (all_below b.bridges (λ y. ltb (get_or b.view y 0) b.views)) _ count.1 in
      record {
        counted = bench-counted b ok;
        least = leb-true _ _ (both_true (leb 1 b.views) _ graph.0).0;
        messages = leb-true _ _ count.0;
        view = λ y h. ltb-true _ _ (all_below-true _ _ views.0 y h);
        records = (records-told b.views b.links b.records views.1).1;
      }

  -- a bridge's view, as layer 2 asks it
  pub view-told : BenchFacts b → (y : ℕ) → y < b.bridges → is_view b.views (get_or b.view y 0) ≡ true
  view-told told y h = view-passes _ _ told.least told.counted.views (told.view y h)

-- the messages beside a bench, in range
pub record MessagesFacts (b : Bench) (m : List ℕ) : Type 0 where
  pub long : 320 ≤ length m
  pub each : (p : ℕ) → p < b.messages → message_in_range b m p ≡ true

pub messages-told : (b : Bench) (m : List ℕ) → messages_in_range b m ≡ true → MessagesFacts b m
unfolding messages_in_range
messages-told b m ok =
    let h = both_true (leb 320 (length m)) _ ok in
    record { long = leb-true _ _ h.0; each = all_below-true _ _ h.1 }

-- what most calls are handed, in range
module _ (b : Bench) (costs : List ℕ) (sent held : ℕ) (ok : parts_in_range b costs sent held ≡ true) where
  pub network-bench : bench_in_range b ≡ true
  unfolding parts_in_range
  network-bench = (both_true (bench_in_range b) _ ok).0

  pub network-costs : costs_in_range b costs ≡ true
  unfolding parts_in_range
  network-costs = (both_true (costs_in_range b costs) _ (both_true (bench_in_range b) _ ok).1).0

-- it is ready for the private functions
pub network-told :
    (b : Bench) (costs : List ℕ) (sent held : ℕ) → parts_in_range b costs sent held ≡ true → Ready b costs
unfolding bench_in_range
network-told b costs sent held ok =
    let bench = network-bench b costs sent held ok in
    let told = bench-told b bench in
    let lasting : LastingOf b costs =
    lasting-told b costs (both_true (graph_in_range b) _ bench).0 (network-costs b costs sent held ok) in
    record {
      few_bridges = told.counted.bridges;
      few_links = told.counted.links;
      few_views = told.counted.views;
      are_bridges = are-bridges b costs lasting;
      are_views = told.view;
      costs_long = lasting.costs_long;
    }

-- a bench and its messages, in range
pub flight-told : (b : Bench) (m : List ℕ) → (bench_in_range b && messages_in_range b m) ≡ true → BenchFacts b × MessagesFacts b m
flight-told b m ok =
    let h = both_true (bench_in_range b) (messages_in_range b m) ok in
    (bench-told b h.0, messages-told b m h.1)
