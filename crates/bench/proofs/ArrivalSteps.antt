-- What a state in range tells of the end where a message arrives. Assumes nothing.
use Prim.Native.Nat.{ℕ, ◌*◌, ◌≤◌, ◌<◌}
use native.Mathlib.Omega.{arith}
use mathlib.Core.Path.{◌≡◌}
use mathlib.Core.Bool.{true}
use lib.ListN.{length, get_or}
use Rattle.distances.proofs.Booleans.{both_true}
use Rattle.bench.specs.State.{State}
use Rattle.bench.specs.Ranges.{network_in_range}
use Rattle.bench.specs.Private.Deliveries.{arrival_end, LinkFits, MessageFits}
use Rattle.bench.specs.Ranges.{state_in_range}
use Rattle.bench.proofs.TieRanges.{told}
use Rattle.bench.proofs.TieChecks.{message-told}
use Rattle.bench.proofs.QueueRanges.{network-told}

pub record ArrivalFacts (s : State) (p e : ℕ) : Type 0 where
  pub place : p < 64
  pub long : 320 ≤ length s.messages
  pub arrives : LinkFits s.messages p
  pub fits : MessageFits s.messages p
  pub end : e < 64
  pub bridge : get_or s.bench.ends e 0 < 16
  pub view : get_or s.bench.view (get_or s.bench.ends e 0) 0 < 32
  pub costs : 1024 ≤ length s.costs

pub arrival-told : (s : State) → state_in_range s ≡ true → (p e : ℕ) → e ≡ arrival_end s.messages p → p < s.bench.messages → ArrivalFacts s p e
arrival-told s ok p e is h =
    let all = told s ok in
    let ready = network-told _ _ _ _ (both_true (network_in_range s) _ ok).0 in
    let m = message-told _ _ _ (all.message p h) in
    let low : e < 2 * s.bench.links = omega (arith, m.link, m.direction) in
    let at : get_or s.bench.ends e 0 < s.bench.bridges = ready.are_bridges e low in
    record {
      place = omega (arith, all.count);
      long = all.messages_long;
      arrives = (omega (arith, m.link, ready.few_links), m.direction);
      fits = (omega (arith, m.view, ready.few_views), m.number, m.discarded);
      end = omega (arith, ready.few_links);
      bridge = omega (arith, ready.few_bridges);
      view = omega (arith, ready.few_views, ready.are_views (get_or s.bench.ends e 0) at);
      costs = ready.costs_long;
    }
