-- A network, the state in which it stands, and what the code's types tell of it. Assumes nothing.
use Prim.Native.Nat.{ℕ, ◌*◌, ◌<◌}
use mathlib.Core.Path.{◌≡◌, refl}
use mathlib.Core.Bool.{true}
use lib.ListN.{get_or}
use Rattle.distances.specs.Table.{cell}
use Rattle.protocol.specs.Net.{Network}
use Rattle.bench.specs.State.{State, network}
use Rattle.bench.specs.Ranges.{state_in_range}
pub use Rattle.bench.specs.Private.Types.{Typed}

-- the network n stands in the state s: what is there of the bridges, links, ends and destinations that there are
pub record Represents (s : State) (n : Network) : Type 0 where
  pub in_range : state_in_range s ≡ true
  pub typed : Typed s.bench
  pub plan : n.plan ≡ (network s).plan
  pub view : (y : ℕ) → y < s.bench.bridges → n.view y ≡ get_or s.bench.view y 0
  pub number : (y : ℕ) → y < s.bench.bridges → n.number y ≡ get_or s.bench.number y 0
  pub down : (e : ℕ) → e < 2 * s.bench.links → n.records.down e ≡ (network s).records.down e
  pub ends : (e : ℕ) → e < 2 * s.bench.links → n.records.ends e ≡ (network s).records.ends e
  pub sent : (e d : ℕ) → e < 2 * s.bench.links → d < s.bench.bridges → n.records.sent e d ≡ cell s.sent e d
  pub held : (e d : ℕ) → e < 2 * s.bench.links → d < s.bench.bridges → n.records.held e d ≡ cell s.held e d
  pub messages : n.messages ≡ (network s).messages

-- the network of a state in range
pub own-represents : (s : State) → state_in_range s ≡ true → Typed s.bench → Represents s (network s)
own-represents s ok typed =
    record {
      in_range = ok;
      typed = typed;
      plan = refl;
      view = λ y h. refl;
      number = λ y h. refl;
      down = λ e h. refl;
      ends = λ e h. refl;
      sent = λ e d h k. refl;
      held = λ e d h k. refl;
      messages = refl;
    }
