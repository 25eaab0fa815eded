-- `ports::walk` meets its contract: the rest of the walk from `last` is the rest of the whole walk. Assumes nothing.
use Prim.Native.Nat.{◌-◌, ◌<◌}
use mathlib.Core.Path.{◌≡◌}
use mathlib.Core.List.{[]}
use Rattle.protocol.specs.Paths.{onward}
use Rattle.bench.specs.State.{lent_state}
use Rattle.bench.specs.Private.Answers.{hop_in}
use Rattle.bench.specs.Private.Steps.{IsPrepared}
use Rattle.bench.proofs.ports.walk.Given as goal

abbrev pub invariant-loop-hops : goal.invariant-loop-hops
invariant-loop-hops l =
    let next = hop_in (lent_state l.net []) l.dest in
    let b = l.net.bench.now in
    record {
      rest : onward next l.dest (b.bridges - 1) 0 l.start ≡ onward next l.dest (b.bridges - 1 - l.hops) l.hops l.last;
      listed : l.last < b.bridges;
      prepared : IsPrepared b l.net.costs.now l.prepared;
    }
