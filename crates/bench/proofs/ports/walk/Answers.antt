use Prim.Native.Nat.{◌-◌}
use native.Mathlib.Omega.{arith}
use mathlib.Core.Path.{◌≡◌, sym, ◌∙◌, ap}
use Rattle.bench.specs.Private.Steps.{protocol_hop}
use Rattle.bench.proofs.PathSteps.{hop-leads, onward-here, onward_stops, onward-more, onward-last}
use Rattle.bench.proofs.ports.walk.Goals as goal

pub returns-then-last-dest-clause-path : goal.returns-then-last-dest-clause-path
returns-then-last-dest-clause-path c = sym (c.loop-hops.invariant.rest ∙ onward-here _ _ _ _ _ c.if-last-dest.true)

pub returns-in_default-clause-path : goal.returns-in_default-clause-path
returns-in_default-clause-path c =
    let hop = sym c.hop_at.ensures.hop ∙ ap protocol_hop c.in_default.is in
    sym (c.loop-hops.invariant.rest ∙ onward_stops _ _ _ _ _ c.if-last-dest.false hop)

pub loop-hops-preserved : goal.loop-hops-preserved
loop-hops-preserved c =
    let hop = sym c.hop_at.ensures.hop ∙ ap protocol_hop c.in-Some.is in
    record {
      rest = c.loop-hops.invariant.rest ∙ onward-more _ _ _ _ _ _ _ c.loop-hops-test.true c.if-last-dest.false hop;
      listed = hop-leads _ c.requires.ports_ready.ready _ _ _ _ hop;
      prepared = c.hop_at.ensures.prepared;
    }

pub returns-clause-path : goal.returns-clause-path
returns-clause-path c =
    let all : c.loop-hops.hops ≡ c.args.net.now.bench.now.bridges - 1 = omega arith in
    c.end_of_walk.ensures ∙ sym ((rw all at c.loop-hops.invariant.rest) ∙ onward-last _ _ _ _ _ (omega arith))
