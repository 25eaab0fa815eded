-- Demand 3 holds: of every plan in the ranges and every list of calls. Assumes nothing.
use Rattle.protocol.specs.Net.{fresh}
use Rattle.protocol.specs.Calls.{run}
use Rattle.protocol.specs.Demand3.{Demand3}
use Rattle.protocol.proofs.Invariant.{Invariant}
use Rattle.protocol.proofs.Steps.{invariant-run}
use Rattle.protocol.proofs.NoRing.{no-ring}
use Rattle.protocol.proofs.PathEnds.{path-ends, path-short, path-counted}
use Rattle.protocol.proofs.Settles.{settles}

pub demand3 : Demand3
demand3 p in_range cs =
    let inv : Invariant (run (fresh p) cs) = invariant-run p in_range cs in
    record {
      no_ring = no-ring (run (fresh p) cs) inv;
      path_ends = path-ends (run (fresh p) cs) inv;
      path_short = path-short (run (fresh p) cs);
      path_counted = path-counted (run (fresh p) cs);
      settles = settles p in_range cs;
    }
