-- `initial::start_ends` meets its contract. The loop's invariant: the ends below `e` are started. Assumes nothing.
use mathlib.Core.Path.{◌≡◌}
use Rattle.agreement.specs.Call.{lent, SameTables}
use Rattle.bench.specs.Private.Changes.{limit_tables, started_ends}
use Rattle.bench.proofs.initial.start_ends.Given as goal

abbrev pub invariant-loop-e : goal.invariant-loop-e
invariant-loop-e l =
    record {
      same : SameTables l.initial.limits l.limits;
      started :
          limit_tables l.limits.sent.now l.limits.held.now
          ≡ started_ends (lent l.view) l.e (limit_tables l.initial.limits.sent.now l.initial.limits.held.now);
    }
