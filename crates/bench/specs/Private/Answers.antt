-- What port, verdict, report and path answer, by the verdicts that layer 2 finds. Assumes nothing.
use Rattle.std.specs.Prelude.{ℕ, ◌<◌, ◌-◌, List, [], ◌∷◌, get_or, Result, Ok, Err}
use Rattle.distances.specs.declared.refusals.Refusal.{Refusal}
use Rattle.distances.specs.View.{graph_of}
use Rattle.agreement.specs.Forwarding.{port_of}
use Rattle.agreement.specs.Call.{Response, says, verdict_outcome}
use Rattle.agreement.specs.Forwarding.{Port}
use Rattle.agreement.specs.declared.Verdict.{Verdict}
use Rattle.agreement.specs.declared.Verdict.TheVariants.{NoLink}
use Rattle.protocol.specs.Calls as calls
use Rattle.protocol.specs.Ports.{Hop, hop_by}
use Rattle.protocol.specs.Paths.{onward}
use Rattle.protocol.specs.Paths as paths
use Rattle.bench.specs.State.{State, network}
use Rattle.bench.specs.Private.Views.{lent_view}
use Rattle.bench.specs.Ranges.{network_in_range}
use Rattle.bench.specs.Outcomes.{refused_by, refusal_of, or_refused}
use Rattle.bench.specs.declared.Bench.{Bench}
use Rattle.bench.specs.declared.Path.{Path}

-- the numbers of a path have 32 bits
abbrev pub PathFits : Result Path Refusal → Type 0
PathFits (Err r) = Unit {0}
PathFits (Ok (Path.Delivered h)) = h < 4294967296
PathFits (Ok (Path.Stops last h)) = (last < 4294967296) × (h < 4294967296)

-- the verdict of a reply; an empty one is a refusal, which a network in range never gets, and any verdict may stand for it
unfoldable pub found : List Verdict → Verdict
found [] = NoLink
found (v ∷ vs) = v

-- the verdict that layer 2 finds for bridge y, in y's view, and the port
unfoldable pub verdict_in : State → ℕ → ℕ → Verdict
verdict_in s y d =
    let b : Bench = s.bench in
    found
    (verdict_outcome (lent_view b s.costs (get_or b.view y 0)) b.views b.down b.records s.sent s.held y d
    ).value

abbrev pub port_in : State → ℕ → ℕ → Port
port_in s y d = port_of (verdict_in s y d)

-- the hop from bridge y on the way to destination d, by the port found
unfoldable pub hop_in : State → ℕ → ℕ → Hop
hop_in s d y = hop_by (graph_of s.bench.bridges s.bench.links s.bench.ends) (network s).records y (port_in s y d)

unfoldable pub path_of : State → ℕ → ℕ → Response paths.PathResult
path_of s y d =
    or_refused (refusal_of (network_in_range s) (network s) (calls.path y d)) refused_by
    (says (onward (hop_in s d) d (s.bench.bridges - 1) 0 y))
