-- Demand 2 for whoever makes the calls: what a port, a verdict, a path and a report reply by their contracts in any state in range, whatever the caller's
-- buffers held. Assumes nothing.
use Rattle.std.specs.Prelude.{ℕ, ◌+◌, ◌*◌, ◌<◌, ◌≤◌, ◌≡◌, true, List, length, get_or}
use Rattle.agreement.specs.Call.{says}
use Rattle.encoding.specs.Numbers.{link_number}
use Rattle.protocol.specs.Calls as calls
use Rattle.protocol.specs.Ports.{own_distance, forwarding_verdict, forwarding_port}
use Rattle.protocol.specs.Paths as paths
use Rattle.protocol.specs.Demand2.{ByTheRule}
use Rattle.bench.specs.State.{State, network}
use Rattle.bench.specs.Ranges.{network_in_range}
use Rattle.bench.specs.Outcomes.{outcome, outcome_of, report_of}

-- rows with the distance and the port, NONE for none, of each bridge for d
pub record RowsTell (s : State) (d : ℕ) (rows : List ℕ) : Type 0 where
  pub distances : (y : ℕ) → y < s.bench.bridges → get_or rows (2 * y) 0 ≡ own_distance (network s) y d
  pub ports : (y : ℕ) → y < s.bench.bridges → get_or rows (2 * y + 1) 0 ≡ link_number (forwarding_port (network s) y d)

-- the distances, ports, verdicts and paths of the network that stands in s are by the rule, and the calls reply with them and change nothing
pub record Tells (s : State) : Type 0 where
  pub rule : ByTheRule (network s)
  pub ports : (y d : ℕ) → y < s.bench.bridges → d < s.bench.bridges →
      outcome_of s (calls.port y d) (λ n. forwarding_port n y d) ≡ outcome (says (forwarding_port (network s) y d)) s
  pub verdicts : (y d : ℕ) → y < s.bench.bridges → d < s.bench.bridges →
      outcome_of s (calls.verdict y d) (λ n. forwarding_verdict n y d) ≡ outcome (says (forwarding_verdict (network s) y d)) s
  pub paths : (y d : ℕ) → y < s.bench.bridges → d < s.bench.bridges →
      outcome_of s (calls.path y d) (λ n. paths.path n y d) ≡ outcome (says (paths.path (network s) y d)) s
  pub reports : (d : ℕ) (rows : List ℕ) → d < s.bench.bridges → 32 ≤ length rows →
      ((report_of s d rows).reply ≡ says tt) × RowsTell s d (report_of s d rows).rows

abbrev pub StatesTell : Type 0
StatesTell = (s : State) → network_in_range s ≡ true → Tells s
