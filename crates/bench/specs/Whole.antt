-- Demand 3 for whoever makes the calls one after the other: the network of Demand3 stands in the state that the calls leave, and every
-- reply is about it. Assumes nothing.
use Rattle.std.specs.Prelude.{ℕ, ◌*◌, ◌<◌, ◌≤◌, ◌≡◌, List, [], ◌∷◌, ◌&&◌, length, leb}
use Rattle.agreement.specs.Call.{says}
use Rattle.protocol.specs.Net.{Network, Plan, fresh}
use Rattle.protocol.specs.Calls.{Call, report, refuse, answer_at, run}
use Rattle.protocol.specs.Ports.{own_distance, forwarding_verdict, forwarding_port}
use Rattle.protocol.specs.Paths.{path}
use Rattle.protocol.specs.LimitViews.{Limits, views_run, fresh_views}
use Rattle.protocol.specs.Demand3.{Holds}
use Rattle.bench.specs.State.{State, network}
use Rattle.bench.specs.Sizes.{flight_numbers}
use Rattle.bench.specs.Standing.{standing}
use Rattle.bench.specs.Outcomes.{refusal_of, ready_for, left_by, fresh_of}

-- the calls one after the other, each by its contract
unfoldable pub run_in : State → List Call → State
run_in s [] = s
run_in s (c ∷ cs) = run_in (left_by s c) cs

-- network n stands in state s: its plan is that of s, and what else n has is there
pub record Stands (s : State) (n : Network) : Type 0 where
  pub plan : (network s).plan ≡ n.plan
  pub state : s ≡ standing n s

-- what a call replies in state s, by its contract, is what there is to say of network n: the number by which it is refused, which is never
-- 17, and the value
pub record Replies (s : State) (n : Network) : Type 0 where
  pub refusals : (c : Call) → refusal_of (ready_for s c) (network s) c ≡ refuse n c
  pub reports : (d : ℕ) (rows : List ℕ) → 32 ≤ length rows → refusal_of (ready_for s (report d) && leb 32 (length rows)) (network s) (report d) ≡ refuse n (report d)
  pub deliveries : (p : ℕ) → p < length n.messages → answer_at (network s) p ≡ answer_at n p
  pub distances : (y d : ℕ) → y < n.plan.graph.bridges → d < n.plan.graph.bridges → own_distance (network s) y d ≡ own_distance n y d
  pub ports : (y d : ℕ) → y < n.plan.graph.bridges → d < n.plan.graph.bridges → forwarding_port (network s) y d ≡ forwarding_port n y d
  pub verdicts : (y d : ℕ) → y < n.plan.graph.bridges → d < n.plan.graph.bridges → forwarding_verdict (network s) y d ≡ forwarding_verdict n y d
  pub paths : (y d : ℕ) → y < n.plan.graph.bridges → d < n.plan.graph.bridges → path (network s) y d ≡ path n y d

-- of state s, in which the calls cs from a fresh network of plan p end: demand 3 holds of them, and it speaks of the network that stands in s
-- and that the replies are about
pub record Meets (s : State) (p : Plan) (cs : List Call) : Type 0 where
  pub holds : Holds p cs
  pub stands : Stands s (run (fresh p) cs)
  pub replies : Replies s (run (fresh p) cs)
  -- and the limits that stand in it are those that the protocol defines, by the views that the calls tell
  pub limits : (e d : ℕ) → e < 2 * p.graph.links → d < p.graph.bridges → Limits p (network s).records e d (views_run (fresh p) e fresh_views cs)

-- whoever calls `fresh`, with room for 64 messages beside it, and it is accepted, and then makes any calls
abbrev pub WholeLists : Type 0
WholeLists =
    (s : State) → (fresh_of s).reply ≡ says tt → flight_numbers ≤ length s.messages →
    (cs : List Call) → Meets (run_in (fresh_of s).state cs) (network s).plan cs
