-- Demand 3 over a slice of messages, by the bench's theorem; and that each call over a slice leads as its contract says. Assumes nothing.
use Prim.Native.Nat.{ℕ, ◌≤◌}
use native.Mathlib.Omega.{arith}
use mathlib.Core.Path.{◌≡◌, sym, ◌∙◌, ap, subst}
use mathlib.Core.List.{List, [], ◌∷◌}
use lib.ListN.{length, take, drop}
use lib.Seq.{length-take-le}
use Rattle.agreement.specs.Call.{Response}
use Rattle.protocol.specs.Net.{Network}
use Rattle.protocol.specs.Calls.{Call}
use Rattle.bench.specs.State.{state, network}
use Rattle.bench.specs.Outcomes.{Outcome, outcome, outcome_of, fresh_of}
use Rattle.bench.specs.Whole.{run_in, Meets}
use Rattle.bench.specs.declared.Bench.{Bench}
use Rattle.bench.proofs.TieWhole.{whole-lists}
use Rattle.bench.proofs.RunSteps.{run_none, run-next}
use Rattle.messages.specs.declared.Message.{Message}
use Rattle.messages.specs.Slices.{flight}
use Rattle.messages.specs.SliceLists.{Kept, kept, numbered, Leads, Lead, WholeSlices}
use Rattle.messages.proofs.Flight.{numbers-length}

-- the calls over the slice and the bench's calls on its numbers end in the same state
pub led : (s t : Kept) (cs : List Call) → Lead s cs t → numbered t ≡ run_in (numbered s) cs
unfolding Lead
led s t [] e = ap numbered e ∙ sym (run_none (numbered s))
led s t (c ∷ cs) n =
    led n.left t cs n.later ∙ ap (λ x. run_in x cs) n.leads.numbers ∙ sym (run-next (numbered s) c cs)

pub whole-slices : WholeSlices
whole-slices first s t cs start lead =
    let long : 320 ≤ length (flight first.messages) = omega (arith, numbers-length (take 64 first.messages), length-take-le 64 first.messages start.room) in
    let w = whole-lists (numbered first) start.accepted long cs in
    let e : run_in (fresh_of (numbered first)).state cs ≡ numbered t = sym (led s t cs lead ∙ ap (λ x. run_in x cs) start.numbers) in
    subst (λ x. Meets x (network (numbered first)).plan cs) e w

-- what a contract says is what a call leads to
pub call-leads :
    {A : Type 0} (s : Kept) (c : Call) (value : Network → A) (reply : Response A) (b : Bench) (sent held : List ℕ) (ms : List Message) →
    drop 64 ms ≡ drop 64 s.messages →
    outcome reply (state b s.costs sent held (flight ms)) ≡ outcome_of (numbered s) c value →
    Leads s c (kept b s.costs sent held ms)
unfolding outcome_of
call-leads {A} s c value reply b sent held ms past e = record { numbers = ap (λ (o : Outcome A). o.state) e; rest = past }
