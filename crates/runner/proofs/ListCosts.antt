-- No list of events changes the costs. Assumes nothing.
use Prim.Native.Nat.{ℕ}
use mathlib.Core.Path.{◌≡◌, refl, ap, ◌∙◌}
use mathlib.Core.Bool.{Bool, true, false, cond}
use mathlib.Core.List.{List, [], ◌∷◌}
use lib.ListN.{length, take}
use Rattle.protocol.specs.Calls.{Call}
use Rattle.bench.specs.State.{State, state}
use Rattle.bench.specs.declared.Bench.{Bench}
use Rattle.bench.specs.Ranges.{state_in_range}
use Rattle.bench.specs.Standing.{step_in}
use Rattle.bench.specs.Outcomes.{ready_for, left_by}
use Rattle.bench.specs.Whole.{run_in}
use Rattle.bench.specs.Batches.{calls_of, Ending, batch_from, BatchOutcome, batch_outcome, batch_of}
use Rattle.bench.specs.declared.Event.{Event}
use Rattle.bench.proofs.RunSteps.{step-costs, run_none, run-next}
use Rattle.bench.proofs.BatchRuns.{batches-are-runs, batch-in, batch-out}

left-costs : (s : State) (c : Call) → (left_by s c).costs ≡ s.costs
unfolding left_by
left-costs s c = go (ready_for s c)
  where
    go : (b : Bool) → (cond b (step_in s c) s).costs ≡ s.costs
    go true = step-costs s c
    go false = refl

run-costs : (cs : List Call) (s : State) → (run_in s cs).costs ≡ s.costs
run-costs [] s = ap (λ (t : State). t.costs) (run_none s)
run-costs (c ∷ cs) s = ap (λ (t : State). t.costs) (run-next s c cs) ∙ run-costs cs (left_by s c) ∙ left-costs s c

batch-costs : (s : State) (events : List Event) (answers : List ℕ) → (batch_of s events answers).state.costs ≡ s.costs
batch-costs s events answers = go (state_in_range s) refl
  where
    go : (b : Bool) → state_in_range s ≡ b → (batch_of s events answers).state.costs ≡ s.costs
    go true q =
        ap (λ (o : BatchOutcome). o.state.costs) (batch-in s events answers q)
        ∙ ap (λ (t : State). t.costs) (batches-are-runs (length answers) s events).state
        ∙ run-costs (calls_of (take (batch_from (length answers) s events).made events)) s
    go false q = ap (λ (o : BatchOutcome). o.state.costs) (batch-out s events answers q)

-- so what a list leaves has the costs that it was lent
pub with_costs :
    (s : State) (events : List Event) (answers : List ℕ) {made answered : ℕ} {how : Ending} {bench : Bench} {costs sent held messages left : List ℕ} →
    batch_outcome made answered how (state bench costs sent held messages) left ≡ batch_of s events answers →
    batch_outcome made answered how (state bench s.costs sent held messages) left ≡ batch_of s events answers
with_costs s events answers {costs = costs} e =
    let same : costs ≡ s.costs = ap (λ (o : BatchOutcome). o.state.costs) e ∙ batch-costs s events answers in
    rw same at e
