-- What a plan prints is the page's output, and demand 3 is about each line of it. Assumes nothing.
use Prim.Native.Nat.{ℕ, suc, ◌+◌, ◌≤◌, ◌<◌}
use native.Mathlib.Nat.{zero-add}
use native.Mathlib.Omega.{arith}
use mathlib.Core.Path.{◌≡◌, refl, sym, ◌∙◌, ap, subst}
use mathlib.Core.Bool.{true}
use mathlib.Core.List.{List, [], ◌∷◌, ◌++◌, append_assoc}
use borrow.Author.Tests.{le-ltb, lt-ltb}
use lib.ListN.{length, length-append, length-replicate}
use Rattle.distances.proofs.Booleans.{both_true}
use Rattle.protocol.specs.Net.{Network, Plan, fresh}
use Rattle.protocol.specs.Calls.{accepted, step, run}
use Rattle.protocol.proofs.Rules.{demand2}
use Rattle.protocol.proofs.Theorem.{demand3}
use Rattle.text.specs.Lines.{refused_text}
use Rattle.runner.specs.Plans.{first_runner, first_buffers, prints}
use Rattle.runner.specs.Program.{reading, PlanEvent, PlanEnd, read_from, read_plan, lines_of, carried_out, output_of, output}
use Rattle.runner.specs.Whole.{PlanFilled, calls_in, all_accepted, lines_by, EveryLine}
use Rattle.runner.proofs.FillLaws.{filled-prints}
use Rattle.runner.proofs.RunPlans.{first-plan}
use Rattle.runner.proofs.RunSetup.{begun_first}
use Rattle.runner.proofs.RunFields.{SetUp, Carries, carried}

-- ---- the whole plan

few-setup : (plan : List ℕ) → length plan ≤ 61440 → SetUp first_runner first_buffers plan
few-setup plan few =
    record {
      standing = record { begun = begun_first; stood = λ h. absurd (omega arith) };
      long =
          record {
            costs = omega (arith, length-replicate {A = ℕ} 1024 0);
            sent = omega (arith, length-replicate {A = ℕ} 1024 0);
            held = omega (arith, length-replicate {A = ℕ} 1024 0);
            messages = omega (arith, length-replicate {A = ℕ} 320 0);
            out = omega (arith, length-replicate {A = ℕ} 544 0);
          };
      events = refl;
      room = omega (arith, few);
    }

plan-carried : (plan : List ℕ) → length plan ≤ 61440 → Carries (prints (suc (length plan)) first_runner first_buffers plan) (read_plan plan)
unfolding read_plan
plan-carried plan few =
    subst (λ (p : Plan). Carries (prints (suc (length plan)) first_runner first_buffers plan) (read_from (suc (length plan)) (reading 0 p 0) plan)) first-plan
    (carried (suc (length plan)) first_runner first_buffers plan (few-setup plan few) (omega arith))

pub output-carried : (plan : List ℕ) → length plan ≤ 61440 → output plan ≡ prints (suc (length plan)) first_runner first_buffers plan
unfolding output
output-carried plan few = rw (le-ltb 61440 (length plan) few) (sym (plan-carried plan few).same)

pub output-refused : (plan : List ℕ) → 61440 < length plan → output plan ≡ refused_text 18 61440
unfolding output
output-refused plan many = rw (lt-ltb 61440 (length plan) many)

pub plan-filled : PlanFilled
plan-filled plan out few long = filled-prints plan out long ∙ sym (output-carried plan few)

-- ---- each line

first-lines :
    (n : Network) (count : ℕ) (first rest : List PlanEvent) (end : PlanEnd) → all_accepted n first ≡ true →
    carried_out n count (first ++ rest) end ≡ lines_by n first ++ carried_out (run n (calls_in first)) (count + length first) rest end
unfolding carried_out lines_by all_accepted calls_in run
first-lines n count [] rest end all = let same : count ≡ count + 0 = omega arith in ap (λ (i : ℕ). carried_out n i rest end) same
first-lines n count (e ∷ es) rest end all =
    let both = both_true (accepted n e.call) _ all in
    let same : suc count + length es ≡ count + suc (length es) = omega arith in
    rw both.0
    (ap (λ (l : List ℕ). lines_of n e.call ++ l)
    (first-lines (step n e.call) (suc count) es rest end both.1
    ∙ ap (λ (i : ℕ). lines_by (step n e.call) es ++ carried_out (run (step n e.call) (calls_in es)) i rest end) same)
    ∙ sym (append_assoc (lines_of n e.call) (lines_by (step n e.call) es) _))

-- a list with something in it
some-event : (first : List PlanEvent) (e : PlanEvent) (more : List PlanEvent) → first ++ (e ∷ more) ≡ [] → ⊥
some-event first e more none = omega (arith, ap length none, length-append first (e ∷ more))

pub every-line : EveryLine
unfolding output output_of
every-line plan few first next more events all =
    let in_range = (plan-carried plan few).in_range (λ none. some-event first next more (sym events ∙ none)) in
    record {
      in_range = in_range;
      rule = demand2.rule _ (demand2.in_range (read_plan plan).setup in_range (calls_in first));
      holds = demand3 (read_plan plan).setup in_range (calls_in first);
      printed =
          rw (le-ltb 61440 (length plan) few)
          (ap (λ (l : List PlanEvent). carried_out (fresh (read_plan plan).setup) 0 l (read_plan plan).end) events
          ∙ first-lines (fresh (read_plan plan).setup) 0 first (next ∷ more) (read_plan plan).end all
          ∙ ap (λ (i : ℕ). lines_by (fresh (read_plan plan).setup) first ++ carried_out (run (fresh (read_plan plan).setup) (calls_in first)) i (next ∷ more) (read_plan plan).end) (zero-add (length first)));
    }
