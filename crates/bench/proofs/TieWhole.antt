-- Demand 3 for whoever makes the calls one after the other: the network stands in the state after `fresh`, and after each call.
-- Assumes nothing.
use Prim.Native.Nat.{ℕ, ◌*◌, ◌<◌}
use native.Mathlib.Omega.{arith}
use mathlib.Core.Path.{◌≡◌, refl, sym, ◌∙◌, ap, subst}
use mathlib.Core.Bool.{Bool, true, false, cond}
use mathlib.Core.List.{List, [], ◌∷◌}
use borrow.Author.Tests.{le-leb}
use lib.ListN.{length}
use Rattle.distances.proofs.Booleans.{true-both}
use Rattle.agreement.specs.Call.{Response, says}
use Rattle.agreement.specs.Record.{held_limit}
use Rattle.agreement.specs.declared.EndRecord.{EndRecord}
use Rattle.protocol.specs.LimitViews.{Limits, views_run, fresh_views}
use Rattle.protocol.specs.Net.{Network, Plan, PlanInRange, fresh}
use Rattle.protocol.specs.Calls.{Call, report, step, run}
use Rattle.bench.specs.State.{State, network}
use Rattle.bench.specs.Outcomes.{Outcome, plan_ready, fresh_of, left_by}
use Rattle.bench.specs.Whole.{run_in, Stands, Replies, Meets, WholeLists}
use Rattle.protocol.proofs.Runs.{plan_run}
use Rattle.protocol.proofs.LimitsKept.{limits-as-defined}
use Rattle.protocol.proofs.Theorem.{demand3}
use Rattle.bench.proofs.Represents.{Represents, own-represents}
use Rattle.bench.proofs.TieRanges.{plan-in-range}
use Rattle.bench.proofs.TieChecks.{refusal-same}
use Rattle.bench.proofs.TieQueue.{messages-length}
use Rattle.bench.proofs.TieAnswers.{verdict-same, port-same, own-distance, path-same}
use Rattle.bench.proofs.TieDeliveries.{placed-answer}
use Rattle.bench.proofs.TieSteps.{step-represents}
use Rattle.bench.proofs.TieFresh.{fresh-told}
use Rattle.bench.proofs.Beside.{beside_same, represents-agrees, stood}
use Rattle.bench.proofs.BesideSteps.{step_is}
use Rattle.bench.proofs.FreshStands.{fresh_state, fresh-left, fresh-represents}
use Rattle.bench.proofs.QueueCalls.{said_same}
use Rattle.bench.proofs.RunSteps.{ready_for_lem, left-ready}

module _ (s : State) (n : Network) (r : Represents s n) where
  pub stands-in : Stands s n
  stands-in = record { plan = sym r.plan; state = stood s s n (beside_same s) (represents-agrees s n r) }

  -- the network of the state itself
  own : Represents s (network s)
  own = own-represents s r.in_range r.typed

  pub replies : Replies s n
  replies =
      record {
        refusals = λ c. refusal-same s n r _ c (ready_for_lem s c r.in_range);
        reports = λ d rows long. refusal-same s n r _ (report d) (true-both (ready_for_lem s (report d) r.in_range) (le-leb 32 (length rows) long));
        deliveries = λ p h. let low : p < s.bench.messages = rw (r.messages, messages-length) at h in
            said_same _ _ (sym (placed-answer s (network s) own p low) ∙ placed-answer s n r p low);
        distances = λ y d hy hd. let low = rw r.plan at hy in let end = rw r.plan at hd in
            sym (own-distance s (network s) own y d low end) ∙ own-distance s n r y d low end;
        ports = λ y d hy hd. let low = rw r.plan at hy in let end = rw r.plan at hd in
            sym (port-same s (network s) own y d low end) ∙ port-same s n r y d low end;
        verdicts = λ y d hy hd. let low = rw r.plan at hy in let end = rw r.plan at hd in
            sym (verdict-same s (network s) own y d low end) ∙ verdict-same s n r y d low end;
        paths = λ y d hy hd. let low = rw r.plan at hy in let end = rw r.plan at hd in
            sym (path-same s (network s) own y d low end) ∙ path-same s n r y d low end;
      }

  pub left-represents : (c : Call) → Represents (left_by s c) (step n c)
  left-represents c = rw (left-ready s c r.in_range, ← step_is s r.in_range r.typed c) (step-represents s n c r)

pub run-represents : (cs : List Call) (s : State) (n : Network) → Represents s n → Represents (run_in s cs) (run n cs)
unfolding run_in run
run-represents [] s n r = r
run-represents (c ∷ cs) s n r = run-represents cs (left_by s c) (step n c) (left-represents s n r c)

held_same : (a b : EndRecord) (f g : ℕ → ℕ) (d : ℕ) → a ≡ b → f d ≡ g d → held_limit a f d ≡ held_limit b g d
held_same a b f g d ends row = rw (ends, row)

-- the limits that stand in a state are the network's
limits-there :
    (s : State) (n : Network) → Represents s n → (p : Plan) (cs : List Call) → n ≡ run (fresh p) cs →
    (e d : ℕ) → e < 2 * p.graph.links → d < p.graph.bridges → Limits p (network s).records e d (views_run (fresh p) e fresh_views cs)
unfolding fresh
limits-there s n r p cs is e d he hd =
    let limits = limits-as-defined p cs e d in
    let same : (network s).plan ≡ p = sym r.plan ∙ rw is (plan_run (fresh p) cs) in
    let end : e < 2 * s.bench.links = rw (← same) at he in
    let dest : d < s.bench.bridges = rw (← same) at hd in
    record {
      sent = sym (r.sent e d end dest) ∙ rw is limits.sent;
      held = held_same ((network s).records.ends e) (n.records.ends e) ((network s).records.held e) (n.records.held e) d (sym (r.ends e end)) (sym (r.held e d end dest)) ∙ rw is limits.held;
    }

-- from any state in which a fresh network stands
pub whole_from : (s : State) (p : Plan) → PlanInRange p → Represents s (fresh p) → (cs : List Call) → Meets (run_in s cs) p cs
whole_from s p ok fresh-there cs =
    let r = run-represents cs s (fresh p) fresh-there in
    record { holds = demand3 p ok cs; stands = stands-in _ _ r; replies = replies _ _ r; limits = limits-there _ _ r p cs refl }

seventeen : ◌≡◌ {A = ℕ} 17 0 → ⊥
seventeen e = omega arith

-- an accepted `fresh`
accepted-plan : (s : State) → (fresh_of s).reply ≡ says tt → plan_ready s ≡ true
unfolding fresh_of
accepted-plan s e = go (plan_ready s) _ _ refl e
  where
    go : (b : Bool) (x y : Outcome (Unit {0})) → y.reply.number ≡ 17 → (cond b x y).reply ≡ says tt → b ≡ true
    go true x y is e = refl
    go false x y is e = absurd (seventeen (sym is ∙ ap (λ (o : Response (Unit {0})). o.number) e))

pub whole-lists : WholeLists
whole-lists s done room cs =
    let ok = accepted-plan s done in
    let lasting = (fresh-told s.bench s.costs s.sent s.held ok).lasting in
    subst (λ (x : State). Meets (run_in x cs) (network s).plan cs) (ap (λ (o : Outcome (Unit {0})). o.state) (fresh-left s ok))
    (whole_from (fresh_state s) (network s).plan (plan-in-range s.bench s.costs lasting) (fresh-represents s ok room) cs)
