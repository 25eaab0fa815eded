-- From the first view on the fresh network stands in what is set up. Assumes nothing.
use Prim.Native.Nat.{ℕ, ◌+◌, ◌*◌, ◌≤◌}
use native.Mathlib.Omega.{arith}
use mathlib.Core.Path.{◌≡◌, refl, sym, ◌∙◌, ap}
use mathlib.Core.Bool.{Bool, true, false, cond}
use mathlib.Core.List.{List}
use borrow.Author.Tests.{eqb-true, eqb-false}
use lib.ListN.{length, take}
use lib.Seq.{length-take-le, take-append-le, take-take}
use lib.Dec.{eqb}
use Rattle.bench.specs.State.{State, state, part}
use Rattle.agreement.specs.Call.{says}
use Rattle.bench.specs.Outcomes.{blank, Outcome, outcome, fresh_of}
use Rattle.bench.specs.declared.Bench.{Bench}
use Rattle.bench.proofs.TieFresh.{FreshLimits, limits-same}
use Rattle.bench.proofs.FreshStands.{Opened, fresh-opens}
use Rattle.plan.proofs.Laws.{ViewRead}
use Rattle.runner.specs.Steps.{with_view, with_row, fresh_with_view}
use Rattle.runner.proofs.FieldSteps.{view-fits}
use Rattle.runner.proofs.RunPlans.{plan_of}
use Rattle.runner.proofs.RunSetup.{Begun, view-begun, fresh-begun, lasts}
use Rattle.runner.proofs.ViewSteps.{fresh-with-view-reply}

-- the bench and the limits are those of a fresh network
pub record Stands (b : Bench) (costs sent held : List ℕ) : Type 0 where
  pub bench : blank b ≡ b
  pub limits : FreshLimits b costs sent held

-- after a field of the setup
pub record Standing (stage : ℕ) (b : Bench) (costs sent held : List ℕ) : Type 0 where
  pub begun : Begun stage b costs
  pub stood : stage ≡ 2 → Stands b costs sent held

-- a further view leaves the first one's costs
first-row : (rest : List ℕ) (b : Bench) (costs : List ℕ) → 1 ≤ b.views → 32 * b.views ≤ length costs → part 32 0 costs ≡ part 32 0 (with_row rest b costs)
unfolding with_row
first-row rest b costs some long =
    sym (take-append-le 32 (take (32 * b.views) costs) _ (omega (arith, length-take-le (32 * b.views) costs long))
    ∙ take-take 32 (32 * b.views) costs (omega arith))

module _
    (stage : ℕ)
    (b : Bench)
    (costs sent held messages : List ℕ)
    (s : Standing stage b costs sent held)
    (rest : List ℕ)
    (told : ViewRead rest (record { stage = stage; bridges = b.bridges; links = b.links; views = b.views })) where
  abbrev rows : List ℕ
  rows = with_row rest b costs

  abbrev handed : State
  handed = state (with_view b) rows sent held messages

  abbrev network : Outcome (Unit {0})
  network = fresh_with_view handed

  -- it is not refused
  pub view-taken : 1024 ≤ length costs → 1024 ≤ length rows → 1024 ≤ length sent → 1024 ≤ length held → network.reply.number ≡ 0
  view-taken long rows_long sent_long held_long =
      fresh-with-view-reply rest b costs sent held messages (view-fits stage rest b told) long sent_long held_long
      ∙ rw (lasts 2 (with_view b) rows (view-begun stage b costs s.begun rest told long) refl rows_long).graph (either (eqb b.views 0))
    where
      either : (q : Bool) → cond {A = ℕ} (cond q true true) 0 17 ≡ 0
      either true = refl
      either false = refl

  -- the plan that stands in what it leaves, and what else it keeps
  pub view-leaves :
      1024 ≤ length costs → 1024 ≤ length rows → 1024 ≤ length sent → 1024 ≤ length held →
      (plan_of network.state.bench network.state.costs ≡ plan_of (with_view b) rows)
      × (network.state.costs ≡ rows)
      × (network.state.messages ≡ messages)
  unfolding fresh_with_view
  view-leaves long rows_long sent_long held_long = go (eqb (b.views + 1) 1)
    where
      opened : (o : Outcome (Unit {0})) → Opened handed o →
          (plan_of o.state.bench o.state.costs ≡ plan_of (with_view b) rows) × (o.state.costs ≡ rows) × (o.state.messages ≡ messages)
      opened o told = (rw (told.bench, told.costs), told.costs, told.messages)

      go : (q : Bool) →
          let o : Outcome (Unit {0}) = cond q (fresh_of handed) (outcome (says tt) handed) in
          (plan_of o.state.bench o.state.costs ≡ plan_of (with_view b) rows) × (o.state.costs ≡ rows) × (o.state.messages ≡ messages)
      go true =
          opened (fresh_of handed)
          (fresh-opens handed (lasts 2 (with_view b) rows (view-begun stage b costs s.begun rest told long) refl rows_long) sent_long held_long)
      go false = (refl, refl, refl)

  pub view-stands :
      1024 ≤ length costs →
      1024 ≤ length rows →
      1024 ≤ length sent →
      1024 ≤ length held →
      Standing 2 network.state.bench network.state.costs network.state.sent network.state.held
  unfolding fresh_with_view
  view-stands long rows_long sent_long held_long = go (eqb (b.views + 1) 1) refl
    where
      now : Begun 2 (with_view b) rows
      now = view-begun stage b costs s.begun rest told long

      -- the first view
      fresh-now : (o : Outcome (Unit {0})) → Opened handed o → Standing 2 o.state.bench o.state.costs o.state.sent o.state.held
      fresh-now o told =
          rw (told.bench, told.costs)
          (record {
            begun = fresh-begun 2 (with_view b) rows now;
            stood = λ h. record { bench = refl; limits = limits-same (with_view b) (blank (with_view b)) rows rows refl refl refl refl o.state.sent o.state.held told.limits };
          })

      -- a further view
      stood-still : 1 ≤ b.views → Stands b costs sent held → Standing 2 (with_view b) rows sent held
      stood-still some was =
          record {
            begun = now;
            stood = λ h.
                record {
                  bench = ap (λ (x : Bench). with_view x) was.bench;
                  limits = limits-same b (with_view b) costs rows refl refl refl (first-row rest b costs some (omega (arith, told.room))) sent held was.limits;
                };
          }

      go : (q : Bool) → eqb (b.views + 1) 1 ≡ q →
          let o : Outcome (Unit {0}) = cond q (fresh_of handed) (outcome (says tt) handed) in
          Standing 2 o.state.bench o.state.costs o.state.sent o.state.held
      go true q = fresh-now (fresh_of handed) (fresh-opens handed (lasts 2 (with_view b) rows now refl rows_long) sent_long held_long)
      go false q =
          let some : 1 ≤ b.views = omega (arith, eqb-false (b.views + 1) 1 q) in
          stood-still some (s.stood (two some))
        where
          two : 1 ≤ b.views → stage ≡ 2
          two some = late (eqb stage 2) refl
            where
              late : (c : Bool) → eqb stage 2 ≡ c → stage ≡ 2
              late true e = eqb-true stage 2 e
              late false e =
                  let none : b.views ≡ 0 = s.begun.unviewed (omega (arith, s.begun.early, eqb-false stage 2 e)) in
                  absurd (omega arith)
