-- A view's step: where it may be taken, the network is made or stands, and else the plan ends. Assumes nothing.
use Prim.Native.Nat.{ℕ, ◌+◌, ◌≤◌, ◌<◌}
use native.Mathlib.Omega.{arith}
use mathlib.Core.Path.{◌≡◌, refl, sym, ◌∙◌, ap}
use mathlib.Core.Bool.{Bool, true, false, cond}
use mathlib.Core.List.{List, []}
use borrow.Author.Tests.{eqb-true, eqb-false, eq-eqb, ne_eqb}
use lib.ListN.{length}
use lib.Dec.{eqb}
use Rattle.distances.specs.Call.{graph_passes, costs_pass}
use Rattle.bench.specs.State.{State, state, part}
use Rattle.agreement.specs.Call.{Response, response, says}
use Rattle.bench.specs.Outcomes.{plan_ready, Outcome, outcome, fresh_of}
use Rattle.bench.specs.Standing.{standing}
use Rattle.distances.specs.declared.refusals.Refusal.{Refusal}
use Rattle.std.specs.Prelude.{Result}
use Rattle.bench.specs.declared.Bench.{Bench}
use Rattle.bench.proofs.FreshStands.{fresh-reply}
use Rattle.text.specs.Lines.{refused_text}
use Rattle.runner.specs.Buffers.{Buffers, buffers, buffers_with}
use Rattle.runner.specs.Steps.{last_step, last_text, setup_step, with_view, with_row, fresh_with_view, view_step, may_view, ViewFits}
use Rattle.runner.specs.declared.Runner.{Runner}
use Rattle.runner.proofs.RunRows.{row_kept, row-passes}

-- the costs of a view that was read are in range, so that the graph alone decides
module _
    (rest : List ℕ)
    (b : Bench)
    (costs sent held messages : List ℕ)
    (fits : ViewFits rest b)
    (long : 1024 ≤ length costs)
    (sent_long : 1024 ≤ length sent)
    (held_long : 1024 ≤ length held) where
  abbrev rows : List ℕ
  rows = with_row rest b costs

  rows_long : 1024 ≤ length rows
  rows_long = rw (row_kept rest b costs fits long) long

  abbrev handed : State
  handed = state (with_view b) rows sent held messages

  pub fresh-with-view-reply : (fresh_with_view handed).reply.number ≡ cond (may_view b) 0 17
  unfolding fresh_with_view
  fresh-with-view-reply = go (eqb b.views 0) refl
    where
      first : b.views ≡ 0 → (t : ℕ) → t < b.views + 1 → costs_pass b.links (part 32 t rows) ≡ true
      first none t h = let same : t ≡ b.views = omega arith in rw same (row-passes rest b costs fits long)

      go : (q : Bool) → eqb b.views 0 ≡ q →
          (cond (eqb (b.views + 1) 1) (fresh_of handed) (outcome (says tt) handed)).reply.number
          ≡ cond (cond q (graph_passes b.bridges b.links b.ends) true) 0 17
      go true q =
          let none : b.views ≡ 0 = eqb-true b.views 0 q in
          rw (eq-eqb (b.views + 1) 1 (omega arith))
          (fresh-reply handed (omega arith) (omega arith) rows_long (first none) sent_long held_long)
      go false q = rw (ne_eqb (b.views + 1) 1 (λ e. eqb-false b.views 0 q (omega arith)))

-- `fresh` leaves the costs as they were
fresh-costs : (s : State) → (fresh_of s).state.costs ≡ s.costs
unfolding fresh_of standing
fresh-costs s = go (plan_ready s) _ _ refl refl
  where
    go : (b : Bool) (x y : Outcome (Unit {0})) → x.state.costs ≡ s.costs → y.state.costs ≡ s.costs → (cond b x y).state.costs ≡ s.costs
    go true x y same other = same
    go false x y same other = other

-- with the first view it is what `fresh` leaves
pub opens :
    (s : State) →
    s.bench.views ≡ 1 →
    (reply : Result (Unit {0}) Refusal) {bench : Bench} {costs sent held messages : List ℕ} →
    outcome (response reply) (state bench costs sent held messages) ≡ fresh_of s →
    (fresh_with_view s).reply.number ≡ 0 →
    outcome (says tt) (state bench s.costs sent held messages) ≡ fresh_with_view s
unfolding fresh_with_view fresh_of
opens s first reply {bench} {costs} {sent} {held} {messages} e none =
    let test = eq-eqb s.bench.views 1 first in
    let same : costs ≡ s.costs = ap (λ (o : Outcome (Unit {0})). o.state.costs) e ∙ fresh-costs s in
    rw test (go (state bench s.costs sent held messages) (plan_ready s) _ _ refl refl (rw same at e) (rw test at none))
  where
    go : (after : State) (b : Bool) (x y : Outcome (Unit {0})) → x.reply ≡ says tt → y.reply.number ≡ 17 → outcome (response reply) after ≡ cond b x y → (cond b x y).reply.number ≡ 0 → outcome (says tt) after ≡ cond b x y
    go after true x y done refused e none =
        ap (λ (z : Response (Unit {0})). outcome z after) (sym done ∙ sym (ap (λ (o : Outcome (Unit {0})). o.reply) e)) ∙ e
    go after false x y done refused e none = absurd (omega (arith, refused, none))

-- with a further one all is as it is
pub stays : (s : State) → (s.bench.views ≡ 1 → ⊥) → outcome (says tt) s ≡ fresh_with_view s
unfolding fresh_with_view
stays s later = rw (ne_eqb s.bench.views 1 later)

module _ (used : ℕ) (r : Runner) (k : Buffers) (b : Bench) (costs : List ℕ) where
  abbrev network : Outcome (Unit {0})
  network = fresh_with_view (state b costs k.sent k.held k.messages)

  -- the plan goes on with the network, or it ends
  pub view-goes : network.reply.number ≡ 0 → view_step used b costs r k ≡ setup_step used network.state.bench 2 r (buffers_with network.state [] k)
  unfolding view_step
  view-goes e = rw e

  pub view-ends : network.reply.number ≡ 17 → last_step 17 (last_text 17 r.events r.offset) r k ≡ view_step used b costs r k
  unfolding view_step last_text
  view-ends e = rw e

  -- the network, carried into a step
  pub view-turn :
      {bench : Bench} {sent held : List ℕ} →
      outcome (says tt) (state bench costs sent held k.messages) ≡ network →
      setup_step used bench 2 r (buffers costs sent held k.messages k.out) ≡ view_step used b costs r k
  unfolding view_step
  view-turn e =
      ap
      (λ (o : Outcome (Unit {0})).
      cond (eqb o.reply.number 0)
      (setup_step used o.state.bench 2 r (buffers_with o.state [] k))
      (last_step o.reply.number (refused_text o.reply.number r.offset) r k))
      e
