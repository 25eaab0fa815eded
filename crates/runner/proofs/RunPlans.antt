-- What the setup leaves in the bench and the costs is what the page has set up. Assumes nothing.
use Prim.Native.Nat.{ℕ, ◌+◌, ◌*◌, ◌≤◌, ◌<◌}
use native.Mathlib.Omega.{arith}
use mathlib.Core.Path.{◌≡◌, refl, sym, ◌∙◌, ap, fun_ext}
use mathlib.Core.Bool.{Bool, true, false, cond, ◌&&◌}
use mathlib.Core.List.{List, []}
use borrow.Author.Tests.{eqb-true, le-ltb, ltb-true, ltb-false}
use lib.ListN.{length, get_or, set, drop, replicate, length-set, length-take, length-replicate, get_or-replicate, get_or-eq_default}
use lib.Dec.{eqb, ltb}
use Rattle.distances.proofs.Booleans.{not-both}
use Rattle.distances.specs.View.{Costs, costs_of}
use Rattle.protocol.specs.Net.{Plan}
use Rattle.bench.specs.State.{state, network, part}
use Rattle.bench.specs.declared.Bench.{Bench}
use Rattle.bench.proofs.TieRanges.{part_at, get_d-stored}
use Rattle.plan.specs.Fields.{cost_in}
use Rattle.runner.specs.Program.{nothing_set_up, add_link, add_view}
use Rattle.runner.specs.Plans.{first_runner, first_buffers}
use Rattle.runner.specs.Steps.{with_link, with_view, with_row, ViewFits}
use Rattle.runner.proofs.RunRows.{row_number}

-- the plan that stands in a bench and costs
abbrev pub plan_of : Bench → List ℕ → Plan
plan_of b costs = (network (state b costs [] [] [])).plan

-- one link more
module _ (b : Bench) (x y : ℕ) (few : b.links < 32) (long : length b.ends ≡ 64) where
  abbrev one : ℕ
  one = 2 * b.links

  abbrev other : ℕ
  other = 2 * b.links + 1

  end-at : (e : ℕ) → get_or (set (set b.ends one x) other y) e 0 ≡ cond (eqb e one) x (cond (eqb e other) y (get_or b.ends e 0))
  end-at e =
      get_d-stored (set b.ends one x) other y e 0 (omega (arith, few, long, length-set b.ends one x))
      ∙ ap (cond (eqb e other) y) (get_d-stored b.ends one x e 0 (omega (arith, few, long)))
      ∙ swapped (eqb e one) (eqb e other) refl refl
    where
      swapped : (p q : Bool) → eqb e one ≡ p → eqb e other ≡ q → cond q y (cond p x (get_or b.ends e 0)) ≡ cond p x (cond q y (get_or b.ends e 0))
      swapped true true first second = absurd (omega (arith, eqb-true e one first, eqb-true e other second))
      swapped true false first second = refl
      swapped false q first second = refl

  pub link-plan : (costs : List ℕ) → plan_of (with_link b x y) costs ≡ add_link (plan_of b costs) x y
  link-plan costs =
      ap
      (λ (f : ℕ → ℕ).
      record {
        graph = record { bridges = b.bridges; links = b.links + 1; bridge_at = f };
        views = b.views;
        costs = (plan_of b costs).costs;
      })
      (fun_ext end-at)

-- a row has 32 numbers
beyond : (t l : ℕ) (cs : List ℕ) → 32 ≤ l → get_or (part 32 t cs) l 0 ≡ 0
beyond t l cs h = get_or-eq_default (part 32 t cs) 0 (omega (arith, h, length-take 32 (drop (32 * t) cs)))

-- one view more
module _ (rest : List ℕ) (b : Bench) (costs : List ℕ) (fits : ViewFits rest b) (long : 1024 ≤ length costs) where
  cost-at : (t l : ℕ) → costs_of (part 32 t (with_row rest b costs)) l ≡ (add_view (plan_of b costs) rest).costs t l
  cost-at t l = go (ltb l 32) refl
    where
      go : (q : Bool) → ltb l 32 ≡ q → get_or (part 32 t (with_row rest b costs)) l 0 ≡ cond (eqb t b.views && ltb l b.links) (cost_in rest l) (get_or (part 32 t costs) l 0)
      go true q =
          let low = ltb-true l 32 q in
          part_at 32 t (with_row rest b costs) l low
          ∙ row_number rest b costs fits long t l low
          ∙ ap (cond (eqb t b.views && ltb l b.links) (cost_in rest l)) (sym (part_at 32 t costs l low))
      go false q =
          let high = ltb-false l 32 q in
          rw (not-both (eqb t b.views) (ltb l b.links) (le-ltb l b.links (omega (arith, high, fits.listed))))
          (beyond t l (with_row rest b costs) high ∙ sym (beyond t l costs high))

  pub view-plan : plan_of (with_view b) (with_row rest b costs) ≡ add_view (plan_of b costs) rest
  view-plan =
      ap
      (λ (c : ℕ → Costs). record { graph = (plan_of b costs).graph; views = b.views + 1; costs = c })
      (fun_ext (λ t. fun_ext (cost-at t)))

-- nothing is set up at first
zero-at : (n i : ℕ) → get_or {A = ℕ} (replicate n 0) i 0 ≡ 0
zero-at n i = go (ltb i n) refl
  where
    go : (q : Bool) → ltb i n ≡ q → get_or {A = ℕ} (replicate n 0) i 0 ≡ 0
    go true q = get_or-replicate n i 0 0 (ltb-true i n q)
    go false q = get_or-eq_default (replicate n 0) 0 (omega (arith, ltb-false i n q, length-replicate {A = ℕ} n 0))

no-cost : (t l : ℕ) → get_or (part 32 t (replicate 1024 0)) l 0 ≡ 0
no-cost t l = go (ltb l 32) refl
  where
    go : (q : Bool) → ltb l 32 ≡ q → get_or (part 32 t (replicate 1024 0)) l 0 ≡ 0
    go true q = part_at 32 t (replicate 1024 0) l (ltb-true l 32 q) ∙ zero-at 1024 (32 * t + l)
    go false q = beyond t l (replicate 1024 0) (ltb-false l 32 q)

pub first-plan : plan_of first_runner.bench first_buffers.costs ≡ nothing_set_up
first-plan =
    ap (λ (f : ℕ → ℕ). record { graph = record { bridges = 0; links = 0; bridge_at = f }; views = 0; costs = λ t. costs_of (part 32 t (replicate 1024 0)) })
    (fun_ext (zero-at 64))
    ∙ ap (λ (c : ℕ → Costs). record { graph = record { bridges = 0; links = 0; bridge_at = λ e. 0 }; views = 0; costs = c })
    (fun_ext (λ t. fun_ext (no-cost t)))
