-- The setup of a plan: after any of its fields the bridge count, the ends of the links and the costs of the views are in range.
-- Assumes nothing.
use Prim.Native.Nat.{ℕ, ◌+◌, ◌*◌, ◌≤◌, ◌<◌}
use native.Mathlib.Nat.{not-suc-le-zero}
use native.Mathlib.Omega.{arith}
use mathlib.Core.Path.{◌≡◌, refl, ◌∙◌}
use mathlib.Core.Bool.{Bool, true, false}
use mathlib.Core.List.{List}
use borrow.Author.Tests.{eqb-true, eqb-false, lt-ltb}
use lib.ListN.{length, get_or, set, length-set, length-replicate}
use lib.Seq.{get_or-set_same, get_or-set_other}
use lib.Dec.{eqb}
use Rattle.distances.specs.Call.{graph_passes}
use Rattle.distances.proofs.Ranges.{graph-made, costs-made}
use Rattle.bench.specs.State.{part}
use Rattle.bench.specs.Outcomes.{blank}
use Rattle.bench.specs.declared.Bench.{Bench}
use Rattle.bench.proofs.TieRanges.{part_at, part_length, LastingOf}
use Rattle.plan.proofs.Laws.{ViewRead}
use Rattle.runner.specs.Steps.{with_bridges, with_link, with_view, with_row, ViewFits}
use Rattle.runner.specs.Plans.{first_runner, first_buffers}
use Rattle.runner.proofs.FieldSteps.{view-fits}
use Rattle.runner.proofs.RunRows.{row_number}

-- the ends of a link are two bridges
pub record Joins (bridges a b : ℕ) : Type 0 where
  pub first : a < bridges
  pub second : b < bridges
  pub differ : a ≡ b → ⊥

-- what the setup so far tells of the bench and the costs, by the stage
pub record Begun (stage : ℕ) (b : Bench) (costs : List ℕ) : Type 0 where
  pub early : stage ≤ 2
  pub uncounted : stage ≡ 0 → b.bridges ≡ 0
  pub least : 1 ≤ stage → 2 ≤ b.bridges
  pub most : b.bridges ≤ 16
  pub unlinked : stage ≡ 0 → b.links ≡ 0
  pub links_most : b.links ≤ 32
  pub unviewed : stage ≤ 1 → b.views ≡ 0
  pub viewed : 2 ≤ stage → 1 ≤ b.views
  pub views_most : b.views ≤ 32
  pub ends_long : length b.ends ≡ 64
  pub joins : (l : ℕ) → l < b.links → Joins b.bridges (get_or b.ends (2 * l) 0) (get_or b.ends (2 * l + 1) 0)
  pub cost : (t l : ℕ) → t < b.views → l < b.links → get_or costs (32 * t + l) 0 ≤ 16777215

pub begun_first : Begun 0 first_runner.bench first_buffers.costs
begun_first =
    record {
      early = omega arith;
      uncounted = λ h. refl;
      least = λ h. omega arith;
      most = omega arith;
      unlinked = λ h. refl;
      links_most = omega arith;
      unviewed = λ h. refl;
      viewed = λ h. omega arith;
      views_most = omega arith;
      ends_long = length-replicate {A = ℕ} 64 0;
      joins = λ l h. absurd (not-suc-le-zero h);
      cost = λ t l h. absurd (not-suc-le-zero h);
    }

module _ (stage : ℕ) (b : Bench) (costs : List ℕ) (s : Begun stage b costs) where
  pub bridges-begun : (n : ℕ) → stage ≡ 0 → 2 ≤ n → n ≤ 16 → Begun 1 (with_bridges b n) costs
  bridges-begun n opening least most =
      let none : b.links ≡ 0 = s.unlinked opening in
      let unseen : b.views ≡ 0 = s.unviewed (omega arith) in
      record {
        early = omega arith;
        uncounted = λ h. absurd (omega arith);
        least = λ h. least;
        most = most;
        unlinked = λ h. none;
        links_most = s.links_most;
        unviewed = λ h. unseen;
        viewed = λ h. absurd (omega arith);
        views_most = s.views_most;
        ends_long = s.ends_long;
        joins = λ l h. absurd (omega arith);
        cost = λ t l h g. absurd (omega arith);
      }

  pub link-begun : (x y : ℕ) → stage ≡ 1 → b.links < 32 → Joins b.bridges x y → Begun 1 (with_link b x y) costs
  link-begun x y counted room new =
      let unseen : b.views ≡ 0 = s.unviewed (omega arith) in
      record {
        early = omega arith;
        uncounted = λ h. absurd (omega arith);
        least = λ h. s.least (omega arith);
        most = s.most;
        unlinked = λ h. absurd (omega arith);
        links_most = omega arith;
        unviewed = λ h. unseen;
        viewed = λ h. absurd (omega arith);
        views_most = s.views_most;
        ends_long = simp length-set s.ends_long;
        joins = λ l h. joined l h (eqb l b.links) refl;
        cost = λ t l h g. absurd (omega arith);
      }
    where
      joined : (l : ℕ) → l < b.links + 1 → (q : Bool) → eqb l b.links ≡ q →
          Joins b.bridges (get_or (set (set b.ends (2 * b.links) x) (2 * b.links + 1) y) (2 * l) 0) (get_or (set (set b.ends (2 * b.links) x) (2 * b.links + 1) y) (2 * l + 1) 0)
      joined l h true q =
          rw (
            eqb-true l b.links q,
            get_or-set_other (set b.ends (2 * b.links) x) (2 * b.links + 1) (2 * b.links) y 0 (omega arith),
            get_or-set_same b.ends (2 * b.links) x 0 (omega (arith, s.ends_long)),
            get_or-set_same (set b.ends (2 * b.links) x) (2 * b.links + 1) y 0 (simp length-set (omega (arith, s.ends_long))),
          ) new
      joined l h false q =
          let low : l < b.links = omega (arith, eqb-false l b.links q) in
          rw (kept (2 * l) (omega arith), kept (2 * l + 1) (omega arith)) (s.joins l low)
        where
          kept : (i : ℕ) → i < 2 * b.links → get_or (set (set b.ends (2 * b.links) x) (2 * b.links + 1) y) i 0 ≡ get_or b.ends i 0
          kept i g = get_or-set_other (set b.ends (2 * b.links) x) (2 * b.links + 1) i y 0 (omega arith) ∙ get_or-set_other b.ends (2 * b.links) i x 0 (omega arith)

  pub view-begun : (rest : List ℕ) → ViewRead rest (record { stage = stage; bridges = b.bridges; links = b.links; views = b.views }) → 1024 ≤ length costs →
      Begun 2 (with_view b) (with_row rest b costs)
  view-begun rest told long =
      record {
        early = omega arith;
        uncounted = λ h. absurd (omega arith);
        least = λ h. s.least told.counted;
        most = s.most;
        unlinked = λ h. absurd (omega arith);
        links_most = s.links_most;
        unviewed = λ h. absurd (omega arith);
        viewed = λ h. omega arith;
        views_most = omega arith;
        ends_long = s.ends_long;
        joins = s.joins;
        cost = λ t l h g. cost-at t l h g (eqb t b.views) refl;
      }
    where
      fits : ViewFits rest b
      fits = view-fits stage rest b told

      cost-at : (t l : ℕ) → t < b.views + 1 → l < b.links → (q : Bool) → eqb t b.views ≡ q → get_or (with_row rest b costs) (32 * t + l) 0 ≤ 16777215
      cost-at t l h g true q =
          let new = row_number rest b costs fits long t l (omega (arith, fits.listed)) in
          rw (new, q, lt-ltb l b.links g) (told.costs l g)
      cost-at t l h g false q =
          let old = row_number rest b costs fits long t l (omega (arith, fits.listed)) in
          rw (old, q) (s.cost t l (omega (arith, eqb-false t b.views q)) g)

  -- `fresh` keeps them
  pub fresh-begun : Begun stage (blank b) costs
  fresh-begun =
      record {
        early = s.early;
        uncounted = s.uncounted;
        least = s.least;
        most = s.most;
        unlinked = s.unlinked;
        links_most = s.links_most;
        unviewed = s.unviewed;
        viewed = s.viewed;
        views_most = s.views_most;
        ends_long = s.ends_long;
        joins = s.joins;
        cost = s.cost;
      }

  -- the ranges of the graph
  graph-passes : stage ≡ 2 → graph_passes b.bridges b.links b.ends ≡ true
  graph-passes e =
      graph-made b.bridges b.links b.ends
      record {
        least = s.least (omega arith);
        most = s.most;
        links = s.links_most;
        first = λ l h. (s.joins l h).first;
        second = λ l h. (s.joins l h).second;
        differ = λ l h. (s.joins l h).differ;
      }
      (omega (arith, s.links_most, s.ends_long))

  -- what no call changes
  pub lasts : stage ≡ 2 → 1024 ≤ length costs → LastingOf b costs
  lasts e long =
      record {
        views_least = s.viewed (omega arith);
        views_most = s.views_most;
        graph = graph-passes e;
        costs_long = long;
        each_view = λ t h.
            let most : b.views ≤ 32 = s.views_most in
            let few : b.links ≤ 32 = s.links_most in
            costs-made b.links (part 32 t costs) (omega (arith, part_length 32 t costs (omega arith)))
            (λ l g. rw (part_at 32 t costs l (omega arith)) (s.cost t l h g));
      }
