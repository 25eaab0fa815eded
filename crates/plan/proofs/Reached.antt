-- How far a plan can have come, for the layers above: such a progress is in range, so that what is read is the field at the head of the
-- bytes, which uses some of them. Assumes nothing.
use Prim.Native.Nat.{ℕ, ◌≤◌, ◌<◌}
use native.Mathlib.Omega.{arith}
use mathlib.Core.Path.{◌≡◌, refl}
use mathlib.Core.Bool.{Bool, true, false, cond}
use mathlib.Core.List.{List}
use borrow.Author.Tests.{le-leb, eq-eqb, eqb-true, eqb-false}
use lib.ListN.{length, drop, length-drop}
use lib.Dec.{eqb}
use Rattle.distances.proofs.Booleans.{true-both}
use Rattle.plan.specs.Sizes.{least_bridges, most_bridges, most_links, most_views}
use Rattle.plan.specs.Fields.{size, field_of}
use Rattle.plan.specs.Reading.{Read, field_refusal, read_of, graph_counted, progress_in_range, read_reply}
use Rattle.plan.specs.declared.Progress.{Progress}
use Rattle.plan.specs.declared.Field.{Field}

-- by the stage: nothing, a bridge count and links, views beside them
pub record Reached (p : Progress) : Type 0 where
  pub stages : p.stage ≤ 3
  pub nothing : p.stage ≡ 0 → (p.bridges ≡ 0) × (p.links ≡ 0) × (p.views ≡ 0)
  pub counted : 1 ≤ p.stage → (least_bridges ≤ p.bridges) × (p.bridges ≤ most_bridges) × (p.links ≤ most_links)
  pub unviewed : p.stage ≡ 1 → p.views ≡ 0
  pub viewed : 2 ≤ p.stage → (1 ≤ p.views) × (p.views ≤ most_views)

pub reached-in-range : (p : Progress) → Reached p → progress_in_range p ≡ true
unfolding progress_in_range graph_counted
reached-in-range p r = go (eqb p.stage 0) (eqb p.stage 1) refl refl
  where
    graph : 1 ≤ p.stage → graph_counted p ≡ true
    graph some =
        let c = r.counted some in
        true-both (le-leb _ _ c.0) (true-both (le-leb _ _ c.1) (le-leb _ _ c.2))

    go : (a b : Bool) → eqb p.stage 0 ≡ a → eqb p.stage 1 ≡ b → progress_in_range p ≡ true
    go true b first second =
        let none = r.nothing (eqb-true p.stage 0 first) in
        rw first (true-both (eq-eqb _ 0 none.0) (true-both (eq-eqb _ 0 none.1) (eq-eqb _ 0 none.2)))
    go false true first second =
        let one : p.stage ≡ 1 = eqb-true p.stage 1 second in
        rw (first, second) (true-both (graph (omega arith)) (eq-eqb _ 0 (r.unviewed one)))
    go false false first second =
        let late : 2 ≤ p.stage = omega (arith, eqb-false p.stage 0 first, eqb-false p.stage 1 second) in
        let views = r.viewed late in
        rw (first, second)
        (true-both (le-leb _ _ r.stages) (true-both (graph (omega arith)) (true-both (le-leb _ _ views.0) (le-leb _ _ views.1))))

pub read-reached : (rest : List ℕ) (p : Progress) → Reached p → read_reply rest p ≡ read_of rest p
unfolding read_reply
read-reached rest p r = rw (reached-in-range p r)

-- whatever the progress
pub read-uses : (rest : List ℕ) (p : Progress) {f : Field} {k : ℕ} → read_of rest p ≡ Read.Field f k → length (drop k rest) < length rest
unfolding read_of
read-uses rest p {f} {k} = go (eqb (length rest) 0) (eqb (field_refusal rest p) 0) refl
  where
    stopped : {n : ℕ} → Read.Stop n ≡ Read.Field f k → ⊥
    stopped e = let z : ◌≡◌ {A = ℕ} 0 1 = cc in omega arith

    go : (a b : Bool) → eqb (length rest) 0 ≡ a →
        cond a (Read.Stop (cond (eqb p.views 0) 4 0)) (cond b (Read.Field (field_of rest) (size rest)) (Read.Stop (field_refusal rest p))) ≡ Read.Field f k →
        length (drop k rest) < length rest
    go true b none e = absurd (stopped e)
    go false true some e =
        let taken : size rest ≡ k = cc in
        omega (arith, length-drop k rest, eqb-false (length rest) 0 some)
    go false false some e = absurd (stopped e)
