-- Reading a plan: fuel for one field more than there are bytes is enough, and from the first event on what is set up stays.
-- Assumes nothing.
use Prim.Native.Nat.{ℕ, zero, suc, ◌<◌}
use native.Mathlib.Nat.{not-suc-le-zero}
use native.Mathlib.Omega.{arith}
use mathlib.Core.Path.{◌≡◌, refl, ◌∙◌}
use mathlib.Core.List.{List}
use lib.ListN.{length, drop}
use Rattle.protocol.specs.Net.{Plan}
use Rattle.plan.specs.Reading.{Read, read_of}
use Rattle.plan.specs.declared.Field.{Field}
use Rattle.plan.proofs.Laws.{FieldRead, field-read}
use Rattle.plan.proofs.Reached.{Reached, read-reached, read-uses}
use Rattle.runner.specs.Program.{nothing_set_up, Reading, reading, progress_in, PlanRead, read_on, read_from, read_plan}
use Rattle.runner.specs.Whole.{ReadingEnds}

-- what is read behind a field decides
on_same :
    (f h : Reading → List ℕ → PlanRead) (g : Reading) (rest : List ℕ) (d : Read) →
    ((x : Field) (used : ℕ) → d ≡ Read.Field x used → (next : Reading) → f next (drop used rest) ≡ h next (drop used rest)) →
    read_on f g rest d ≡ read_on h g rest d
unfolding read_on
on_same f h g rest (Read.Field (Field.Bridges n) used) same = same (Field.Bridges n) used refl _
on_same f h g rest (Read.Field (Field.Link x y) used) same = same (Field.Link x y) used refl _
on_same f h g rest (Read.Field Field.View used) same = same Field.View used refl _
on_same f h g rest (Read.Field (Field.Event e) used) same = rw (same (Field.Event e) used refl _)
on_same f h g rest (Read.Stop number) same = refl

reads_same : (fuel more : ℕ) (g : Reading) (rest : List ℕ) → length rest < fuel → length rest < more → read_from fuel g rest ≡ read_from more g rest
unfolding read_from
reads_same zero more g rest h k = absurd (not-suc-le-zero h)
reads_same (suc fuel) zero g rest h k = absurd (not-suc-le-zero k)
reads_same (suc fuel) (suc more) g rest h k =
    on_same (read_from fuel) (read_from more) g rest (read_of rest (progress_in g))
    (λ x used e next.
    let less = read-uses rest (progress_in g) e in
    reads_same fuel more next (drop used rest) (omega (arith, less, h)) (omega (arith, less, k)))

pub reading-ends : ReadingEnds
unfolding read_plan
reading-ends plan fuel enough = reads_same fuel (suc (length plan)) (reading 0 nothing_set_up 0) plan enough (omega arith)

-- an event is the only field that can come
pub setup-fixed : (fuel : ℕ) (p : Plan) (offset : ℕ) (rest : List ℕ) → Reached (progress_in (reading 3 p offset)) → (read_from fuel (reading 3 p offset) rest).setup ≡ p
unfolding read_from read_on
setup-fixed zero p offset rest reached = refl
setup-fixed (suc fuel) p offset rest reached = go (setup-fixed fuel p) (read_of rest (progress_in (reading 3 p offset))) refl
  where
    go : ((offset : ℕ) (rest : List ℕ) → Reached (progress_in (reading 3 p offset)) → (read_from fuel (reading 3 p offset) rest).setup ≡ p) →
        (d : Read) → read_of rest (progress_in (reading 3 p offset)) ≡ d → (read_on (read_from fuel) (reading 3 p offset) rest d).setup ≡ p
    go later (Read.Stop number) is = refl
    go later (Read.Field f used) is = field f (field-read rest (progress_in (reading 3 p offset)) (read-reached rest (progress_in (reading 3 p offset)) reached ∙ is))
      where
        field : (f : Field) → FieldRead rest (progress_in (reading 3 p offset)) f → (read_on (read_from fuel) (reading 3 p offset) rest (Read.Field f used)).setup ≡ p
        field (Field.Bridges n) told = absurd (omega (arith, told.opening))
        field (Field.Link x y) told = absurd (omega (arith, told.counted))
        field Field.View told = absurd (omega (arith, told.early))
        field (Field.Event e) told = later _ (drop used rest) reached
