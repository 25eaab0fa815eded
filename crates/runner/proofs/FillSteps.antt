-- Steps on, one after another: how far they have come, and where they end. Assumes nothing.
use Prim.Native.Nat.{ℕ, zero, suc, ◌+◌, ◌-◌, ◌≤◌, ◌<◌}
use native.Mathlib.Omega.{arith}
use mathlib.Core.Path.{◌≡◌, refl}
use mathlib.Core.Bool.{Bool, true, false, cond}
use mathlib.Core.List.{List}
use lib.ListN.{length, take, drop, length-append, length-drop}
use lib.Seq.{length-take-le}
use Rattle.distances.proofs.Booleans.{both_true}
use Rattle.runner.specs.Buffers.{Buffers}
use Rattle.runner.specs.Steps.{StepOutcome, step_of}
use Rattle.runner.specs.Fills.{buffers_with_out, step_on, steps_on, fills, fields_at_once, fill_of}
use Rattle.runner.specs.declared.Runner.{Runner}
use Rattle.runner.proofs.RunFuel.{uses}
use Rattle.runner.proofs.FillTexts.{step-within}

-- the bytes that are left, and one more while the plan goes on
abbrev pub left : StepOutcome → List ℕ → ℕ
left t rest = cond t.going (suc (length rest - t.used)) 0

module _ (rest : List ℕ) (t : StepOutcome) where
  -- the buffers, the plan and the step that comes next
  abbrev pub buffers_behind : Buffers
  buffers_behind = buffers_with_out (drop t.written t.buffers.out) t.buffers

  abbrev pub rest_behind : List ℕ
  rest_behind = drop t.used rest

  abbrev pub next : StepOutcome
  next = step_of t.runner buffers_behind rest_behind

  -- it uses bytes, or is the last
  fewer : steps_on t ≡ true → left (step_on t rest) rest < left t rest
  unfolding steps_on step_on
  fewer on = rw (both_true t.going _ on).0 (go next.going refl)
    where
      go : (b : Bool) → next.going ≡ b → cond b (suc (length rest - (t.used + next.used))) 0 < suc (length rest - t.used)
      go true e =
          omega (arith, uses t.runner buffers_behind rest_behind e, length-drop next.used rest_behind, length-drop t.used rest)
      go false e = omega arith

  pub step-on-used : t.used ≤ length rest → (step_on t rest).used ≤ length rest
  unfolding step_on
  step-on-used low = omega (arith, low, (step-within t.runner buffers_behind rest_behind).used, length-drop t.used rest)

  pub step-on-written : t.written ≤ length t.buffers.out → (step_on t rest).written ≤ length t.buffers.out
  unfolding step_on
  step-on-written low =
      omega (arith, low, (step-within t.runner buffers_behind rest_behind).written, length-drop t.written t.buffers.out)

  pub step-on-kept : t.written ≤ length t.buffers.out → length (step_on t rest).buffers.out ≡ length t.buffers.out
  unfolding step_on
  step-on-kept low =
      omega (
        arith,
        low,
        (step-within t.runner buffers_behind rest_behind).kept,
        length-append (take t.written t.buffers.out) next.buffers.out,
        length-take-le t.written t.buffers.out low,
        length-drop t.written t.buffers.out,
      )

  pub on-within : t.written ≤ length t.buffers.out → (step_on t rest).written ≤ length (step_on t rest).buffers.out
  on-within low = omega (arith, step-on-written low, step-on-kept low)

pub step-written : (r : Runner) (k : Buffers) (rest : List ℕ) → (step_of r k rest).written ≤ length (step_of r k rest).buffers.out
step-written r k rest = omega (arith, (step-within r k rest).written, (step-within r k rest).kept)

pub fills-more : (fuel : ℕ) (t : StepOutcome) (rest : List ℕ) → steps_on t ≡ true → fills (suc fuel) t rest ≡ fills fuel (step_on t rest) rest
unfolding fills
fills-more fuel t rest on = rw on

-- nothing follows the last step
pub fills-over : (n : ℕ) (t : StepOutcome) (rest : List ℕ) → t.going ≡ false → fills n t rest ≡ t
unfolding fills steps_on
fills-over zero t rest off = refl
fills-over (suc n) t rest off = rw off

-- steps on leave no more than there was
fills-left : (fuel : ℕ) (rest : List ℕ) (t : StepOutcome) → left (fills fuel t rest) rest ≤ left t rest
unfolding fills
fills-left zero rest t = omega arith
fills-left (suc fuel) rest t = go (fills-left fuel rest (step_on t rest)) (steps_on t) refl
  where
    go : left (fills fuel (step_on t rest) rest) rest ≤ left (step_on t rest) rest → (b : Bool) → steps_on t ≡ b → left (cond b (fills fuel (step_on t rest) rest) t) rest ≤ left t rest
    go less true on = omega (arith, less, fewer rest t on)
    go less false off = omega arith

-- ---- for callers: a filling keeps within what is lent, and where the plan goes on it has used some of it

fills-used : (fuel : ℕ) (rest : List ℕ) (t : StepOutcome) → t.used ≤ length rest → (fills fuel t rest).used ≤ length rest
unfolding fills
fills-used zero rest t low = low
fills-used (suc fuel) rest t low = go (fills-used fuel rest (step_on t rest) (step-on-used rest t low)) (steps_on t)
  where
    go : (fills fuel (step_on t rest) rest).used ≤ length rest → (b : Bool) → (cond b (fills fuel (step_on t rest) rest) t).used ≤ length rest
    go less true = less
    go less false = low

fills-written : (fuel : ℕ) (rest : List ℕ) (t : StepOutcome) → t.written ≤ length t.buffers.out → (fills fuel t rest).written ≤ length (fills fuel t rest).buffers.out
unfolding fills
fills-written zero rest t low = low
fills-written (suc fuel) rest t low = go (fills-written fuel rest (step_on t rest) (on-within rest t low)) (steps_on t)
  where
    go :
        (fills fuel (step_on t rest) rest).written ≤ length (fills fuel (step_on t rest) rest).buffers.out →
        (b : Bool) → (cond b (fills fuel (step_on t rest) rest) t).written ≤ length (cond b (fills fuel (step_on t rest) rest) t).buffers.out
    go less true = less
    go less false = low

step_left : (r : Runner) (k : Buffers) (rest : List ℕ) → left (step_of r k rest) rest ≤ length rest
step_left r k rest = go (step_of r k rest).going refl
  where
    go : (b : Bool) → (step_of r k rest).going ≡ b → cond b (suc (length rest - (step_of r k rest).used)) 0 ≤ length rest
    go true e = omega (arith, uses r k rest e, length-drop (step_of r k rest).used rest)
    go false e = omega arith

pub record FillWithin (r : Runner) (k : Buffers) (rest : List ℕ) : Type 0 where
  pub used : (fill_of r k rest).used ≤ length rest
  pub written : (fill_of r k rest).written ≤ length (fill_of r k rest).buffers.out
  pub goes : (fill_of r k rest).going ≡ true → 0 < (fill_of r k rest).used

pub fill-within : (r : Runner) (k : Buffers) (rest : List ℕ) → FillWithin r k rest
unfolding fill_of
fill-within r k rest =
    let t : StepOutcome = step_of r k rest in
    let more : ℕ = fields_at_once r k rest - 1 in
    let less : left (fills more t rest) rest ≤ length rest = omega (arith, fills-left more rest t, step_left r k rest) in
    record {
      used = fills-used more rest t (step-within r k rest).used;
      written = fills-written more rest t (step-written r k rest);
      goes = λ e. omega (arith, rw e at less);
    }
