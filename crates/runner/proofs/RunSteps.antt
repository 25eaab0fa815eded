-- What a step can be: refused for its buffers, the plan's end, or a field carried out. Assumes nothing.
use Prim.Native.Nat.{ℕ, ◌≤◌}
use mathlib.Core.Path.{◌≡◌, refl}
use mathlib.Core.Bool.{Bool, true, false, ◌&&◌}
use mathlib.Core.List.{List}
use borrow.Author.Tests.{le-leb}
use lib.ListN.{length}
use Rattle.distances.proofs.Booleans.{both_true}
use Rattle.plan.specs.Reading.{Read, read_of, read_reply}
use Rattle.plan.proofs.Reached.{Reached, read-reached}
use Rattle.plan.specs.declared.Field.{Field}
use Rattle.runner.specs.Buffers.{Buffers, buffers_long, progress_of}
use Rattle.runner.specs.Steps.{step_outcome, last_step, last_text, field_step, read_step, runner_in_range, step_of}
use Rattle.runner.specs.declared.Runner.{Runner}

pub data Step (r : Runner) (k : Buffers) (rest : List ℕ) : Type 0 where
  refused : step_of r k rest ≡ step_outcome 17 false 0 0 r k → Step r k rest
  ended : (number : ℕ) → read_reply rest (progress_of r) ≡ Read.Stop number → step_of r k rest ≡ last_step number (last_text number r.events r.offset) r k → Step r k rest
  carried : (f : Field) (used : ℕ) → buffers_long k ≡ true → read_reply rest (progress_of r) ≡ Read.Field f used → step_of r k rest ≡ field_step rest f used r k → Step r k rest

pub step_is : (r : Runner) (k : Buffers) (rest : List ℕ) → Step r k rest
unfolding step_of read_step
step_is r k rest = go (runner_in_range r && buffers_long k) (read_reply rest (progress_of r)) refl refl
  where
    go : (b : Bool) (d : Read) → (runner_in_range r && buffers_long k) ≡ b → read_reply rest (progress_of r) ≡ d → Step r k rest
    go false d e h = refused (rw e)
    go true (Read.Stop number) e h = ended number h (rw (e, h))
    go true (Read.Field f used) e h = carried f used (both_true (runner_in_range r) _ e).1 h (rw (e, h))

-- ---- a step that is not refused reads the field at the head of the bytes

-- buffers that are long enough
pub record Long (k : Buffers) : Type 0 where
  pub costs : 1024 ≤ length k.costs
  pub sent : 1024 ≤ length k.sent
  pub held : 1024 ≤ length k.held
  pub messages : 320 ≤ length k.messages
  pub out : 544 ≤ length k.out

pub step-reads :
    (r : Runner) (k : Buffers) (rest : List ℕ) → r.events ≤ 61440 → r.offset ≤ 61440 → Long k → Reached (progress_of r) →
    step_of r k rest ≡ read_step rest (read_of rest (progress_of r)) r k
unfolding step_of runner_in_range buffers_long
step-reads r k rest few early long reached =
    rw (
      le-leb r.events 61440 few,
      le-leb r.offset 61440 early,
      le-leb 1024 (length k.costs) long.costs,
      le-leb 1024 (length k.sent) long.sent,
      le-leb 1024 (length k.held) long.held,
      le-leb 320 (length k.messages) long.messages,
      le-leb 544 (length k.out) long.out,
      read-reached rest (progress_of r) reached,
    )
