-- What `step_by` is, call by call. Assumes nothing.
use Prim.Native.Nat.{ℕ}
use mathlib.Core.Path.{◌≡◌, refl}
use Rattle.protocol.specs.Calls.{change, update, deliver, repeat}
use Rattle.bench.specs.State.{State, state}
use Rattle.bench.specs.Private.Changes.{BenchOutcome, update_of}
use Rattle.bench.specs.Private.Queue.{QueueOutcome}
use Rattle.bench.specs.Private.Deliveries.{deliver_of, repeat_of}
use Rattle.bench.specs.Private.ListSteps.{step_by}
pub use Rattle.bench.specs.Private.Changes.{with_rewritten}
pub use Rattle.bench.specs.Private.Deliveries.{with_delivered}

-- the state with what a call on the bench alone has made of it
abbrev pub with_changed : State → BenchOutcome → State
with_changed s o = state o.bench s.costs s.sent s.held s.messages

-- with what a call on the messages alone has made of it
abbrev pub with_queue : State → QueueOutcome → State
with_queue s o = state o.bench s.costs s.sent s.held o.messages

module _ (s : State) where
  pub update-step : (y t : ℕ) → step_by s (change (update y t)) ≡ with_rewritten s (update_of s y t)
  unfolding step_by
  update-step y t = refl

  pub deliver-step : (p : ℕ) → step_by s (deliver p) ≡ with_delivered s (deliver_of s p)
  unfolding step_by
  deliver-step p = refl

  pub repeat-step : (p : ℕ) → step_by s (repeat p) ≡ with_delivered s (repeat_of s p)
  unfolding step_by
  repeat-step p = refl
