-- The turns of a step, from what its calls ensure: a setup, an event, the plan's end; and what the checks of a step tell. Assumes nothing.
use Prim.Native.Nat.{ℕ, ◌+◌, ◌≤◌, ◌<◌}
use native.Mathlib.Omega.{arith}
use mathlib.Core.Path.{◌≡◌, ◌∙◌, ap}
use mathlib.Core.Bool.{Bool, true, false, ◌&&◌}
use mathlib.Core.List.{List, []}
use borrow.Author.Tests.{leb-true, ne_eqb}
use lib.ListN.{length}
use lib.Dec.{leb}
use Rattle.distances.proofs.Booleans.{both_true}
use Rattle.bench.specs.State.{State}
use Rattle.bench.specs.Batches.{reply_of}
use Rattle.bench.specs.declared.Bench.{Bench}
use Rattle.plan.specs.Fields.{byte}
use Rattle.plan.specs.Reading.{Read, read_reply}
use Rattle.bench.specs.declared.Event.{Event}
use Rattle.plan.specs.declared.Field.{Field}
use Rattle.plan.proofs.Laws.{FieldRead, ViewRead, field-size, field-read}
use Rattle.runner.specs.Buffers.{Buffers, buffers, buffers_long, state_on, progress_of}
use Rattle.runner.specs.Events.{text_of, state_after, Line, line, line_of}
use Rattle.runner.specs.Steps.{StepOutcome, step_outcome, last_step, last_text, event_step, field_step, read_step, step_of, runner_in_range, ViewFits, field_fits}
use Rattle.runner.specs.declared.Runner.{Runner}

-- a private call to which the bytes to be printed alone are lent: its step on all of the buffers
pub ended-on :
    (number : ℕ) (text : List ℕ) (r : Runner) (k : Buffers) {reply : ℕ} {going : Bool} {taken written : ℕ} {runner : Runner} {out : List ℕ} →
    step_outcome reply going taken written runner (buffers [] [] [] [] out) ≡ last_step number text r (buffers [] [] [] [] k.out) →
    step_outcome reply going taken written runner (buffers k.costs k.sent k.held k.messages out)
    ≡ last_step number text r k
unfolding last_step
ended-on number text r k e =
    ap
    (λ (t : StepOutcome).
    step_outcome t.reply t.going t.used t.written t.runner
    (buffers k.costs k.sent k.held k.messages t.buffers.out))
    e

-- ---- events

module _ (e : Event) (used : ℕ) (r : Runner) (k : Buffers) where
  abbrev now : State
  now = state_on r.bench k

  pub accepted-turn :
      reply_of now e ≡ 0 →
      {after : State} →
      after ≡ state_after now e →
      {written : ℕ} {out : List ℕ} →
      line written out ≡ line_of (text_of now e) k.out →
      step_outcome 0 true used written
      (record { bench = after.bench; stage = 3; events = r.events + 1; offset = r.offset + used })
      (buffers after.costs after.sent after.held after.messages out)
      ≡ event_step e used r k
  unfolding event_step
  accepted-turn none is put =
      let count = ap (λ (l : Line). l.count) put in
      let bytes = ap (λ (l : Line). l.out) put in
      rw (none, is, count, bytes)

  pub refused-turn :
      (reply : ℕ) →
      reply ≡ reply_of now e →
      (reply ≡ 0 → ⊥) →
      {after : State} →
      after ≡ now →
      last_step reply (last_text reply r.events r.offset) (record { bench = after.bench; stage = r.stage; events = r.events; offset = r.offset })
      (buffers after.costs after.sent after.held after.messages k.out)
      ≡ event_step e used r k
  unfolding event_step last_step last_text
  refused-turn reply same some is =
      let other : reply_of now e ≡ 0 → ⊥ = λ z. some (same ∙ z) in
      rw (same, ne_eqb _ 0 other, is)

-- ---- what a step's checks tell

-- the lent buffers are long
pub record Long (k : Buffers) : Type 0 where
  pub costs : 1024 ≤ length k.costs
  pub sent : 1024 ≤ length k.sent
  pub held : 1024 ≤ length k.held
  pub messages : 320 ≤ length k.messages
  pub out : 544 ≤ length k.out

pub long-told : (k : Buffers) → buffers_long k ≡ true → Long k
unfolding buffers_long
long-told k ok =
    let costs = both_true (leb 1024 (length k.costs)) _ ok in
    let sent = both_true (leb 1024 (length k.sent)) _ costs.1 in
    let held = both_true (leb 1024 (length k.held)) _ sent.1 in
    let messages = both_true (leb 320 (length k.messages)) _ held.1 in
    record {
      costs = leb-true _ _ costs.0;
      sent = leb-true _ _ sent.0;
      held = leb-true _ _ held.0;
      messages = leb-true _ _ messages.0;
      out = leb-true _ _ messages.1;
    }

pub record StepFacts (r : Runner) (k : Buffers) : Type 0 where
  pub events : r.events ≤ 61440
  pub offset : r.offset ≤ 61440
  pub long : Long k

pub step-told : (r : Runner) (k : Buffers) → (runner_in_range r && buffers_long k) ≡ true → StepFacts r k
unfolding runner_in_range
step-told r k ok =
    let all = both_true (leb r.events 61440 && leb r.offset 61440) _ ok in
    let counts = both_true (leb r.events 61440) _ all.0 in
    record { events = leb-true _ _ counts.0; offset = leb-true _ _ counts.1; long = long-told k all.1 }

-- what the reader tells of a view
pub view-fits :
    (stage : ℕ) (rest : List ℕ) (b : Bench) →
    ViewRead rest (record { stage = stage; bridges = b.bridges; links = b.links; views = b.views }) →
    ViewFits rest b
view-fits stage rest b h = record { room = h.room; listed = h.listed; whole = h.whole; costs = h.costs }

-- and of any field
told-fits : (rest : List ℕ) (r : Runner) (f : Field) → FieldRead rest (progress_of r) f → field_fits rest r.bench f
told-fits rest r (Field.Bridges n) h = tt
told-fits rest r (Field.Link x y) h = h.room
told-fits rest r Field.View h = view-fits r.stage rest r.bench h
told-fits rest r (Field.Event e) h = tt

module _ (rest : List ℕ) (r : Runner) {f : Field} {used : ℕ} (read : read_reply rest (progress_of r) ≡ Read.Field f used) where
  pub field_fits_lem : field_fits rest r.bench f
  field_fits_lem = told-fits rest r f (field-read rest (progress_of r) read)

  -- a field of a header and two bytes' worth of value
  pub field-used : byte rest 1 < 256 → byte rest 2 < 256 → used ≤ 65538
  field-used first second = omega (arith, field-size rest (progress_of r) read)

-- ---- the whole step

module _ (rest : List ℕ) (r : Runner) (k : Buffers) where
  pub step-out : (runner_in_range r && buffers_long k) ≡ false → step_outcome 17 false 0 0 r k ≡ step_of r k rest
  unfolding step_of
  step-out e = rw e

  -- what was read: a field or the plan's end
  module _ (ok : (runner_in_range r && buffers_long k) ≡ true) where
    pub step-field : {f : Field} {used : ℕ} → read_reply rest (progress_of r) ≡ Read.Field f used → field_step rest f used r k ≡ step_of r k rest
    unfolding step_of read_step
    step-field read = rw (ok, read)

    pub step-end : {number : ℕ} → read_reply rest (progress_of r) ≡ Read.Stop number → last_step number (last_text number r.events r.offset) r k ≡ step_of r k rest
    unfolding step_of read_step
    step-end read = rw (ok, read)
