-- Before the first event: each field of the setup leaves what the page has set up, and where the first event comes the fresh network of it
-- stands. Assumes nothing.
use Prim.Native.Nat.{ℕ, zero, suc, ◌+◌, ◌≤◌, ◌<◌}
use native.Mathlib.Nat.{not-suc-le-zero}
use native.Mathlib.Omega.{arith}
use mathlib.Core.Path.{◌≡◌, refl, sym, ◌∙◌, ap, subst}
use mathlib.Core.List.{List, [], ◌∷◌}
use lib.ListN.{length, drop, length-drop}
use lib.Seq.{length-sets}
use Rattle.protocol.specs.Net.{Plan, PlanInRange, fresh}
use Rattle.bench.specs.State.{state}
use Rattle.bench.specs.Outcomes.{Outcome}
use Rattle.bench.specs.Batches.{call_of}
use Rattle.bench.specs.declared.Bench.{Bench}
use Rattle.bench.specs.declared.Event.{Event}
use Rattle.bench.proofs.Represents.{Represents}
use Rattle.bench.proofs.TieFresh.{fresh-stands}
use Rattle.bench.proofs.TieRanges.{LastingOf, plan-in-range}
use Rattle.plan.specs.Reading.{Read, read_of, read_reply}
use Rattle.plan.specs.declared.Field.{Field}
use Rattle.plan.proofs.Laws.{ViewRead, FieldRead, field-read, field-size}
use Rattle.plan.proofs.Reached.{Reached, read-reached}
use Rattle.runner.specs.Buffers.{Buffers, state_on, buffers_with, progress_of}
use Rattle.runner.specs.Steps.{setup_step, with_link, with_view, with_row, fresh_with_view, view_step, event_step, field_step, read_step, step_of, ViewFits}
use Rattle.runner.specs.Plans.{prints}
use Rattle.runner.specs.Program.{add_view, with_event, Reading, reading, PlanEvent, PlanRead, read_on, read_from, last_text, carried_out, output_of}
use Rattle.runner.specs.declared.Runner.{Runner}
use Rattle.runner.proofs.ReadLaws.{setup-fixed}
use Rattle.runner.proofs.FillTexts.{last-short}
use Rattle.runner.proofs.FieldSteps.{view-fits}
use Rattle.runner.proofs.RunSteps.{Long, step-reads}
use Rattle.runner.proofs.RunEvents.{Running, printed_by, last-printed, event-printed, follows}
use Rattle.runner.proofs.RunPlans.{plan_of, link-plan, view-plan}
use Rattle.runner.proofs.RunRows.{row_kept}
use Rattle.runner.proofs.RunSetup.{Begun, bridges-begun, link-begun, lasts}
use Rattle.runner.proofs.ViewSteps.{view-goes}
use Rattle.runner.proofs.RunFresh.{Standing, view-taken, view-leaves, view-stands}

-- where a plan stands before its first event
pub record SetUp (r : Runner) (k : Buffers) (rest : List ℕ) : Type 0 where
  pub standing : Standing r.stage r.bench k.costs k.sent k.held
  pub long : Long k
  pub events : r.events ≡ 0
  pub room : r.offset + length rest ≤ 61440

-- what the page has read there
abbrev pub sofar : Runner → Buffers → Reading
sofar r k = reading r.stage (plan_of r.bench k.costs) r.offset

-- what is printed is the page's output of what is read, and an event comes only where the setup is in the ranges
pub record Carries (printed : List ℕ) (x : PlanRead) : Type 0 where
  pub same : printed ≡ output_of x
  pub in_range : (x.events ≡ [] → ⊥) → PlanInRange x.setup

abbrev pub Carried : ℕ → Type 0
Carried fuel = (r : Runner) (k : Buffers) (rest : List ℕ) → SetUp r k rest → length rest < fuel → Carries (prints fuel r k rest) (read_from fuel (sofar r k) rest)

module _ (r : Runner) (k : Buffers) (rest : List ℕ) (s : SetUp r k rest) where
  abbrev begun : Begun r.stage r.bench k.costs
  begun = s.standing.begun

  reached : Reached (progress_of r)
  reached =
      record {
        stages = omega (arith, begun.early);
        nothing = λ e. (begun.uncounted e, begun.unlinked e, begun.unviewed (omega (arith, e)));
        counted = λ h. (begun.least h, begun.most, begun.links_most);
        unviewed = λ e. begun.unviewed (omega (arith, e));
        viewed = λ h. (begun.viewed h, begun.views_most);
      }

  reads : step_of r k rest ≡ read_step rest (read_of rest (progress_of r)) r k
  reads = step-reads r k rest (omega (arith, s.events)) (omega (arith, s.room)) s.long reached

  -- the fresh network stands where the first event comes
  module _ (ready : 2 ≤ r.stage) where
    two : r.stage ≡ 2
    two = omega (arith, begun.early, ready)

    lasting : LastingOf r.bench k.costs
    lasting = lasts r.stage r.bench k.costs begun two s.long.costs

    stands : Represents (state_on r.bench k) (fresh (plan_of r.bench k.costs))
    stands =
        let was = s.standing.stood two in
        subst (λ (b : Bench). Represents (state_on b k) (fresh (plan_of b k.costs))) was.bench
        (fresh-stands r.bench k.costs k.sent k.held k.messages lasting was.limits s.long.messages)

    running : Running r k rest (fresh (plan_of r.bench k.costs))
    running =
        record { late = ready; stages = omega (arith, two); stands = stands; room = s.room; counted = omega (arith, s.events); out = s.long.out }

-- ---- a field

-- a view
module _
    (fuel : ℕ)
    (later : Carried fuel)
    (r : Runner)
    (k : Buffers)
    (rest : List ℕ)
    (s : SetUp r k rest)
    (used : ℕ)
    (told : ViewRead rest (progress_of r))
    (less : length (drop used rest) < fuel)
    (room : r.offset + used + length (drop used rest) ≤ 61440) where
  abbrev rows : List ℕ
  rows = with_row rest r.bench k.costs

  abbrev made : Outcome (Unit {0})
  made = fresh_with_view (state (with_view r.bench) rows k.sent k.held k.messages)

  fits : ViewFits rest r.bench
  fits = view-fits r.stage rest r.bench told

  rows_long : 1024 ≤ length rows
  rows_long = omega (arith, row_kept rest r.bench k.costs fits s.long.costs, s.long.costs)

  next : Standing 2 made.state.bench made.state.costs made.state.sent made.state.held
  next = view-stands _ _ _ _ _ k.messages s.standing rest told s.long.costs rows_long s.long.sent s.long.held

  leaves :
      (plan_of made.state.bench made.state.costs ≡ plan_of (with_view r.bench) rows) × (made.state.costs ≡ rows) × (made.state.messages ≡ k.messages)
  leaves = view-leaves _ _ _ _ _ k.messages s.standing rest told s.long.costs rows_long s.long.sent s.long.held

  abbrev after : Buffers
  after = buffers_with made.state [] k

  after-long : Long after
  after-long =
      record {
        costs = rw leaves.1 rows_long;
        sent = (next.stood refl).limits.sent_long;
        held = (next.stood refl).limits.held_long;
        messages = rw leaves.2 s.long.messages;
        out = omega (arith, s.long.out, length-sets k.out 0 []);
      }

  abbrev going : Runner
  going = record { bench = made.state.bench; stage = 2; events = r.events; offset = r.offset + used }

  view-carried :
      Carries (printed_by fuel rest (view_step used (with_view r.bench) rows r k))
      (read_from fuel (reading 2 (add_view (plan_of r.bench k.costs) rest) (r.offset + used)) (drop used rest))
  unfolding setup_step
  view-carried =
      let taken = view-taken _ _ _ _ _ k.messages s.standing rest told s.long.costs rows_long s.long.sent s.long.held in
      rw (view-goes used r k (with_view r.bench) rows taken)
      (subst (λ (p : Plan). Carries (prints fuel going after (drop used rest)) (read_from fuel (reading 2 p (r.offset + used)) (drop used rest)))
      (leaves.0 ∙ view-plan rest r.bench k.costs fits s.long.costs)
      (later going after (drop used rest) (record { standing = next; long = after-long; events = s.events; room = room }) less))

module _ (fuel : ℕ) (later : Carried fuel) (r : Runner) (k : Buffers) (rest : List ℕ) (s : SetUp r k rest) (enough : length rest < suc fuel) where
  abbrev setup : Plan
  setup = plan_of r.bench k.costs

  -- the first event
  module _ (e : Event) (used : ℕ) (ready : 2 ≤ r.stage) (some : 3 ≤ used) (whole : used ≤ length rest) where
    abbrev behind : PlanRead
    behind = read_from fuel (reading 3 setup (r.offset + used)) (drop used rest)

    abbrev event : PlanEvent
    event = record { call = call_of e; offset = r.offset }

    fixed : behind.setup ≡ setup
    fixed =
        let b = s.standing.begun in
        setup-fixed fuel setup (r.offset + used) (drop used rest)
        (record {
          stages = omega arith;
          nothing = λ e. absurd (omega arith);
          counted = λ h. (b.least (omega (arith, ready)), b.most, b.links_most);
          unviewed = λ e. absurd (omega arith);
          viewed = λ h. (b.viewed ready, b.views_most);
        })

    event-carried : Carries (printed_by fuel rest (event_step e used r k)) (with_event event behind)
    unfolding fresh output_of carried_out
    event-carried =
        record {
          same =
              event-printed fuel (follows fuel) r k rest (fresh setup) (running r k rest s ready) e used some whole enough
              ∙ ap (λ (i : ℕ). carried_out (fresh setup) i (event ∷ behind.events) behind.end) s.events
              ∙ ap (λ (p : Plan). carried_out (fresh p) 0 (event ∷ behind.events) behind.end) (sym fixed);
          in_range = λ any. subst PlanInRange (sym fixed) (plan-in-range r.bench k.costs (lasting r k rest s ready));
        }

  -- a field of so many bytes leaves room for the rest
  module _ (used : ℕ) (some : 3 ≤ used) (whole : used ≤ length rest) where
    less : length (drop used rest) < fuel
    less = omega (arith, length-drop used rest, some, whole, enough)

    room : r.offset + used + length (drop used rest) ≤ 61440
    room = omega (arith, length-drop used rest, whole, s.room)

    -- before the first view
    early : {b : Bench} → Begun 1 b k.costs → Standing 1 b k.costs k.sent k.held
    early now = record { begun = now; stood = λ h. absurd (omega arith) }

    field-carried : (f : Field) → FieldRead rest (progress_of r) f → Carries (printed_by fuel rest (field_step rest f used r k)) (read_on (read_from fuel) (sofar r k) rest (Read.Field f used))
    unfolding read_on field_step setup_step
    field-carried (Field.Bridges n) told =
        later _ k (drop used rest)
        (record { standing = early (bridges-begun _ _ _ s.standing.begun n told.opening told.least told.most); long = s.long; events = s.events; room = room })
        less
    field-carried (Field.Link x y) told =
        let begun = link-begun _ _ _ s.standing.begun x y told.counted told.room (record { first = told.first; second = told.second; differ = told.differ }) in
        subst (λ (p : Plan). Carries (prints fuel (record { bench = with_link r.bench x y; stage = 1; events = r.events; offset = r.offset + used }) k (drop used rest)) (read_from fuel (reading 1 p (r.offset + used)) (drop used rest)))
        (link-plan r.bench x y told.room s.standing.begun.ends_long k.costs)
        (later _ k (drop used rest) (record { standing = early begun; long = s.long; events = s.events; room = room }) less)
    field-carried Field.View told = view-carried fuel later r k rest s used told less room
    field-carried (Field.Event e) told = event-carried e used told some whole

read-carried :
    (fuel : ℕ) → Carried fuel → (r : Runner) (k : Buffers) (rest : List ℕ) (s : SetUp r k rest) → length rest < suc fuel →
    (d : Read) → read_of rest (progress_of r) ≡ d → Carries (printed_by fuel rest (read_step rest d r k)) (read_on (read_from fuel) (sofar r k) rest d)
unfolding read_step read_on output_of carried_out
read-carried fuel later r k rest s enough (Read.Stop number) is =
    record {
      same =
          last-printed fuel rest number (last_text number r.events r.offset) r k (last-short number r.events r.offset) s.long.out
          ∙ ap (λ (i : ℕ). last_text number i r.offset) s.events;
      in_range = λ some. absurd (some refl);
    }
read-carried fuel later r k rest s enough (Read.Field f used) is =
    let is_read : read_reply rest (progress_of r) ≡ Read.Field f used = read-reached rest (progress_of r) (reached r k rest s) ∙ is in
    let taken = field-size rest (progress_of r) is_read in
    field-carried fuel later r k rest s enough used taken.0 taken.1 f (field-read rest (progress_of r) is_read)

pub carried : (fuel : ℕ) → Carried fuel
unfolding prints read_from
carried zero r k rest s enough = absurd (not-suc-le-zero enough)
carried (suc fuel) r k rest s enough = rw (reads r k rest s) (read-carried fuel (carried fuel) r k rest s enough (read_of rest (progress_of r)) refl)
