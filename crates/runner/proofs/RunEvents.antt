-- From the first event on: what is printed is what the page says of the network that stands in the state. Assumes nothing.
use Prim.Native.Nat.{ℕ, zero, suc, ◌+◌, ◌≤◌, ◌<◌}
use native.Mathlib.Nat.{not-suc-le-zero}
use native.Mathlib.Omega.{arith}
use mathlib.Core.Path.{◌≡◌, refl, sym, ◌∙◌, ap, subst}
use mathlib.Core.Bool.{Bool, true, false, cond}
use mathlib.Core.List.{List, [], ◌++◌, append-nil}
use borrow.Author.Tests.{eqb-true}
use lib.ListN.{length, take, drop, length-drop}
use lib.Seq.{sets, length-sets}
use lib.Dec.{eqb}
use Rattle.protocol.specs.Net.{Network, Plan}
use Rattle.protocol.specs.Calls.{refuse, accepted, step}
use Rattle.protocol.proofs.Runs.{plan-step}
use Rattle.bench.specs.State.{State}
use Rattle.bench.specs.Batches.{call_of, reply_of}
use Rattle.bench.specs.declared.Event.{Event}
use Rattle.bench.proofs.Represents.{Represents}
use Rattle.bench.proofs.TieRanges.{StateReady, told, few, plan-in-range}
use Rattle.bench.proofs.TieWhole.{left-represents}
use Rattle.bench.proofs.RunSteps.{left-ready}
use Rattle.plan.specs.Fields.{size}
use Rattle.plan.specs.Reading.{Read, read_of, read_reply}
use Rattle.plan.specs.declared.Field.{Field}
use Rattle.plan.proofs.Laws.{FieldRead, field-read, field-size}
use Rattle.plan.proofs.Reached.{Reached, read-reached}
use Rattle.text.specs.Lines.{refused_text}
use Rattle.text.proofs.Laws.{length-refused_text}
use Rattle.runner.specs.Buffers.{Buffers, state_on, buffers_with, progress_of}
use Rattle.runner.specs.Events.{text_of, state_after}
use Rattle.runner.specs.Program.{reading, progress_in, PlanRead, read_on, read_from, lines_of, last_text, carried_out}
use Rattle.runner.specs.Steps.{StepOutcome, last_step, event_step, field_step, read_step, step_of}
use Rattle.runner.specs.Plans.{prints}
use Rattle.runner.specs.declared.Runner.{Runner}
use Rattle.runner.proofs.FillTexts.{text-short, last-short, taken-text}
use Rattle.runner.proofs.RunSteps.{step-reads}
use Rattle.runner.proofs.EventLines.{text-is, reply-is}

-- where a plan stands
pub record Running (r : Runner) (k : Buffers) (rest : List ℕ) (n : Network) : Type 0 where
  pub late : 2 ≤ r.stage
  pub stages : r.stage ≤ 3
  pub stands : Represents (state_on r.bench k) n
  pub room : r.offset + length rest ≤ 61440
  pub counted : r.events ≤ r.offset
  pub out : 544 ≤ length k.out

module _ (r : Runner) (k : Buffers) (rest : List ℕ) (n : Network) (w : Running r k rest n) where
  inside : StateReady (state_on r.bench k)
  inside = told (state_on r.bench k) w.stands.in_range

  reached : Reached (progress_of r)
  reached =
      let small = few r.bench k.costs inside.lasting in
      let least = (plan-in-range r.bench k.costs inside.lasting).graph.least in
      record {
        stages = w.stages;
        nothing = λ e. absurd (omega (arith, w.late, e));
        counted = λ h. (least, small.0, small.1);
        unviewed = λ e. absurd (omega (arith, w.late, e));
        viewed = λ h. (inside.lasting.views_least, inside.lasting.views_most);
      }

  -- the reader of the page and that of the code have come as far
  pub same-progress : progress_in (reading r.stage n.plan r.offset) ≡ progress_of r
  same-progress = ap (λ (p : Plan). progress_in (reading r.stage p r.offset)) w.stands.plan

  reads : step_of r k rest ≡ read_step rest (read_of rest (progress_of r)) r k
  reads =
      step-reads r k rest (omega (arith, w.room, w.counted)) (omega (arith, w.room))
      (record { costs = inside.lasting.costs_long; sent = inside.sent_long; held = inside.held_long; messages = inside.messages_long; out = w.out })
      reached

-- ---- what is printed from a step on

abbrev pub printed_by : ℕ → List ℕ → StepOutcome → List ℕ
printed_by fuel rest t = take t.written t.buffers.out ++ cond t.going (prints fuel t.runner t.buffers (drop t.used rest)) []

pub last-printed :
    (fuel : ℕ) (rest : List ℕ) (number : ℕ) (text : List ℕ) (r : Runner) (k : Buffers) → length text ≤ 544 → 544 ≤ length k.out →
    printed_by fuel rest (last_step number text r k) ≡ text
unfolding last_step
last-printed fuel rest number text r k short long =
    append-nil (take (length text) (sets k.out 0 text)) ∙ taken-text k.out text (omega (arith, short, long))

-- with fuel for so many fields
abbrev pub Follows : ℕ → Type 0
Follows fuel =
    (r : Runner) (k : Buffers) (rest : List ℕ) (n : Network) → Running r k rest n → r.stage ≡ 3 → length rest < fuel →
    (let x : PlanRead = read_from fuel (reading 3 n.plan r.offset) rest in prints fuel r k rest ≡ carried_out n r.events x.events x.end)

module _
    (fuel : ℕ)
    (later : Follows fuel)
    (r : Runner)
    (k : Buffers)
    (rest : List ℕ)
    (n : Network)
    (w : Running r k rest n)
    (e : Event)
    (used : ℕ)
    (some : 3 ≤ used)
    (whole : used ≤ length rest)
    (enough : length rest < suc fuel) where
  abbrev s : State
  s = state_on r.bench k

  abbrev next : Runner
  next = record { bench = (state_after s e).bench; stage = 3; events = r.events + 1; offset = r.offset + used }

  abbrev left : Buffers
  left = buffers_with (state_after s e) (text_of s e) k

  -- what is read behind the event
  abbrev pub read : Plan → PlanRead
  read p = read_from fuel (reading 3 p (r.offset + used)) (drop used rest)

  running-next : Running next left (drop used rest) (step n (call_of e))
  running-next =
      record {
        late = omega arith;
        stages = omega arith;
        stands = subst (λ (x : State). Represents x (step n (call_of e))) (left-ready s (call_of e) w.stands.in_range) (left-represents s n w.stands (call_of e));
        room = omega (arith, w.room, length-drop used rest, whole);
        counted = omega (arith, w.counted, some);
        out = omega (arith, w.out, length-sets k.out 0 (text_of s e));
      }

  pub event-printed :
      printed_by fuel rest (event_step e used r k)
      ≡ cond (accepted n (call_of e)) (lines_of n (call_of e) ++ carried_out (step n (call_of e)) (suc r.events) (read n.plan).events (read n.plan).end)
      (refused_text (refuse n (call_of e)) r.offset)
  unfolding event_step accepted
  event-printed = go (eqb (reply_of s e) 0) refl
    where
      same : r.events + 1 ≡ suc r.events
      same = omega arith

      go : (b : Bool) → eqb (reply_of s e) 0 ≡ b →
          printed_by fuel rest (event_step e used r k)
          ≡ cond (eqb (refuse n (call_of e)) 0) (lines_of n (call_of e) ++ carried_out (step n (call_of e)) (suc r.events) (read n.plan).events (read n.plan).end)
          (refused_text (refuse n (call_of e)) r.offset)
      go true q =
          let none : reply_of s e ≡ 0 = eqb-true (reply_of s e) 0 q in
          let short = (text-short s e none).room in
          let rest-is = later next left (drop used rest) (step n (call_of e)) running-next refl (omega (arith, length-drop used rest, some, whole, enough)) in
          rw (← reply-is s n w.stands e, q)
          (ap (λ (l : List ℕ). l ++ prints fuel next left (drop used rest)) (taken-text k.out (text_of s e) (omega (arith, short, w.out)) ∙ text-is s n w.stands e none)
          ∙ ap (λ (l : List ℕ). lines_of n (call_of e) ++ l)
          (rest-is
          ∙ ap (λ (p : Plan). carried_out (step n (call_of e)) (r.events + 1) (read p).events (read p).end) (plan-step n (call_of e))
          ∙ ap (λ (i : ℕ). carried_out (step n (call_of e)) i (read n.plan).events (read n.plan).end) same))
      go false q =
          rw (← reply-is s n w.stands e, q)
          (last-printed fuel rest (reply_of s e) (refused_text (reply_of s e) r.offset) r k (length-refused_text (reply_of s e) r.offset) w.out)

-- a field is an event
printed-read :
    (fuel : ℕ) → Follows fuel → (r : Runner) (k : Buffers) (rest : List ℕ) (n : Network) → Running r k rest n → r.stage ≡ 3 → length rest < suc fuel →
    (d : Read) → read_of rest (progress_of r) ≡ d →
    (let x : PlanRead = read_on (read_from fuel) (reading 3 n.plan r.offset) rest d in
    printed_by fuel rest (read_step rest d r k) ≡ carried_out n r.events x.events x.end)
unfolding read_step read_on carried_out field_step
printed-read fuel later r k rest n w three enough (Read.Stop number) is =
    last-printed fuel rest number (last_text number r.events r.offset) r k (last-short number r.events r.offset) w.out
printed-read fuel later r k rest n w three enough (Read.Field f used) is = field f (field-read rest (progress_of r) is_read) (field-size rest (progress_of r) is_read)
  where
    is_read : read_reply rest (progress_of r) ≡ Read.Field f used
    is_read = read-reached rest (progress_of r) (reached r k rest n w) ∙ is

    field : (f : Field) → FieldRead rest (progress_of r) f → (3 ≤ used) × (used ≤ length rest) × (used ≡ size rest) →
        (let x : PlanRead = read_on (read_from fuel) (reading 3 n.plan r.offset) rest (Read.Field f used) in
        printed_by fuel rest (read_step rest (Read.Field f used) r k) ≡ carried_out n r.events x.events x.end)
    field (Field.Bridges m) told taken = absurd (omega (arith, told.opening, three))
    field (Field.Link x y) told taken = absurd (omega (arith, told.counted, three))
    field Field.View told taken = absurd (omega (arith, told.early, three))
    field (Field.Event e) told taken = event-printed fuel later r k rest n w e used taken.0 taken.1 enough

pub follows : (fuel : ℕ) → Follows fuel
unfolding prints read_from
follows zero r k rest n w three enough = absurd (not-suc-le-zero enough)
follows (suc fuel) r k rest n w three enough =
    rw (reads r k rest n w, as-far) (go (follows fuel) (read_of rest (progress_of r)) refl)
  where
    as-far : progress_in (reading 3 n.plan r.offset) ≡ progress_of r
    as-far = ap (λ (i : ℕ). progress_in (reading i n.plan r.offset)) (sym three) ∙ same-progress r k rest n w

    go : Follows fuel → (d : Read) → read_of rest (progress_of r) ≡ d →
        (let x : PlanRead = read_on (read_from fuel) (reading 3 n.plan r.offset) rest d in
        printed_by fuel rest (read_step rest d r k) ≡ carried_out n r.events x.events x.end)
    go later d is = printed-read fuel later r k rest n w three enough d is
