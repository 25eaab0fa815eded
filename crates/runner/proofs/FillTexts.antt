-- What a step does whatever stands in the bytes to be printed: its text goes into the first of them, and is short. Assumes nothing.
use Prim.Native.Nat.{ℕ, ◌+◌, ◌*◌, ◌≤◌, ◌<◌}
use native.Mathlib.Omega.{arith}
use mathlib.Core.Path.{◌≡◌, refl, ap, ◌∙◌}
use mathlib.Core.Bool.{Bool, true, false, cond, ◌&&◌}
use mathlib.Core.List.{List, []}
use borrow.Author.Tests.{leb-true, leb-false, le-leb, lt-leb, eqb-true}
use lib.ListN.{length, get_or, take, drop}
use lib.Seq.{sets, length-sets, sets-eq, take-append_seam}
use lib.Dec.{eqb, leb}
use Rattle.distances.proofs.Booleans.{not-both}
use Rattle.protocol.specs.Calls.{report, path, refuse, checks}
use Rattle.bench.specs.State.{State, state, network}
use Rattle.bench.specs.Batches.{reply_of, answers_of, answer_size}
use Rattle.bench.specs.Outcomes.{Outcome}
use Rattle.bench.specs.declared.Bench.{Bench}
use Rattle.bench.specs.declared.Event.{Event}
use Rattle.bench.specs.declared.Event.TheVariants.{Update, Send, Deliver, Repeat, Lose, Cut, Restore, Report, Path}
use Rattle.bench.proofs.BatchRuns.{accepted-bridges, answers-length}
use Rattle.bench.proofs.QueueCalls.{refusal-none}
use Rattle.bench.proofs.PathSteps.{bridge-listed, bridges-listed}
use Rattle.plan.specs.Reading.{Read, read_reply}
use Rattle.plan.specs.declared.Field.{Field}
use Rattle.plan.proofs.Laws.{field-size}
use Rattle.text.specs.Lines.{delivered_text, stops_text, end_text, refused_text}
use Rattle.text.proofs.Laws.{length-report_text, length-delivered_text, length-stops_text, length-end_text, length-refused_text}
use Rattle.runner.specs.Buffers.{Buffers, buffers_long, state_on, buffers_with, progress_of}
use Rattle.runner.specs.Events.{path_text, event_text, text_of, state_after}
use Rattle.runner.specs.Steps.{StepOutcome, step_outcome, last_step, last_text, setup_step, with_bridges, with_link, with_view, with_row, fresh_with_view, view_step, event_step, field_step, read_step, runner_in_range, step_of}
use Rattle.runner.specs.Fills.{buffers_with_out}
use Rattle.runner.specs.declared.Runner.{Runner}

-- ---- texts are short

path-short : (start dest : ℕ) (answers : List ℕ) → start < 100 → dest < 100 → length (path_text start dest answers) ≤ 39
unfolding path_text
path-short start dest answers from to = go (eqb (get_or answers 0 0) 0)
  where
    go : (b : Bool) → length (cond b (delivered_text start dest (get_or answers 2 0)) (stops_text start dest (get_or answers 1 0) (get_or answers 2 0))) ≤ 39
    go true = omega (arith, length-delivered_text start dest (get_or answers 2 0) from to)
    go false = length-stops_text start dest (get_or answers 1 0) (get_or answers 2 0) from to

-- an accepted report or path names bridges of the network
pub report-listed : (s : State) (d : ℕ) → reply_of s (Report d) ≡ 0 → d < s.bench.bridges
unfolding reply_of refuse checks
report-listed s d none = bridge-listed _ d _ (refusal-none _ _ (report d) none).1

pub path-listed : (s : State) (y d : ℕ) → reply_of s (Path y d) ≡ 0 → (y < s.bench.bridges) × (d < s.bench.bridges)
unfolding reply_of refuse checks
path-listed s y d none = bridges-listed _ y d _ (refusal-none _ _ (path y d) none).1

pub record ShortText (s : State) (e : Event) : Type 0 where
  pub room : length (text_of s e) ≤ 544
  pub few : length (text_of s e) ≤ 15 * length (answers_of (network s) e)

-- a text has room among 544 bytes, and 15 for each number that its event answers with
pub text-short : (s : State) (e : Event) → reply_of s e ≡ 0 → ShortText s e
unfolding event_text answer_size
text-short s (Update y t) none = record { room = omega arith; few = omega arith }
text-short s (Send y l) none = record { room = omega arith; few = omega arith }
text-short s (Deliver p) none = record { room = omega arith; few = omega arith }
text-short s (Repeat p) none = record { room = omega arith; few = omega arith }
text-short s (Lose p) none = record { room = omega arith; few = omega arith }
text-short s (Cut y l) none = record { room = omega arith; few = omega arith }
text-short s (Restore y l) none = record { room = omega arith; few = omega arith }
text-short s (Report d) none =
    let bridges = accepted-bridges s (Report d) none in
    let listed = report-listed s d none in
    let short = length-report_text d s.bench.bridges (answers_of (network s) (Report d)) (omega (arith, listed, bridges.1)) (omega (arith, bridges.1)) in
    record { room = omega (arith, short, bridges.1); few = omega (arith, short, bridges.0, answers-length s (Report d)) }
text-short s (Path y d) none =
    let bridges = accepted-bridges s (Path y d) none in
    let listed = path-listed s y d none in
    let short = path-short y d (answers_of (network s) (Path y d)) (omega (arith, listed.0, bridges.1)) (omega (arith, listed.1, bridges.1)) in
    record { room = omega (arith, short); few = omega (arith, short, answers-length s (Path y d)) }

pub last-short : (number events offset : ℕ) → length (last_text number events offset) ≤ 544
unfolding last_text
last-short number events offset = go (eqb number 0)
  where
    go : (b : Bool) → length (cond b (end_text events) (refused_text number offset)) ≤ 544
    go true = length-end_text events
    go false = length-refused_text number offset

-- a text that fits, read back from the first bytes
pub taken-text : (out text : List ℕ) → length text ≤ length out → take (length text) (sets out 0 text) ≡ text
taken-text out text fits = ap (take (length text)) (sets-eq text out 0 (omega arith)) ∙ take-append_seam text (drop (0 + length text) out)

-- ---- a step, as it goes by the bytes to be printed

pub record Texts (most : ℕ) (f : List ℕ → StepOutcome) : Type 0 where
  pub reply : ℕ
  pub going : Bool
  pub used : ℕ
  pub runner : Runner
  pub after : Buffers
  pub text : List ℕ
  pub fits : used ≤ most
  pub short : length text ≤ 544
  pub is : (out : List ℕ) → 544 ≤ length out → f out ≡ step_outcome reply going used (length text) runner (buffers_with_out (sets out 0 text) after)

module _ (e : Event) (used most : ℕ) (r : Runner) (k : Buffers) where
  abbrev now : State
  now = state_on r.bench k

  event-texts : used ≤ most → Texts most (λ out. event_step e used r (buffers_with_out out k))
  unfolding event_step last_step
  event-texts low = go (eqb (reply_of now e) 0) refl
    where
      go : (b : Bool) → eqb (reply_of now e) 0 ≡ b → Texts most (λ out. event_step e used r (buffers_with_out out k))
      go true q =
          record {
            reply = 0;
            going = true;
            used = used;
            runner = record { bench = (state_after now e).bench; stage = 3; events = r.events + 1; offset = r.offset + used };
            after = buffers_with (state_after now e) [] k;
            text = text_of now e;
            fits = low;
            short = (text-short now e (eqb-true _ 0 q)).room;
            is = λ out long. rw q;
          }
      go false q =
          record {
            reply = reply_of now e;
            going = false;
            used = 0;
            runner = r;
            after = k;
            text = refused_text (reply_of now e) r.offset;
            fits = omega arith;
            short = length-refused_text (reply_of now e) r.offset;
            is = λ out long. rw q;
          }

module _ (b : Bench) (costs : List ℕ) (used most : ℕ) (r : Runner) (k : Buffers) where
  abbrev made : Outcome (Unit {0})
  made = fresh_with_view (state b costs k.sent k.held k.messages)

  view-texts : used ≤ most → Texts most (λ out. view_step used b costs r (buffers_with_out out k))
  unfolding view_step setup_step last_step
  view-texts low = go (eqb made.reply.number 0) refl
    where
      go : (q : Bool) → eqb made.reply.number 0 ≡ q → Texts most (λ out. view_step used b costs r (buffers_with_out out k))
      go true q =
          record {
            reply = 0;
            going = true;
            used = used;
            runner = record { bench = made.state.bench; stage = 2; events = r.events; offset = r.offset + used };
            after = buffers_with made.state [] k;
            text = [];
            fits = low;
            short = omega arith;
            is = λ out long. rw q;
          }
      go false q =
          record {
            reply = made.reply.number;
            going = false;
            used = 0;
            runner = r;
            after = k;
            text = refused_text made.reply.number r.offset;
            fits = omega arith;
            short = length-refused_text made.reply.number r.offset;
            is = λ out long. rw q;
          }

field-texts : (rest : List ℕ) (f : Field) (used most : ℕ) (r : Runner) (k : Buffers) → used ≤ most → Texts most (λ out. field_step rest f used r (buffers_with_out out k))
unfolding field_step setup_step
field-texts rest (Field.Bridges n) used most r k low =
    record {
      reply = 0;
      going = true;
      used = used;
      runner = record { bench = with_bridges r.bench n; stage = 1; events = r.events; offset = r.offset + used };
      after = k;
      text = [];
      fits = low;
      short = omega arith;
      is = λ out long. refl;
    }
field-texts rest (Field.Link x y) used most r k low =
    record {
      reply = 0;
      going = true;
      used = used;
      runner = record { bench = with_link r.bench x y; stage = 1; events = r.events; offset = r.offset + used };
      after = k;
      text = [];
      fits = low;
      short = omega arith;
      is = λ out long. refl;
    }
field-texts rest Field.View used most r k low = view-texts (with_view r.bench) (with_row rest r.bench k.costs) used most r k low
field-texts rest (Field.Event e) used most r k low = event-texts e used most r k low

-- the other buffers are long enough
abbrev others_long : Buffers → Bool
others_long k =
    leb 1024 (length k.costs)
    && (leb 1024 (length k.sent)
    && (leb 1024 (length k.held) && (leb 320 (length k.messages) && true)))

pub step-texts : (r : Runner) (k : Buffers) (rest : List ℕ) → Texts (length rest) (λ out. step_of r (buffers_with_out out k) rest)
unfolding step_of read_step last_step buffers_long
step-texts r k rest = go (runner_in_range r && others_long k) (read_reply rest (progress_of r)) refl refl
  where
    go : (b : Bool) (d : Read) → (runner_in_range r && others_long k) ≡ b → read_reply rest (progress_of r) ≡ d → Texts (length rest) (λ out. step_of r (buffers_with_out out k) rest)
    go false d e h =
        record {
          reply = 17;
          going = false;
          used = 0;
          runner = r;
          after = k;
          text = [];
          fits = omega arith;
          short = omega arith;
          is = λ out long. rw (le-leb 544 (length out) long, e);
        }
    go true (Read.Stop number) e h =
        record {
          reply = number;
          going = false;
          used = 0;
          runner = r;
          after = k;
          text = last_text number r.events r.offset;
          fits = omega arith;
          short = last-short number r.events r.offset;
          is = λ out long. rw (le-leb 544 (length out) long, e, h);
        }
    go true (Read.Field f used) e h =
        let x = field-texts rest f used (length rest) r k (field-size rest (progress_of r) h).1 in
        record {
          reply = x.reply;
          going = x.going;
          used = x.used;
          runner = x.runner;
          after = x.after;
          text = x.text;
          fits = x.fits;
          short = x.short;
          is = λ out long. rw (le-leb 544 (length out) long, e, h) (x.is out long);
        }

-- ---- a step keeps within what is lent

-- with too few bytes to be printed it is refused
pub step-cramped : (r : Runner) (k : Buffers) (rest : List ℕ) → length k.out < 544 → step_of r k rest ≡ step_outcome 17 false 0 0 r k
unfolding step_of buffers_long
step-cramped r k rest few =
    let last = lt-leb 544 (length k.out) few in
    let two = not-both (leb 1024 (length k.held)) _ (not-both (leb 320 (length k.messages)) _ last) in
    let four = not-both (leb 1024 (length k.sent)) _ two in
    rw (not-both (runner_in_range r) _ (not-both (leb 1024 (length k.costs)) _ four))

pub record Within (r : Runner) (k : Buffers) (rest : List ℕ) : Type 0 where
  pub used : (step_of r k rest).used ≤ length rest
  pub few : (step_of r k rest).written ≤ 544
  pub written : (step_of r k rest).written ≤ length k.out
  pub kept : length (step_of r k rest).buffers.out ≡ length k.out

pub step-within : (r : Runner) (k : Buffers) (rest : List ℕ) → Within r k rest
step-within r k rest = go (leb 544 (length k.out)) refl
  where
    go : (b : Bool) → leb 544 (length k.out) ≡ b → Within r k rest
    go true e =
        let x = step-texts r k rest in
        let long = leb-true 544 (length k.out) e in
        let is : step_of r k rest ≡ step_outcome x.reply x.going x.used (length x.text) x.runner (buffers_with_out (sets k.out 0 x.text) x.after) = x.is k.out long in
        record { used = rw is x.fits; few = rw is x.short; written = rw is (omega (arith, x.short, long)); kept = rw is (length-sets k.out 0 x.text) }
    go false e =
        let is = step-cramped r k rest (leb-false 544 (length k.out) e) in
        record { used = rw is (omega arith); few = rw is (omega arith); written = rw is (omega arith); kept = rw is }
