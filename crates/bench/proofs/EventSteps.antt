-- One event of a list, by what its call replies and leaves: its number, the state, its answer at the head of the lent numbers. Assumes nothing.
use Prim.Native.Nat.{ℕ, ◌≤◌, ◌<◌}
use native.Mathlib.Omega.{arith}
use native.Mathlib.Nat.{zero-add}
use mathlib.Core.Path.{◌≡◌, refl, sym, ap, ◌∙◌}
use mathlib.Core.Bool.{Bool, true, false, cond, ◌&&◌}
use mathlib.Core.List.{List, [], ◌++◌}
use borrow.Author.Tests.{eqb-true, ne_eqb, lt-ltb, le-ltb}
use lib.ListN.{length, drop}
use lib.Seq.{sets, sets-eq}
use lib.Dec.{eqb}
use Rattle.std.specs.Prelude.{Result, Ok, Err}
use Rattle.distances.specs.declared.refusals.Refusal.{Refusal}
use Rattle.distances.specs.Refusal.{reply_number}
use Rattle.distances.proofs.Booleans.{both_true, true-both}
use Rattle.agreement.specs.Call.{Response, says, response}
use Rattle.protocol.specs.Net.{Network}
use Rattle.protocol.specs.Calls.{Call, refuse, report, path}
use Rattle.bench.specs.State.{State, network}
use Rattle.bench.specs.Ranges.{bench_in_range, messages_in_range, network_in_range, state_in_range}
use Rattle.bench.specs.Standing.{standing_bench, standing, step_in}
use Rattle.bench.specs.Outcomes.{refused_by, or_refused, ready_for, refusal_of, reply_to, left_by, Outcome, outcome, outcome_of, ReportOutcome, report_outcome}
use Rattle.bench.specs.Batches.{complete, refused_with, out_of_room, call_of, reply_of, answers_of, answer_size, event_batch, event_batch_in}
use Rattle.bench.specs.Private.ListSteps.{value_numbers}
use Rattle.bench.specs.Private.Steps.{IsPrepared, report_into, Makes, BatchLeft}
use Rattle.bench.specs.Private.Types.{Typed}
use Rattle.bench.specs.declared.Bench.{Bench}
use Rattle.bench.specs.declared.Event.{Event}
use Rattle.bench.specs.declared.Event.TheVariants.{Update, Send, Deliver, Repeat, Lose, Cut, Restore, Report, Path}
use Rattle.bench.specs.declared.tables.Prepared.{Prepared}
use Rattle.bench.proofs.BatchRuns.{answers-length}
use Rattle.bench.proofs.BesideSteps.{step_is}
use Rattle.bench.proofs.OutcomeLaws.{asking-changes-nothing, refused-changes-nothing}
use Rattle.bench.proofs.QueueRanges.{network-bench}
use Rattle.bench.proofs.Represents.{own-represents}
use Rattle.bench.proofs.TieRefusals.{refusal-ready}
use Rattle.bench.proofs.TieSteps.{step-represents}

-- numbers at the head of a list
head-set : (vs l : List ℕ) → length vs ≤ length l → sets l 0 vs ≡ vs ++ drop (length vs) l
head-set vs l h = rw (zero-add (length vs)) at (sets-eq vs l 0 (omega arith))

pub number-of : {A : Type 0} (r : Result A Refusal) → (response r).number ≡ reply_number r
number-of (Ok x) = refl
number-of (Err r) = refl

-- ---- what a call leaves

-- of the plan, what a call's preparation is made of
pub prepared-kept : {b : Bench} {costs : List ℕ} {p : Prepared} (s : State) (c : Call) → s.bench ≡ b → IsPrepared b costs p → IsPrepared (step_in s c).bench costs p
unfolding step_in standing standing_bench
prepared-kept s c same kept = let its = rw (← same) at kept in record { tables = its.tables; chained = its.chained }

module _ (s : State) (ok : state_in_range s ≡ true) where
  pub network-ok : network_in_range s ≡ true
  network-ok = (both_true (network_in_range s) _ ok).0

  pub bench-ok : bench_in_range s.bench ≡ true
  bench-ok = network-bench _ _ _ _ network-ok

  pub flight-ok : (bench_in_range s.bench && messages_in_range s.bench s.messages) ≡ true
  flight-ok = true-both bench-ok (both_true (network_in_range s) _ ok).1

  -- what any event is handed is in range
  ready : (e : Event) → ready_for s (call_of e) ≡ true
  unfolding ready_for
  ready (Update b t) = network-ok
  ready (Send b l) = flight-ok
  ready (Deliver p) = ok
  ready (Repeat p) = ok
  ready (Lose p) = flight-ok
  ready (Cut y l) = bench-ok
  ready (Restore y l) = bench-ok
  ready (Report d) = network-ok
  ready (Path y d) = network-ok

  module _ (e : Event) where
    -- its reply
    pub reply-left :
        {A : Type 0} (value : Network → A) {o : Response A} →
        o ≡ (outcome_of s (call_of e) value).reply →
        o ≡ or_refused (refuse (network s) (call_of e)) refused_by (says (value (network s)))
    unfolding outcome_of reply_to
    reply-left value is = is ∙ rw (refusal-ready (ready_for s (call_of e)) (network s) (call_of e) (ready e))

    -- the state that it leaves
    pub state-left : {A : Type 0} (value : Network → A) {o : Response A} {z : State} → outcome o z ≡ outcome_of s (call_of e) value → z ≡ step_in s (call_of e)
    unfolding outcome_of left_by
    state-left {A} value is = ap (λ (x : Outcome A). x.state) is ∙ rw (ready e)

    left-is : left_by s (call_of e) ≡ step_in s (call_of e)
    unfolding left_by
    left-is = rw (ready e)

    pub unmade : (refuse (network s) (call_of e) ≡ 0 → ⊥) → step_in s (call_of e) ≡ s
    unmade some =
        sym left-is
        ∙ refused-changes-nothing s (call_of e) (λ none. some (sym (refusal-ready (ready_for s (call_of e)) (network s) (call_of e) (ready e)) ∙ none))

  pub report-left : (d : ℕ) → step_in s (report d) ≡ s
  report-left d = sym (left-is (Report d)) ∙ (asking-changes-nothing s 0 d).2

  pub path-left : (y d : ℕ) → step_in s (path y d) ≡ s
  path-left y d = sym (left-is (Path y d)) ∙ (asking-changes-nothing s y d).3

-- ---- what is made of one

number-is : {A : Type 0} (k : ℕ) (v : A) {o : Response A} → o ≡ or_refused k refused_by (says v) → o.number ≡ k
number-is {A} k v {o} is = rw is (go (eqb k 0) refl)
  where
    go : (b : Bool) → eqb k 0 ≡ b → (cond b (says v) (refused_by k)).number ≡ k
    go true q = sym (eqb-true k 0 q)
    go false q = refl

-- nothing is written, or an answer is
quiet-written : (k : ℕ) (lent : List ℕ) → lent ≡ or_refused k (λ j. lent) ([] ++ drop 0 lent)
quiet-written k lent = go (eqb k 0)
  where
    go : (b : Bool) → lent ≡ cond b ([] ++ drop 0 lent) lent
    go true = refl
    go false = refl

answer-written :
    {A : Type 0} (numbers : A → List ℕ) (v : A) (k : ℕ) (lent : List ℕ) {o : Response A} →
    o ≡ or_refused k refused_by (says v) →
    length (numbers v) ≤ length lent →
    sets lent 0 (value_numbers numbers o.value) ≡ or_refused k (λ j. lent) (numbers v ++ drop (length (numbers v)) lent)
unfolding value_numbers
answer-written {A} numbers v k lent {o} is room = rw is (go (eqb k 0))
  where
    go : (b : Bool) → sets lent 0 (value_numbers numbers (cond b (says v) (refused_by k)).value) ≡ cond b (numbers v ++ drop (length (numbers v)) lent) lent
    go true = head-set (numbers v) lent room
    go false = refl

module _ (s : State) (ok : state_in_range s ≡ true) (e : Event) (lent : List ℕ) {A : Type 0} (value : Network → A) (r : Result A Refusal) {z : State} where
  -- an event that answers nothing
  pub quiet-makes : answers_of (network s) e ≡ [] → outcome (response r) z ≡ outcome_of s (call_of e) value → Makes s e lent (reply_number r) z lent
  quiet-makes none is =
      let reply = reply-left s ok e value (ap (λ (x : Outcome A). x.reply) is) in
      record {
        number = sym (number-of r) ∙ number-is _ _ reply;
        state = state-left s ok e value is;
        answers = rw none (quiet-written (reply_number r) lent);
      }

-- one that answers, by its reply
module _
    (s : State)
    (ok : state_in_range s ≡ true)
    (e : Event)
    (lent : List ℕ)
    {A : Type 0}
    (value : Network → A)
    (numbers : A → List ℕ)
    (are : answers_of (network s) e ≡ numbers (value (network s)))
    (room : answer_size s.bench.bridges e ≤ length lent)
    {o : Response A}
    {z : State}
    (is : o ≡ (outcome_of s (call_of e) value).reply)
    (left : z ≡ step_in s (call_of e)) where
  pub answer-makes : {k : ℕ} {after : List ℕ} → k ≡ o.number → after ≡ sets lent 0 (value_numbers numbers o.value) → Makes s e lent k z after
  answer-makes {k} {after} same written =
      let reply = reply-left s ok e value is in
      let its : k ≡ refuse (network s) (call_of e) = same ∙ number-is _ _ reply in
      record {
        number = its;
        state = left;
        answers = written ∙ rw (its, are) (answer-written numbers (value (network s)) _ lent reply (rw (← are, answers-length s e) room));
      }

-- a report, by its rows
pub report-makes :
    (s : State) →
    state_in_range s ≡ true →
    (d : ℕ) (lent : List ℕ) (r : Result (Unit {0}) Refusal) {after : List ℕ} →
    report_outcome (response r) after ≡ report_into s d lent →
    Makes s (Report d) lent (reply_number r) s after
unfolding answers_of outcome_of ready_for
report-makes s ok d lent r is =
    let ready = network-ok s ok in
    let its : reply_number r ≡ refuse (network s) (report d) =
    sym (number-of r) ∙ number-is _ _ (reply-left s ok (Report d) (λ n. tt) (ap (λ (x : ReportOutcome). x.reply) is)) in
    let asked : refusal_of (network_in_range s) (network s) (report d) ≡ reply_number r = refusal-ready (network_in_range s) (network s) (report d) ready ∙ sym its in
    record { number = its; state = sym (report-left s ok d); answers = ap (λ (x : ReportOutcome). x.rows) is ∙ rw asked }

-- ---- a list of one event

module _ (s : State) (ok : state_in_range s ≡ true) (typed : Typed s.bench) (e : Event) (lent : List ℕ) where
  stays : state_in_range (step_in s (call_of e)) ≡ true
  stays = rw (step_is s ok typed (call_of e)) at (step-represents s (network s) (call_of e) (own-represents s ok typed)).in_range

  pub full-leaves : length lent < answer_size s.bench.bridges e → BatchLeft (event_batch_in (length lent) s e) lent 0 out_of_room s 0 lent
  unfolding event_batch_in
  full-leaves few = rw (lt-ltb _ _ few) (record { made = refl; ending = refl; state = refl; counted = refl; rest = refl; ready = ok })

  module _ (room : answer_size s.bench.bridges e ≤ length lent) {k : ℕ} {z : State} {after : List ℕ} (makes : Makes s e lent k z after) where
    its-reply : reply_of s e ≡ k
    unfolding reply_of
    its-reply = refusal-ready (state_in_range s) (network s) (call_of e) ok ∙ sym makes.number

    pub made-leaves : k ≡ 0 → {size : ℕ} → size ≡ answer_size s.bench.bridges e → BatchLeft (event_batch_in (length lent) s e) lent 1 complete z size after
    unfolding event_batch_in event_batch
    made-leaves none {size} is =
        let counted : size ≡ length (answers_of (network s) e) = is ∙ sym (answers-length s e) in
        let written = rw none at makes.answers in
        rw (le-ltb _ _ room, its-reply, none)
        (record { made = refl; ending = refl; state = makes.state; counted = counted; rest = rw counted written; ready = rw makes.state stays })

    pub refused-leaves : (k ≡ 0 → ⊥) → BatchLeft (event_batch_in (length lent) s e) lent 0 (refused_with k) z 0 after
    unfolding event_batch_in event_batch
    refused-leaves some =
        let same : z ≡ s = makes.state ∙ unmade s ok e (λ none. some (makes.number ∙ none)) in
        let written = rw (ne_eqb k 0 some) at makes.answers in
        rw (le-ltb _ _ room, its-reply, ne_eqb k 0 some)
        (record { made = refl; ending = refl; state = same; counted = refl; rest = written; ready = rw same ok })
