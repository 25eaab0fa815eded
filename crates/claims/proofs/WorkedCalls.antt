-- What the claims of layer 3 tell of the protocol's examples in a caller's numbers: each is applied, and only numbers are computed.
-- Assumes nothing.
use Prim.Native.Nat.{ℕ, ◌<◌, ◌≤◌}
use native.Mathlib.Omega.{arith}
use mathlib.Core.Path.{◌≡◌, refl, sym, ap, ◌∙◌, subst}
use mathlib.Core.Bool.{Bool, true, false, cond}
use mathlib.Core.List.{List, [], ◌∷◌}
use lib.ListN.{length, get_or, take, drop, replicate, length-replicate}
use Rattle.distances.specs.View.{NONE}
use Rattle.distances.specs.Call.{link_passes, link_in_range, graph_passes, costs_pass}
use Rattle.distances.specs.Table.{rewritten_from, rewritten}
use Rattle.std.specs.Prelude.{Some}
use Rattle.agreement.specs.Call.{says}
use Rattle.agreement.specs.Offer.{opposite}
use Rattle.agreement.specs.Ranges.{record_in_range, records_in_range}
use Rattle.agreement.specs.declared.Answer.TheVariants.{Stale}
use Rattle.agreement.specs.declared.Verdict.TheVariants.{SentNotAbove}
use Rattle.encoding.specs.Numbers.{link_number}
use Rattle.protocol.specs.Net.{Network, Plan, offer_in, fresh}
use Rattle.protocol.specs.Calls as calls
use Rattle.protocol.specs.Calls.{Call, change, cut, refuse, run, answer_at}
use Rattle.protocol.specs.Ports.{own_distance, forwarding_verdict, forwarding_port, crosses, hop}
use Rattle.protocol.specs.Rings.{Trail.stay, Trail.cross}
use Rattle.protocol.specs.Paths.{delivered, stops, path}
use Rattle.protocol.specs.Paths as paths
use Rattle.protocol.specs.LimitViews.{views_run, fresh_views, least_over, offer_held}
use Rattle.protocol.specs.Examples.{calls_e3, calls_one_end, calls_e4, calls_e6, calls_e7}
use Rattle.protocol.proofs.Example.{computing}
use Rattle.bench.specs.State.{State, network, messages_from}
use Rattle.bench.specs.Ranges.{graph_in_range, bench_in_range, costs_in_range, limits_long, message_passes, messages_in_range, parts_in_range, network_in_range}
use Rattle.bench.specs.Standing.{with_first, with_rows, number_in, standing_bench, standing, step_in}
use Rattle.bench.specs.Outcomes.{ready_for, refusal_of, outcome, report_numbers, fresh_of}
use Rattle.bench.specs.Demand2.{Tells}
use Rattle.bench.specs.Whole.{run_in, Meets}
use Rattle.bench.specs.Batches.{reply_of, answers_of, answer_size, answer_sizes, event_batch, event_batch_in, batch_from, calls_of, each_accepted, answers_by, refused_with, Ended}
use Rattle.bench.specs.declared.Event.{Event}
use Rattle.bench.specs.declared.Event.TheVariants.{Cut}
use Rattle.messages.specs.SliceLists.{Kept, numbered, Lead, Starts}
use Rattle.claims.specs.Claims.{Claims}
use Rattle.claims.specs.WorkedCalls.{lent_state, started, left, leftover, lent_slice, events, WorkedCalls}

-- all that computes below
unfoldable all : Bool
unfolding computing fresh_of graph_in_range costs_in_range limits_long link_passes link_in_range graph_passes costs_pass rewritten_from rewritten record_in_range records_in_range bench_in_range parts_in_range message_passes messages_in_range with_first with_rows number_in standing_bench standing step_in messages_from refusal_of reply_of report_numbers answers_of answer_size event_batch event_batch_in batch_from
all = true

-- ---- the calls one after the other

-- the network that they make of the fresh one
abbrev made : List Call → Network
made cs = run (fresh (network lent_state).plan) cs

accepted : (fresh_of lent_state).reply ≡ says tt
unfolding all
accepted = refl

room : 320 ≤ length lent_state.messages
room = omega (arith, length-replicate {A = ℕ} 320 6)

-- a state that is out of range would refuse with 17
ready-told : (ready : Bool) (n : Network) (c : Call) → refusal_of ready n c ≡ 0 → ready ≡ true
unfolding refusal_of computing
ready-told true n c e = refl
ready-told false n c e = absurd (omega (arith, e))

module _ (claims : Claims) where
  meets : (cs : List Call) → Meets (left cs) (network lent_state).plan cs
  meets cs = claims.lists lent_state accepted room cs

  -- there are three bridges
  three : (cs : List Call) → (made cs).plan.graph.bridges ≡ 3 → (left cs).bench.bridges ≡ 3
  three cs same = ap (λ (p : Plan). p.graph.bridges) (meets cs).stands.plan ∙ same

  tells : (cs : List Call) → refuse (made cs) (calls.port 2 0) ≡ 0 → Tells (left cs)
  unfolding ready_for
  tells cs none =
      claims.states (left cs)
      (ready-told (network_in_range (left cs)) (network (left cs)) (calls.port 2 0) ((meets cs).replies.refusals (calls.port 2 0) ∙ none))

-- ---- what the examples are in the network of the calls

record Facts : Type 0 where
  bridges : ((made calls_e3).plan.graph.bridges ≡ 3) × ((made calls_e4).plan.graph.bridges ≡ 3) × ((made calls_one_end).plan.graph.bridges ≡ 3)
  none : (refuse (made calls_e3) (calls.port 2 0) ≡ 0) × (refuse (made calls_e3) (calls.report 0) ≡ 0) × (refuse (made calls_e6) (calls.port 2 0) ≡ 0)
  port : forwarding_port (made calls_e3) 2 0 ≡ Some 1
  verdict : ((made calls_e6).plan.graph.bridges ≡ 3) × (forwarding_verdict (made calls_e6) 1 0 ≡ SentNotAbove 1)
  path : path (made calls_e3) 2 0 ≡ delivered 2
  dies : (forwarding_port (made calls_one_end) 1 0 ≡ Some 0) × (paths.path (made calls_one_end) 2 0 ≡ stops 1 1)
  distance : (own_distance (made calls_e3) 2 0 ≡ 2) × (own_distance (made calls_e4) 1 0 ≡ 4)
  accepted : refuse (made calls_e7) (calls.deliver 0) ≡ 0
  stale : answer_at (made calls_e7) 0 ≡ Stale
  in_flight : 0 < length (made calls_e7).messages
  missing : (refuse (made []) (change (cut 0 9)) ≡ 10) × (refuse (made []) (calls.verdict 3 0) ≡ 10)

facts : Facts
unfolding all
facts =
    record {
      bridges = (refl, refl, refl);
      none = (refl, refl, refl);
      port = refl;
      verdict = (refl, refl);
      path = refl;
      dies = (refl, refl);
      distance = (refl, refl);
      accepted = refl;
      stale = refl;
      in_flight = omega arith;
      missing = (refl, refl);
    }

limits-at-e6 :
    (let p = (network lent_state).plan in
    let views = views_run (fresh p) 2 fresh_views calls_e6 in
    (least_over (λ t. offer_in p t 2 0) views.since ≡ 2) × (offer_held (λ t. offer_in p t (opposite 2) 0) views.held ≡ 4))
unfolding all
limits-at-e6 = (refl, refl)

-- a limit that is not NONE is held
held-told : (b : Bool) (x : ℕ) → cond b x NONE ≡ 4 → x ≡ 4
held-told true x e = e
held-told false x e = absurd (omega (arith, e))

low : {n : ℕ} → n ≡ 3 → (b : ℕ) → b < 3 → b < n
low same b h = omega (arith, same, h)

-- ---- a list of events

two_made : (batch_from 6 started events).made ≡ 2
unfolding all
two_made = refl

report-answers : answers_by started (take 2 events) ≡ 0 ∷ NONE ∷ 1 ∷ NONE ∷ 2 ∷ NONE ∷ []
unfolding all answers_by
report-answers = refl

-- the list ended at the second cut
twelve : (batch_from 6 started events).ending ≡ refused_with 12
unfolding all
twelve = refl

next-refused : Claims → reply_of (batch_from 6 started events).state (Cut 0 0) ≡ 12
next-refused claims =
    let b = batch_from 6 started events in
    let end : Ended 6 events b (refused_with 12) = subst (Ended 6 events b) twelve (claims.batches 6 started events).ended in
    let at : drop 2 events ≡ end.0 ∷ end.1 = ap (λ (k : ℕ). drop k events) (sym two_made) ∙ end.2 in
    ap (reply_of b.state) (ap (λ (l : List Event). get_or l 0 (Cut 0 0)) at) ∙ end.3

six : answer_sizes started.bench.bridges (take 2 events) ≡ 6
unfolding all answer_sizes
six = refl

-- bridge 1's frame in E7
crossing : hop (made calls_e7) 0 1 ≡ crosses 1 2
unfolding all
crossing = refl

two-calls : calls_of (take 2 events) ≡ calls.report 0 ∷ change (cut 0 0) ∷ []
unfolding calls_of
two-calls = refl

-- ---- over a slice

slice-accepted : (fresh_of (numbered lent_slice)).reply ≡ says tt
unfolding all
slice-accepted = refl

slice-port : Claims → (first t : Kept) × Starts lent_slice first × Lead first calls_e3 t × (forwarding_port (network (numbered t)) 2 0 ≡ Some 1)
slice-port claims =
    let begun = claims.slices_lead.begin lent_slice (omega (arith, length-replicate 64 leftover)) slice-accepted in
    let led = claims.slices_lead.go begun.0 begun.1 calls_e3 in
    let m : Meets (numbered led.0) (network lent_state).plan calls_e3 = claims.slices lent_slice begun.0 led.0 calls_e3 begun.2 led.1 in
    let bridge = low facts.bridges.0 in
    (begun.0, led.0, begun.2, led.1, m.replies.ports 2 0 (bridge 2 (omega arith)) (bridge 0 (omega arith)) ∙ facts.port)

one-message : length (made calls_e3).messages ≡ 1
unfolding all
one-message = refl

standing-there : Claims → (left calls_e3).bench.messages ≡ 1
unfolding standing standing_bench
standing-there claims = ap (λ (s : State). s.bench.messages) (meets claims calls_e3).stands.state ∙ one-message

-- ---- all of it

module _ (claims : Claims) where
  at_first : Meets started (network lent_state).plan []
  unfolding run_in
  at_first = meets claims []

  none-cut : refusal_of (ready_for started (change (cut 0 9))) (network started) (change (cut 0 9)) ≡ 0 → ⊥
  none-cut e = omega (arith, sym facts.missing.0 ∙ sym (at_first.replies.refusals (change (cut 0 9))) ∙ e)

  pub worked-calls : WorkedCalls
  worked-calls =
      let m = (meets claims calls_e3).replies in
      let t = tells claims calls_e3 facts.none.0 in
      let bridge = low facts.bridges.0 in
      let there = low (three claims calls_e3 facts.bridges.0) in
      let two = bridge 2 (omega arith) in
      let zero = bridge 0 (omega arith) in
      let rows = (t.reports 0 (replicate 32 5) (there 0 (omega arith)) (omega (arith, length-replicate {A = ℕ} 32 5))).1 in
      let pulled = (meets claims calls_one_end).replies in
      let third = low facts.bridges.2 in
      let at-e6 = low facts.verdict.0 in
      let sixth = low (three claims calls_e6 facts.verdict.0) in
      let limits = (meets claims calls_e6).limits 2 0 (omega arith) (omega arith) in
      record {
        port = t.ports 2 0 (there 2 (omega arith)) (there 0 (omega arith)) ∙ ap (λ p. outcome (says p) (left calls_e3)) (m.ports 2 0 two zero ∙ facts.port);
        verdict =
            (tells claims calls_e6 facts.none.2).verdicts 1 0 (sixth 1 (omega arith)) (sixth 0 (omega arith))
            ∙ ap (λ v. outcome (says v) (left calls_e6))
            ((meets claims calls_e6).replies.verdicts 1 0 (at-e6 1 (omega arith)) (at-e6 0 (omega arith)) ∙ facts.verdict.1);
        path = t.paths 2 0 (there 2 (omega arith)) (there 0 (omega arith)) ∙ ap (λ w. outcome (says w) (left calls_e3)) (m.paths 2 0 two zero ∙ facts.path);
        report = (
          rows.distances 2 (there 2 (omega arith)) ∙ m.distances 2 0 two zero ∙ facts.distance.0,
          rows.ports 2 (there 2 (omega arith)) ∙ ap link_number (m.ports 2 0 two zero ∙ facts.port),
        );
        rule = t.rule.forwards 2 0 1 (m.ports 2 0 two zero ∙ facts.port);
        in_flight = standing-there claims;
        distance =
            (meets claims calls_e4).replies.distances 1 0 (low facts.bridges.1 1 (omega arith)) (low facts.bridges.1 0 (omega arith)) ∙ facts.distance.1;
        dies = (
          pulled.ports 1 0 (third 1 (omega arith)) (third 0 (omega arith)) ∙ facts.dies.0,
          pulled.paths 2 0 (third 2 (omega arith)) (third 0 (omega arith)) ∙ facts.dies.1,
        );
        sent = limits.sent ∙ limits-at-e6.0;
        held = held-told ((network (left calls_e6)).records.ends 2).holding _ (limits.held ∙ limits-at-e6.1);
        accepted = (meets claims calls_e7).replies.refusals (calls.deliver 0) ∙ facts.accepted;
        stale = (meets claims calls_e7).replies.deliveries 0 facts.in_flight ∙ facts.stale;
        refused = claims.refused started (change (cut 0 9)) none-cut;
        lacking = at_first.replies.refusals (calls.verdict 3 0) ∙ facts.missing.1;
        asking = ((claims.asking started 2 0).0, (claims.asking started 2 0).1, (claims.asking started 2 0).2, (claims.asking started 2 0).3);
        no_ring = λ l e. (meets claims calls_e7).holds.no_ring 0 1 1 (cross crossing (cross e stay));
        reported = (meets claims calls_e3).replies.reports 0 (replicate 40 5) (omega (arith, length-replicate {A = ℕ} 40 5)) ∙ facts.none.1;
        made = ap (λ (k : ℕ). each_accepted started (take k events)) (sym two_made) ∙ (claims.batches 6 started events).accepted;
        batch =
            (claims.batches 6 started events).state
            ∙ ap (λ (k : ℕ). run_in started (calls_of (take k events))) two_made
            ∙ ap (run_in started) two-calls;
        answers = (claims.batches 6 started events).answers ∙ ap (λ (k : ℕ). answers_by started (take k events)) two_made ∙ report-answers;
        sizes = (claims.batches 6 started events).sizes ∙ ap (λ (k : ℕ). answer_sizes started.bench.bridges (take k events)) two_made ∙ six;
        ended = next-refused claims;
        slices = slice-port claims;
      }
