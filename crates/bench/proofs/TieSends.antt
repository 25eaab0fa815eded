-- The network still stands in the state when the messages in flight change: send and lose, with their replies. Assumes nothing.
use Prim.Native.Nat.{ℕ, ◌+◌, ◌*◌, ◌-◌, ◌≤◌, ◌<◌}
use native.Mathlib.Numerals.{add-one}
use native.Mathlib.Omega.{arith}
use mathlib.Core.Path.{◌≡◌, sym}
use mathlib.Core.Bool.{true, ◌&&◌}
use mathlib.Core.List.{List, [], ◌∷◌, ◌++◌}
use lib.ListN.{length}
use lib.Seq.{sets}
use Rattle.distances.proofs.Booleans.{true-both}
use Rattle.protocol.specs.Net.{Network, Message}
use Rattle.protocol.specs.Calls.{send, lose, accepted, act, step, end_of, message_of, sent_over, without, with_messages, checks, refuse, no_such_bridge, no_such_link, not_on_link, end_down, no_room, no_message}
use Rattle.bench.specs.State.{State, state, network, messages_from}
use Rattle.bench.specs.Private.Views.{network_of}
use Rattle.bench.specs.Ranges.{bench_in_range, messages_in_range}
use Rattle.bench.specs.Outcomes.{refusal_of}
use Rattle.bench.specs.State.{numbers_of}
use Rattle.bench.specs.Private.Queue.{taken_out, QueueOutcome, queue_outcome, send_of, lose_of}
use Rattle.bench.proofs.Represents.{Represents, Typed}
use Rattle.bench.specs.Private.ListSteps.{step_by}
use Rattle.protocol.proofs.Links.{end_of-below}
use Rattle.protocol.proofs.Accepted.{SendFacts, send-listed, place-listed, accepted-checks}
use Rattle.bench.proofs.TieRanges.{StateReady, told, ready, bench-ready, messages-ready}
use Rattle.bench.proofs.TieRefusals.{settled-step}
use Rattle.bench.proofs.TieQueue.{messages-length, taken-messages, added-messages}
use Rattle.bench.proofs.TieChecks.{MessageFacts, refusal-same}
use Rattle.bench.proofs.RangesKept.{with_flight, taken-kept, added-kept}

module _ (s : State) (n : Network) (r : Represents s n) where
  flight-represents : (k : ℕ) (m : List ℕ) (ms : List Message) → StateReady (with_flight s k m) → messages_from 0 k m ≡ ms → Represents (with_flight s k m) (with_messages n ms)
  flight-represents k m ms inside are =
      record {
        in_range = ready (with_flight s k m) inside;
        typed =
            record {
              views = ty.views;
              numbers = ty.numbers;
              records = ty.records;
              flags = ty.flags;
              number = ty.number;
              received = ty.received;
              discarded = ty.discarded;
            };
        plan = r.plan;
        view = r.view;
        number = r.number;
        down = r.down;
        ends = r.ends;
        sent = r.sent;
        held = r.held;
        messages = sym are;
      }
    where
      ty : Typed s.bench
      ty = r.typed

  -- one taken out
  pub taken-represents :
      (p : ℕ) →
      p < s.bench.messages →
      Represents (with_flight s (s.bench.messages - 1) (taken_out s.bench.messages p s.messages)) (with_messages n (without p n.messages))
  taken-represents p listed =
      let old : StateReady s = told s r.in_range in
      let long : 5 * s.bench.messages ≤ length s.messages = omega (arith, old.count, old.messages_long) in
      flight-represents (s.bench.messages - 1) _ _ (taken-kept s old p listed)
      (rw r.messages (taken-messages s.bench.messages p s.messages listed long))

  -- one added
  added-represents :
      (x : Message) →
      s.bench.messages < 64 →
      MessageFacts s.bench.links s.bench.views x →
      Represents (with_flight s (s.bench.messages + 1) (sets s.messages (5 * s.bench.messages) (numbers_of x))) (with_messages n (n.messages ++ (x ∷ [])))
  added-represents x free inside =
      let old : StateReady s = told s r.in_range in
      let room : 5 * s.bench.messages + 5 ≤ length s.messages = omega (arith, old.messages_long) in
      flight-represents (s.bench.messages + 1) _ _ (added-kept s old x free inside)
      (rw (add-one, r.messages) (added-messages s.bench.messages s.messages x room))

  -- the entry check of send and of lose
  flight-ready : (bench_in_range s.bench && messages_in_range s.bench s.messages) ≡ true
  flight-ready = let old = told s r.in_range in true-both (bench-ready s old) (messages-ready s old)

  -- what a send puts in is the same, and in range
  module _ (y l : ℕ) (hy : y < s.bench.bridges) (hl : l < s.bench.links) where
    same_sent : message_of n y l ≡ message_of (network s) y l
    unfolding message_of
    same_sent =
        rw (
          r.ends (end_of n.plan.graph y l) (end_of-below n.plan.graph y l s.bench.links hl),
          r.plan,
          r.view y hy,
          r.number y hy,
        )

    sent-in-range : MessageFacts s.bench.links s.bench.views (message_of (network s) y l)
    unfolding message_of
    sent-in-range =
        record {
          link = hl;
          direction = omega arith;
          view = (told s r.in_range).view y hy;
          number = r.typed.number y hy;
          discarded = r.typed.discarded _ (end_of-below _ y l s.bench.links hl);
        }

  -- the bench and the messages alone tell the refusal
  send-refused :
      (y l : ℕ) →
      refusal_of (bench_in_range s.bench && messages_in_range s.bench s.messages) (network_of s.bench s.messages) (send y l) ≡ refuse n (send y l)
  unfolding refusal_of checks no_such_bridge no_such_link not_on_link end_down no_room
  send-refused y l = refusal-same s n r _ (send y l) flight-ready

  lose-refused :
      (p : ℕ) →
      refusal_of (bench_in_range s.bench && messages_in_range s.bench s.messages) (network_of s.bench s.messages) (lose p) ≡ refuse n (lose p)
  unfolding refusal_of checks no_message
  lose-refused p = refusal-same s n r _ (lose p) flight-ready

  -- the state after a send or a lose
  queue_state : QueueOutcome → State
  queue_state o = state o.bench s.costs s.sent s.held o.messages

  flight_refused : ℕ → QueueOutcome
  flight_refused k = queue_outcome k s.bench s.messages

  sent-represents :
      (y l : ℕ) →
      accepted n (send y l) ≡ true →
      Represents (with_flight s (s.bench.messages + 1) (sets s.messages (5 * s.bench.messages) (numbers_of (message_of (network_of s.bench s.messages) y l)))) (act n (send y l))
  unfolding act sent_over message_of
  sent-represents y l a =
      let listed : SendFacts n y l = send-listed n y l a in
      let hy : y < s.bench.bridges = rw r.plan at listed.bridge in
      let hl : l < s.bench.links = rw r.plan at listed.link in
      rw (same_sent y l hy hl)
      (added-represents (message_of (network s) y l) (rw (r.messages, messages-length) at listed.room) (sent-in-range y l hy hl))

  pub send-represents : (y l : ℕ) → Represents (step_by s (send y l)) (step n (send y l))
  unfolding step_by send_of queue_state flight_refused
  send-represents y l = settled-step queue_state n (send y l) _ flight_refused _ (send-refused y l) (λ k. r) (sent-represents y l)

  pub lose-represents : (p : ℕ) → Represents (step_by s (lose p)) (step n (lose p))
  unfolding step_by lose_of queue_state flight_refused act checks
  lose-represents p =
      settled-step queue_state n (lose p) _ flight_refused _ (lose-refused p) (λ k. r)
      (λ a. taken-represents p (rw (r.messages, messages-length) at (place-listed n p _ (accepted-checks n (lose p) a))))
