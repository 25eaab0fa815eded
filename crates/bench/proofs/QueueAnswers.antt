-- What a call on messages in flight makes of their numbers, by whether the count of those in flight changes: nothing, or one appended, or one taken out.
-- Assumes nothing.
use Prim.Native.Nat.{ℕ, suc, ◌+◌, ◌*◌, ◌-◌, ◌≤◌, ◌<◌}
use native.Mathlib.Omega.{arith}
use mathlib.Core.Path.{◌≡◌, refl, sym, ◌∙◌, ap, subst}
use mathlib.Core.Bool.{Bool, true, false, cond, ◌&&◌}
use mathlib.Core.List.{List, [], ◌∷◌, ◌++◌}
use borrow.Author.Tests.{eqb-true}
use lib.ListN.{length, take, drop, length-append}
use lib.Seq.{sets}
use lib.Dec.{eqb}
use Rattle.protocol.specs.Net.{Network, Message}
use Rattle.protocol.specs.Calls.{Call, send, deliver, lose, refuse, checks, accepted, step, act, sent_over, message_of, without, no_such_bridge, no_such_link, not_on_link, end_down, no_room, no_message}
use Rattle.bench.specs.State.{State, network, messages_from, numbers_of}
use Rattle.bench.specs.Ranges.{bench_in_range, messages_in_range, network_in_range, state_in_range}
use Rattle.bench.specs.Standing.{with_first, number_in, standing_bench, standing, step_in}
use Rattle.bench.specs.Outcomes.{ready_for, left_by}
use Rattle.bench.specs.Private.Queue.{taken_out}
use Rattle.bench.specs.declared.Bench.{Bench}
use Rattle.bench.proofs.Beside.{stands-itself}
use Rattle.bench.proofs.BesideCalls.{taken-part, sets-part}
use Rattle.bench.proofs.QueueRanges.{flight-told, network-bench}
use Rattle.bench.proofs.QueueCalls.{send-told, lose-told}
use Rattle.bench.proofs.QueueTaken.{taken-sets}
use Rattle.bench.proofs.StandingLaws.{messages-standing}
use Rattle.bench.proofs.TieQueue.{messages-length, taken-messages, taken-count, added-messages}
use Rattle.protocol.proofs.Accepted.{place-listed}
use Rattle.distances.proofs.Booleans.{both_true, true-both}

-- what a send or a lose asks
flight-of : (s : State) → state_in_range s ≡ true → (bench_in_range s.bench && messages_in_range s.bench s.messages) ≡ true
flight-of s ok = let h = both_true (network_in_range s) _ ok in true-both (network-bench _ _ _ _ h.0) h.1

-- one appended: the count after, and the numbers after
pub record Put (b : Bench) (m : List ℕ) (count : ℕ) (after : List ℕ) : Type 0 where
  pub room : b.messages < 64
  pub long : 320 ≤ length m
  pub more : count ≡ b.messages + 1
  pub five : List ℕ
  pub many : length five ≡ 5
  pub messages : after ≡ sets m (5 * b.messages) five

-- one taken out: later ones move up by one
pub record Taken (b : Bench) (m : List ℕ) (p count : ℕ) (after : List ℕ) : Type 0 where
  pub listed : p < b.messages
  pub few : b.messages ≤ 64
  pub long : 320 ≤ length m
  pub fewer : count ≡ b.messages - 1
  pub messages : after ≡ sets m (5 * p) (take (5 * count - 5 * p) (drop (5 * p + 5) m))

-- what holds of the state as it was, and of what an accepted call leaves, holds of what a call leaves
left_by_lem :
    (s : State) (c : Call) (P : State → Type 0) →
    P s →
    (ready_for s c ≡ true → refuse (network s) c ≡ 0 → P (standing (act (network s) c) s)) →
    P (left_by s c)
unfolding left_by step_in step accepted
left_by_lem s c P old new = go (ready_for s c) refl (eqb (refuse (network s) c) 0) refl
  where
    go : (b : Bool) → ready_for s c ≡ b → (a : Bool) → eqb (refuse (network s) c) 0 ≡ a → P (cond b (standing (cond a (act (network s) c) (network s)) s) s)
    go false r a q = old
    go true r true q = new r (eqb-true _ 0 q)
    go true r false q = subst P (sym (stands-itself s)) old

module _ (s : State) where
  abbrev count : ℕ
  count = s.bench.messages

  -- the messages of a network with one more, and with one less
  more-messages :
      (x : Message) →
      5 * count + 5 ≤ length s.messages →
      let ms : List Message = messages_from 0 count s.messages ++ (x ∷ []) in
      (length ms ≡ count + 1) × (with_first (5 * length ms) (number_in ms) s.messages ≡ sets s.messages (5 * count) (numbers_of x))
  more-messages x room =
      let ms : List Message = messages_from 0 count s.messages ++ (x ∷ []) in
      let long : length ms ≡ suc count = length-append (messages_from 0 count s.messages) (x ∷ []) ∙ omega (arith, messages-length 0 count s.messages) in (
        omega (arith, long),
        sym (messages-standing ms s.messages (sets s.messages (5 * count) (numbers_of x)) (sets-part (numbers_of x) s.messages (5 * count) (5 * length ms) (omega (arith, long)))
            (ap (λ (k : ℕ). messages_from 0 k (sets s.messages (5 * count) (numbers_of x))) long ∙ added-messages count s.messages x room)),
      )

  fewer-messages :
      (p : ℕ) →
      p < count →
      5 * count ≤ length s.messages →
      let ms : List Message = without p (messages_from 0 count s.messages) in
      (length ms ≡ count - 1) × (with_first (5 * length ms) (number_in ms) s.messages ≡ taken_out count p s.messages)
  fewer-messages p low room =
      let ms : List Message = without p (messages_from 0 count s.messages) in
      let long : length ms ≡ count - 1 = taken-count count p s.messages low room in (
        long,
        sym (messages-standing ms s.messages (taken_out count p s.messages) (rw long (taken-part count p s.messages))
            (ap (λ (k : ℕ). messages_from 0 k (taken_out count p s.messages)) long ∙ taken-messages count p s.messages low room)),
      )

  -- ---- send

  module _ (y l : ℕ) where
    -- an accepted one
    sent-put : ready_for s (send y l) ≡ true → refuse (network s) (send y l) ≡ 0 → let x = standing (act (network s) (send y l)) s in Put s.bench s.messages x.bench.messages x.messages
    unfolding ready_for act sent_over standing standing_bench refuse checks no_such_bridge no_such_link not_on_link end_down no_room
    sent-put ok none =
        let told = flight-told s.bench s.messages ok in
        let room = (send-told s.bench s.messages y l told.0 none).room in
        let more = more-messages (message_of (network s) y l) (omega (arith, told.1.long, room)) in
        record { room = room; long = told.1.long; more = more.0; five = numbers_of (message_of (network s) y l); many = refl; messages = more.1 }

    pub send-left : (left_by s (send y l)).bench.messages ≤ count → (left_by s (send y l)).messages ≡ s.messages
    send-left =
        left_by_lem s (send y l) (λ x. x.bench.messages ≤ count → x.messages ≡ s.messages) (λ h. refl)
        (λ ok none h. absurd (omega (arith, h, (sent-put ok none).more)))

    pub send-put : count < (left_by s (send y l)).bench.messages → Put s.bench s.messages (left_by s (send y l)).bench.messages (left_by s (send y l)).messages
    send-put =
        left_by_lem s (send y l) (λ x. count < x.bench.messages → Put s.bench s.messages x.bench.messages x.messages) (λ h. absurd (omega (arith, h)))
        (λ ok none h. sent-put ok none)

  -- ---- lose and deliver

  module _ (p : ℕ) where
    took-out :
        (n : Network) →
        n.messages ≡ without p (messages_from 0 count s.messages) →
        (bench_in_range s.bench && messages_in_range s.bench s.messages) ≡ true →
        p < count →
        let x = standing n s in Taken s.bench s.messages p x.bench.messages x.messages
    unfolding standing standing_bench
    took-out n are ok low =
        let told = flight-told s.bench s.messages ok in
        let room : 5 * count ≤ length s.messages = omega (arith, told.0.messages, told.1.long) in
        let fewer = fewer-messages p low room in
        rw are
        (record {
          listed = low;
          few = told.0.messages;
          long = told.1.long;
          fewer = fewer.0;
          messages = fewer.1 ∙ rw fewer.0 (taken-sets count p s.messages low room);
        })

    lost-taken : ready_for s (lose p) ≡ true → refuse (network s) (lose p) ≡ 0 → let x = standing (act (network s) (lose p)) s in Taken s.bench s.messages p x.bench.messages x.messages
    unfolding ready_for act refuse checks no_message
    lost-taken ok none = took-out _ refl ok (lose-told s.bench s.messages p none)

    delivered-taken : ready_for s (deliver p) ≡ true → refuse (network s) (deliver p) ≡ 0 → let x = standing (act (network s) (deliver p)) s in Taken s.bench s.messages p x.bench.messages x.messages
    unfolding ready_for act refuse checks
    delivered-taken ok none = took-out _ refl (flight-of s ok) (rw messages-length at (place-listed (network s) p _ none))

    -- a call whose accepted case takes the message out
    module _ (c : Call) (takes : ready_for s c ≡ true → refuse (network s) c ≡ 0 → let x = standing (act (network s) c) s in Taken s.bench s.messages p x.bench.messages x.messages) where
      left-same : count ≤ (left_by s c).bench.messages → (left_by s c).messages ≡ s.messages
      left-same =
          left_by_lem s c (λ x. count ≤ x.bench.messages → x.messages ≡ s.messages) (λ h. refl)
          (λ ok none h. let t = takes ok none in absurd (omega (arith, h, t.fewer, t.listed)))

      left-taken : (left_by s c).bench.messages < count → Taken s.bench s.messages p (left_by s c).bench.messages (left_by s c).messages
      left-taken =
          left_by_lem s c (λ x. x.bench.messages < count → Taken s.bench s.messages p x.bench.messages x.messages) (λ h. absurd (omega (arith, h)))
          (λ ok none h. takes ok none)

    pub lose-left : count ≤ (left_by s (lose p)).bench.messages → (left_by s (lose p)).messages ≡ s.messages
    lose-left = left-same (lose p) lost-taken

    pub lose-taken : (left_by s (lose p)).bench.messages < count → Taken s.bench s.messages p (left_by s (lose p)).bench.messages (left_by s (lose p)).messages
    lose-taken = left-taken (lose p) lost-taken

    pub deliver-left : count ≤ (left_by s (deliver p)).bench.messages → (left_by s (deliver p)).messages ≡ s.messages
    deliver-left = left-same (deliver p) delivered-taken

    pub deliver-taken : (left_by s (deliver p)).bench.messages < count → Taken s.bench s.messages p (left_by s (deliver p)).bench.messages (left_by s (deliver p)).messages
    deliver-taken = left-taken (deliver p) delivered-taken
