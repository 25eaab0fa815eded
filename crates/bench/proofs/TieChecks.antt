-- A call is refused by the same number in a network and in the state where it stands.
-- Assumes nothing.
use Prim.Native.Nat.{ℕ, ◌*◌, ◌<◌}
use native.Mathlib.Omega.{arith}
use mathlib.Core.Path.{◌≡◌, refl, sym, ◌∙◌, ap}
use mathlib.Core.Bool.{Bool, true, false}
use mathlib.Core.List.{List, [], ◌∷◌}
use lib.ListN.{length}
use lib.Dec.{ltb}
use borrow.Author.Tests.{ltb-true, lt-ltb}
use Rattle.distances.proofs.Booleans.{both_true, true-both, below}
use Rattle.distances.proofs.Checks.{refusal-next}
use Rattle.protocol.specs.Net.{Network, Message, receiver}
use Rattle.protocol.specs.Calls.{Call, Change, change, update, cut, restore, send, deliver, repeat, lose, port, verdict, report, path, Check, refusal, no_such_bridge, no_such_view, no_such_link, no_number_left, not_on_link, end_down, no_room, no_message, already, message_at, end_of, change_checks, checks, refuse}
use Rattle.protocol.proofs.Links.{end_of-below}
use Rattle.bench.specs.State.{State, network, message_from}
use Rattle.bench.specs.Ranges.{message_passes}
use Rattle.bench.specs.Outcomes.{refusal_of}
use Rattle.bench.proofs.Represents.{Represents}
use Rattle.bench.proofs.TieRanges.{told}
use Rattle.bench.proofs.TieRefusals.{refusal-ready}
use Rattle.bench.proofs.TieQueue.{messages-length, message-at}

-- checks that are the same, in front of others
next-same : (c d : Check) (cs ds : List Check) → c ≡ d → (d.when ≡ false → refusal cs ≡ refusal ds) → refusal (c ∷ cs) ≡ refusal (d ∷ ds)
next-same c d cs ds same = refusal-next c d cs ds (ap (λ (x : Check). x.when) same) (ap (λ (x : Check). x.number) same)

-- what the check of one message tells
pub record MessageFacts (links views : ℕ) (x : Message) : Type 0 where
  pub link : x.link < links
  pub direction : x.direction < 2
  pub view : x.agreement.view < views
  pub number : x.agreement.number < 65536
  pub discarded : x.agreement.discarded < 65536

module _ (links views : ℕ) (x : Message) where
  abbrev pub passes : Bool
  passes = message_passes links views x.link x.direction x.agreement.view x.agreement.number x.agreement.discarded

  pub message-told : passes ≡ true → MessageFacts links views x
  unfolding message_passes
  message-told ok =
      let a = both_true (ltb x.link links) _ ok in
      let b = both_true (ltb x.direction 2) _ a.1 in
      let c = both_true (ltb x.agreement.view views) _ b.1 in
      let d = both_true (ltb x.agreement.number 65536) _ c.1 in
      record {
        link = ltb-true _ _ a.0;
        direction = ltb-true _ _ b.0;
        view = ltb-true _ _ c.0;
        number = ltb-true _ _ d.0;
        discarded = ltb-true _ _ d.1;
      }

  pub told-message : MessageFacts links views x → passes ≡ true
  unfolding message_passes
  told-message h =
      true-both (lt-ltb _ _ h.link)
      (true-both (lt-ltb _ _ h.direction)
      (true-both (lt-ltb _ _ h.view) (true-both (lt-ltb _ _ h.number) (lt-ltb _ _ h.discarded))))

module _ (s : State) (n : Network) (r : Represents s n) where
  same-bridge : (b : ℕ) → no_such_bridge n b ≡ no_such_bridge (network s) b
  unfolding no_such_bridge
  same-bridge b = rw r.plan

  same_view : (t : ℕ) → no_such_view n t ≡ no_such_view (network s) t
  unfolding no_such_view
  same_view t = rw r.plan

  same-link : (l : ℕ) → no_such_link n l ≡ no_such_link (network s) l
  unfolding no_such_link
  same-link l = rw r.plan

  same-on : (b l : ℕ) → not_on_link n b l ≡ not_on_link (network s) b l
  unfolding not_on_link
  same-on b l = rw r.plan

  same_number : (b t : ℕ) → b < s.bench.bridges → no_number_left n b t ≡ no_number_left (network s) b t
  unfolding no_number_left
  same_number b t h = rw (r.view b h, r.number b h)

  same-down : (e : ℕ) → e < 2 * s.bench.links → end_down n e ≡ end_down (network s) e
  unfolding end_down
  same-down e h = rw (r.down e h)

  -- the end of a link that is there
  same_end : (b l : ℕ) → l < s.bench.links → end_down n (end_of n.plan.graph b l) ≡ end_down (network s) (end_of (network s).plan.graph b l)
  unfolding end_down
  same_end b l h = rw (r.plan, r.down (end_of (network s).plan.graph b l) (end_of-below (network s).plan.graph b l s.bench.links h))

  same-already : (down : Bool) (b l : ℕ) → l < s.bench.links → already n down (end_of n.plan.graph b l) ≡ already (network s) down (end_of (network s).plan.graph b l)
  unfolding already
  same-already down b l h = rw (r.plan, r.down (end_of (network s).plan.graph b l) (end_of-below (network s).plan.graph b l s.bench.links h))

  same-room : no_room n ≡ no_room (network s)
  unfolding no_room
  same-room = rw r.messages

  same_place : (p : ℕ) → no_message n p ≡ no_message (network s) p
  unfolding no_message
  same_place p = rw r.messages

  -- what a check that does not apply tells
  is-bridge : (b : ℕ) → (no_such_bridge (network s) b).when ≡ false → b < s.bench.bridges
  unfolding no_such_bridge
  is-bridge b = below b s.bench.bridges

  is-link : (l : ℕ) → (no_such_link (network s) l).when ≡ false → l < s.bench.links
  unfolding no_such_link
  is-link l = below l s.bench.links

  pub is-place : (p : ℕ) → (no_message (network s) p).when ≡ false → p < s.bench.messages
  unfolding no_message
  is-place p e = rw messages-length at (below p (length (network s).messages) e)

  -- the message at a place, in range
  pub same-message-at : (p : ℕ) → p < s.bench.messages → message_at n p ≡ message_from s.messages p
  same-message-at p h = rw r.messages (message-at s.bench.messages s.messages p h)

  pub message-in-range : (p : ℕ) → p < s.bench.messages → MessageFacts s.bench.links s.bench.views (message_from s.messages p)
  message-in-range p h = message-told _ _ _ ((told s r.in_range).message p h)

  same-receiver : (p : ℕ) → p < s.bench.messages → end_down n (receiver (message_at n p)) ≡ end_down (network s) (receiver (message_at (network s) p))
  same-receiver p h =
      rw (same-message-at p h, message-at s.bench.messages s.messages p h)
      (same-down (receiver (message_from s.messages p)) (omega (arith, (message-in-range p h).link, (message-in-range p h).direction)))

  -- the checks of the end that a call names, in front of others
  end_same :
      (b l : ℕ) (cs ds : List Check) →
      (l < s.bench.links → refusal cs ≡ refusal ds) →
      refusal (no_such_bridge n b ∷ no_such_link n l ∷ not_on_link n b l ∷ cs) ≡ refusal (no_such_bridge (network s) b ∷ no_such_link (network s) l ∷ not_on_link (network s) b l ∷ ds)
  end_same b l cs ds rest =
      next-same _ _ _ _ (same-bridge b)
      (λ e. next-same _ _ _ _ (same-link l) (λ f. next-same _ _ _ _ (same-on b l) (λ g. rest (is-link l f))))

  changes-same : (x : Change) → refusal (change_checks n x) ≡ refusal (change_checks (network s) x)
  unfolding change_checks
  changes-same (update b t) =
      next-same _ _ _ _ (same-bridge b)
      (λ e. next-same _ _ _ _ (same_view t) (λ f. next-same _ _ _ _ (same_number b t (is-bridge b e)) (λ g. refl)))
  changes-same (cut b l) = end_same b l _ _ (λ low. next-same _ _ _ _ (same-already true b l low) (λ h. refl))
  changes-same (restore b l) = end_same b l _ _ (λ low. next-same _ _ _ _ (same-already false b l low) (λ h. refl))

  placed_same :
      (p : ℕ) →
      refusal (no_message n p ∷ end_down n (receiver (message_at n p)) ∷ []) ≡ refusal (no_message (network s) p ∷ end_down (network s) (receiver (message_at (network s) p)) ∷ [])
  placed_same p = next-same _ _ _ _ (same_place p) (λ e. next-same _ _ _ _ (same-receiver p (is-place p e)) (λ f. refl))

  pub refuse-same : (c : Call) → refuse n c ≡ refuse (network s) c
  unfolding refuse checks
  refuse-same (change x) = changes-same x
  refuse-same (send b l) =
      end_same b l _ _ (λ low. next-same _ _ _ _ (same_end b l low) (λ h. next-same _ _ _ _ same-room (λ k. refl)))
  refuse-same (deliver p) = placed_same p
  refuse-same (repeat p) = placed_same p
  refuse-same (lose p) = next-same _ _ _ _ (same_place p) (λ e. refl)
  refuse-same (port b d) = next-same _ _ _ _ (same-bridge b) (λ e. next-same _ _ _ _ (same-bridge d) (λ f. refl))
  refuse-same (verdict b d) = next-same _ _ _ _ (same-bridge b) (λ e. next-same _ _ _ _ (same-bridge d) (λ f. refl))
  refuse-same (report d) = next-same _ _ _ _ (same-bridge d) (λ e. refl)
  refuse-same (path b d) = next-same _ _ _ _ (same-bridge b) (λ e. next-same _ _ _ _ (same-bridge d) (λ f. refl))

  -- where the entry check passes, the reply is the network's
  pub refusal-same : (ready : Bool) (c : Call) → ready ≡ true → refusal_of ready (network s) c ≡ refuse n c
  refusal-same ready c ok = refusal-ready ready (network s) c ok ∙ sym (refuse-same c)
