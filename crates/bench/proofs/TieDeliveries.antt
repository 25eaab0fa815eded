-- The network still stands in the state after deliver and after repeat, and the replies are the network's. Assumes nothing.
use Prim.Native.Nat.{ℕ, ◌<◌}
use native.Mathlib.Omega.{arith}
use mathlib.Core.Path.{◌≡◌, refl}
use mathlib.Core.List.{List, ◌∷◌}
use Rattle.agreement.specs.Offer.{opposite}
use Rattle.agreement.specs.Call.{says}
use Rattle.protocol.specs.Net.{Network, sender}
use Rattle.protocol.specs.Calls.{Check, deliver, repeat, refusal, no_message, refuse, act, step, message_at, answer_at, checks}
use Rattle.protocol.specs.Calls as calls
use Rattle.bench.specs.State.{State, message_from}
use Rattle.bench.specs.Outcomes.{or_refused}
use Rattle.bench.specs.Private.Deliveries.{DeliveryOutcome, delivery_refused, delivery_at, received, repeat_of, deliver_of}
use Rattle.bench.specs.Outcomes.{refused_by}
use Rattle.bench.specs.Ranges.{state_in_range}
use Rattle.bench.proofs.Represents.{Represents}
use Rattle.bench.specs.Private.ListSteps.{step_by}
use Rattle.bench.proofs.CallSteps.{with_delivered}
use Rattle.bench.proofs.TieRanges.{told}
use Rattle.protocol.proofs.Accepted.{place-listed, accepted-checks}
use Rattle.bench.proofs.TieRefusals.{settled_same, settled-step}
use Rattle.bench.proofs.TieQueue.{messages-length}
use Rattle.bench.proofs.TieChecks.{message-in-range, same-message-at, refusal-same}
use Rattle.bench.proofs.TieSends.{taken-represents}
use Rattle.bench.proofs.TieReceived.{received-answer, received-represents}

module _ (s : State) (n : Network) (r : Represents s n) (p : ℕ) where
  -- an accepted place
  placed : (cs : List Check) → refusal (no_message n p ∷ cs) ≡ 0 → p < s.bench.messages
  placed cs e = rw (r.messages, messages-length) at (place-listed n p cs e)

  -- the message at place p is received
  placed-represents : p < s.bench.messages → Represents (with_delivered s (received s p)) (calls.after_delivery n (message_at n p))
  unfolding calls.after_delivery
  placed-represents h =
      let inside = message-in-range s n r p h in
      rw (same-message-at s n r p h)
      (received-represents s (told s r.in_range) (opposite (sender (message_from s.messages p))) (omega (arith, inside.link, inside.direction)) _ inside n r)

  pub repeat-represents : Represents (step_by s (repeat p)) (step n (repeat p))
  unfolding step_by repeat_of act checks
  repeat-represents =
      settled-step (with_delivered s) n (repeat p) _ (delivery_refused s) (received s p) (refusal-same s n r _ (repeat p) r.in_range) (λ k. r)
      (λ a. placed-represents (placed _ (accepted-checks n (repeat p) a)))

  pub deliver-represents : Represents (step_by s (deliver p)) (step n (deliver p))
  unfolding step_by deliver_of act checks delivery_at calls.after_delivery calls.received_at
  deliver-represents =
      settled-step (with_delivered s) n (deliver p) _ (delivery_refused s) _ (refusal-same s n r _ (deliver p) r.in_range) (λ k. r)
      (λ a.
      let h : p < s.bench.messages = placed _ (accepted-checks n (deliver p) a) in
      taken-represents (with_delivered s (received s p)) (calls.after_delivery n (message_at n p)) (placed-represents h) p h)

  -- and answered
  pub placed-answer : p < s.bench.messages → (received s p).reply ≡ says (answer_at n p)
  placed-answer h =
      let inside = message-in-range s n r p h in
      rw (same-message-at s n r p h)
      (received-answer s (told s r.in_range) (opposite (sender (message_from s.messages p))) (omega (arith, inside.link, inside.direction)) _ inside n r)

  pub repeat-replied : (repeat_of s p).reply ≡ or_refused (refuse n (repeat p)) refused_by (says (answer_at n p))
  unfolding repeat_of refuse checks
  repeat-replied =
      rw (refusal-same s n r (state_in_range s) (repeat p) r.in_range)
      (settled_same (λ (o : DeliveryOutcome). o.reply) (refuse n (repeat p)) (delivery_refused s) refused_by _ _ refl (λ e. placed-answer (placed _ e)))

  pub deliver-replied : (deliver_of s p).reply ≡ or_refused (refuse n (deliver p)) refused_by (says (answer_at n p))
  unfolding deliver_of refuse checks
  deliver-replied =
      rw (refusal-same s n r (state_in_range s) (deliver p) r.in_range)
      (settled_same (λ (o : DeliveryOutcome). o.reply) (refuse n (deliver p)) (delivery_refused s) refused_by _ _ refl (λ e. placed-answer (placed _ e)))
