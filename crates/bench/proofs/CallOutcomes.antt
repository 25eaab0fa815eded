-- What the private functions come to is what the contracts of the calls say. Assumes nothing.
use Prim.Native.Nat.{ℕ, ◌+◌, ◌*◌, ◌-◌}
use native.Mathlib.Omega.{arith}
use mathlib.Core.Path.{◌≡◌, refl, ◌∙◌, ap}
use mathlib.Core.Bool.{true, ◌&&◌}
use lib.Seq.{sets}
use Rattle.agreement.specs.Call.{says}
use Rattle.protocol.specs.Calls.{Call, change, update, send, deliver, repeat, lose, refuse, checks, answer_at, message_of, no_such_bridge, no_such_link, not_on_link, end_down, no_room, no_message}
use Rattle.bench.specs.State.{State, network, numbers_of}
use Rattle.bench.specs.Private.Views.{network_of}
use Rattle.bench.specs.Ranges.{bench_in_range, messages_in_range, network_in_range, state_in_range}
use Rattle.bench.specs.Outcomes.{ready_for, reply_to, outcome, outcome_of}
use Rattle.bench.specs.Private.Changes.{ChangeOutcome, update_of}
use Rattle.bench.specs.Private.Queue.{queue_outcome, with_count, taken_out}
use Rattle.bench.specs.Private.Deliveries.{DeliveryOutcome, deliver_of, repeat_of}
use Rattle.bench.proofs.Represents.{Typed, own-represents}
use Rattle.bench.proofs.TieRefusals.{refusal-ready}
use Rattle.bench.proofs.TieDeliveries.{deliver-replied, repeat-replied}
use Rattle.bench.proofs.CallSteps.{with_rewritten, with_queue, with_delivered, deliver-step, repeat-step}
use Rattle.bench.proofs.QueueRanges.{flight-told}
use Rattle.bench.proofs.QueueCalls.{send-told, lose-told}
use Rattle.bench.proofs.Stepped.{update-is, send-is, lose-is}
use Rattle.bench.proofs.BesideSteps.{step_is}
use Rattle.bench.proofs.OutcomeLaws.{call-done}
use Rattle.bench.proofs.RunSteps.{left-ready}

-- ---- update

module _ (s : State) (ok : network_in_range s ≡ true) (typed : Typed s.bench) (y t : ℕ) (none : refuse (network s) (change (update y t)) ≡ 0) where
  -- accepted, with what it leaves
  pub moved-outcome : (o : ChangeOutcome) → o ≡ update_of s y t → outcome (says {A = Unit {0}} tt) (with_rewritten s o) ≡ outcome_of s (change (update y t)) (λ n. tt)
  unfolding ready_for
  moved-outcome o is = call-done s (change (update y t)) (λ n. tt) ok none (ap (with_rewritten s) is ∙ update-is s y t ok typed none) refl

-- ---- messages in flight

-- what is handed to send and to lose
module _ (s : State) (ok : (bench_in_range s.bench && messages_in_range s.bench s.messages) ≡ true) where
  pub send-done :
      (y l : ℕ) →
      refuse (network s) (send y l) ≡ 0 →
      outcome (says {A = Unit {0}} tt) (with_queue s (queue_outcome 0 (with_count s.bench (s.bench.messages + 1)) (sets s.messages (5 * s.bench.messages) (numbers_of (message_of (network_of s.bench s.messages) y l)))))
      ≡ outcome_of s (send y l) (λ n. tt)
  unfolding ready_for refuse checks no_such_bridge no_such_link not_on_link end_down no_room
  send-done y l none =
      let told = flight-told s.bench s.messages ok in
      call-done s (send y l) (λ n. tt) ok none (send-is s y l (omega (arith, told.1.long, (send-told s.bench s.messages y l told.0 none).room)) none) refl

  pub lose-done :
      (p : ℕ) →
      refuse (network s) (lose p) ≡ 0 →
      outcome (says {A = Unit {0}} tt) (with_queue s (queue_outcome 0 (with_count s.bench (s.bench.messages - 1)) (taken_out s.bench.messages p s.messages)))
      ≡ outcome_of s (lose p) (λ n. tt)
  unfolding ready_for refuse checks no_message
  lose-done p none =
      let told = flight-told s.bench s.messages ok in
      call-done s (lose p) (λ n. tt) ok none (lose-is s p (lose-told s.bench s.messages p none) (omega (arith, told.0.messages, told.1.long)) none) refl

-- ---- deliver and repeat

module _ (s : State) (ok : state_in_range s ≡ true) (typed : Typed s.bench) (p : ℕ) where
  abbrev Told : Call → DeliveryOutcome → Type 0
  Told c o = outcome o.reply (with_delivered s o) ≡ outcome_of s c (λ n. answer_at n p)

  pub deliver-outcome : Told (deliver p) (deliver_of s p)
  unfolding outcome_of reply_to ready_for
  deliver-outcome =
      rw (deliver-replied s (network s) (own-represents s ok typed) p, ← deliver-step s p, step_is s ok typed (deliver p), left-ready s (deliver p) ok, refusal-ready (state_in_range s) (network s) (deliver p) ok)

  pub repeat-outcome : Told (repeat p) (repeat_of s p)
  unfolding outcome_of reply_to ready_for
  repeat-outcome =
      rw (repeat-replied s (network s) (own-represents s ok typed) p, ← repeat-step s p, step_is s ok typed (repeat p), left-ready s (repeat p) ok, refusal-ready (state_in_range s) (network s) (repeat p) ok)
