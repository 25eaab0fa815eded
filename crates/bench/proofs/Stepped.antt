-- What a call that is accepted makes of the lists is the state in which the network stands after its step. Assumes nothing.
use Prim.Native.Nat.{ℕ, ◌+◌, ◌*◌, ◌-◌, ◌≤◌, ◌<◌}
use native.Mathlib.Numerals.{add-one}
use native.Mathlib.Omega.{arith}
use mathlib.Core.Path.{◌≡◌, refl, sym, ◌∙◌, ap}
use mathlib.Core.Bool.{Bool, true, false, cond}
use mathlib.Core.List.{List, []}
use lib.ListN.{length, get_or}
use lib.Seq.{sets}
use lib.Dec.{eqb}
use borrow.Author.Tests.{eqb-false}
use Rattle.protocol.specs.Calls.{Call, change, update, send, lose, refuse, accepted, step, act, after_change, with_end, sent_over, message_of, moved, updated_to}
use Rattle.bench.specs.State.{State, network, numbers_of}
use Rattle.bench.specs.Private.Views.{network_of}
use Rattle.bench.specs.Ranges.{network_in_range}
use Rattle.bench.specs.Standing.{step_in}
use Rattle.bench.specs.Private.Changes.{bench_outcome, bench_with_end, own_end, switch, change_outcome, update_of}
use Rattle.bench.specs.Private.Queue.{queue_outcome, with_count, taken_out}
use Rattle.bench.specs.Private.Changes.{moved_to}
use Rattle.bench.proofs.Represents.{Typed}
use Rattle.bench.proofs.TieRanges.{get_d-stored}
use Rattle.bench.proofs.TieQueue.{taken-messages, added-messages}
use Rattle.bench.proofs.TieMoved.{kept-moved}
use Rattle.bench.proofs.CallSteps.{with_changed, with_rewritten, with_queue, update-step}
use Rattle.bench.proofs.ChangeEntry.{number-left}
use Rattle.bench.proofs.TieRefusals.{refusal-ready}
use Rattle.protocol.proofs.Accepted.{UpdateExists, update-listed}
use Rattle.bench.proofs.Quiet.{quiet, quiet-represents}
use Rattle.bench.proofs.Beside.{Agrees, agrees-same, agrees-messages, represents-agrees, Beside, stood-step}
use Rattle.bench.proofs.BesideCalls.{taken-part, sets-part}
use Rattle.bench.proofs.Switches.{switch-end, switch-same, switch-after}
use Rattle.bench.proofs.BesideSteps.{with-end, with-flight, update-beside}

module _ (s : State) where
  -- a state that is s but for what there is, and in which the network stands that an accepted call makes
  pub done-step : (a : State) (c : Call) → refuse (network s) c ≡ 0 → Beside s a → Agrees (act (network s) c) (network a) → a ≡ step_in s c
  unfolding step accepted
  done-step a c none b g = stood-step s a c b (rw none g)

  -- ---- cut and restore

  flag-agrees : (e : ℕ) (down : Bool) → e < length s.bench.down → Agrees (with_end (network s) e down) (network (with_changed s (bench_outcome 0 (bench_with_end s.bench e down))))
  unfolding with_end
  flag-agrees e down room =
      record {
        plan = refl;
        view = λ y h. refl;
        number = λ y h. refl;
        down = λ k h. sym (get_d-stored s.bench.down e down k false room);
        ends = λ e h. refl;
        sent = λ e d h k. refl;
        held = λ e d h k. refl;
        messages = refl;
      }

  pub switch-is :
      (y l : ℕ) (down : Bool) →
      own_end s.bench y l < length s.bench.down →
      refuse (network s) (change (switch down y l)) ≡ 0 →
      with_changed s (bench_outcome 0 (bench_with_end s.bench (own_end s.bench y l) down)) ≡ step_in s (change (switch down y l))
  unfolding act
  switch-is y l down room none =
      let low = switch-end y l s.bench [] down (switch-same y l s down ∙ none) in
      done-step _ (change (switch down y l)) none (with-end s (own_end s.bench y l) down low)
      (rw (switch-after y l (network s) down) (flag-agrees (own_end s.bench y l) down room))

  -- ---- messages in flight

  pub send-is :
      (y l : ℕ) →
      5 * s.bench.messages + 5 ≤ length s.messages →
      refuse (network s) (send y l) ≡ 0 →
      with_queue s (queue_outcome 0 (with_count s.bench (s.bench.messages + 1)) (sets s.messages (5 * s.bench.messages) (numbers_of (message_of (network_of s.bench s.messages) y l)))) ≡ step_in s (send y l)
  unfolding act sent_over message_of
  send-is y l room none =
      let five : List ℕ = numbers_of (message_of (network_of s.bench s.messages) y l) in
      done-step _ (send y l) none (with-flight s (s.bench.messages + 1) (sets s.messages (5 * s.bench.messages) five) (sets-part five s.messages (5 * s.bench.messages) (5 * (s.bench.messages + 1)) (omega arith)))
      (agrees-messages (network s) (network s) (agrees-same (network s)) _ _
      (sym (rw add-one (added-messages s.bench.messages s.messages (message_of (network_of s.bench s.messages) y l) room))))

  pub lose-is :
      (p : ℕ) →
      p < s.bench.messages →
      5 * s.bench.messages ≤ length s.messages →
      refuse (network s) (lose p) ≡ 0 →
      with_queue s (queue_outcome 0 (with_count s.bench (s.bench.messages - 1)) (taken_out s.bench.messages p s.messages)) ≡ step_in s (lose p)
  unfolding act
  lose-is p low long none =
      done-step _ (lose p) none (with-flight s (s.bench.messages - 1) _ (taken-part s.bench.messages p s.messages))
      (agrees-messages (network s) (network s) (agrees-same (network s)) _ _ (sym (taken-messages s.bench.messages p s.messages low long)))

  -- ---- update

  module _ (y t : ℕ) (ok : network_in_range s ≡ true) (typed : Typed s.bench) where
    moved-agrees :
        y < s.bench.bridges → t < s.bench.views → get_or s.bench.number y 0 < 65535 → Agrees (moved (network s) y t) (network (with_rewritten s (moved_to s y t)))
    unfolding moved
    moved-agrees low view more =
        let calm = quiet s ok typed in
        agrees-messages _ _ (represents-agrees _ _ (kept-moved calm (network calm) (quiet-represents s ok typed) y t low view more)) (network s).messages (network s).messages refl

    update_agrees :
        UpdateExists (network s) y t →
        (same : Bool) →
        eqb (get_or s.bench.view y 0) t ≡ same →
        Agrees (cond same (network s) (moved (network s) y t)) (network (with_rewritten s (cond same (change_outcome 0 s.bench s.sent s.held) (moved_to s y t))))
    update_agrees listed true q = agrees-same (network s)
    update_agrees listed false q =
        moved-agrees listed.bridge listed.view (number-left (network s) y t listed (typed.number y listed.bridge) (eqb-false _ _ q))

    pub update-is : refuse (network s) (change (update y t)) ≡ 0 → with_rewritten s (update_of s y t) ≡ step_in s (change (update y t))
    unfolding act after_change updated_to update_of accepted
    update-is none =
        let listed = update-listed (network s) y t (ap (λ (k : ℕ). eqb k 0) none) in
        let passes = refusal-ready (network_in_range s) (network s) (change (update y t)) ok ∙ none in
        done-step _ (change (update y t)) none (rw (update-step s y t) at (update-beside s y t))
        (rw passes (update_agrees listed (eqb (get_or s.bench.view y 0) t) refl))
