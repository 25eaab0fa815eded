-- What repeat and deliver come to: a repeat is turned down or the message is received, and a delivery then takes it out. Assumes nothing.
use Prim.Native.Nat.{ℕ, ◌-◌, ◌≤◌, ◌<◌}
use mathlib.Core.Path.{◌≡◌, refl, sym, ◌∙◌, ap, subst}
use mathlib.Core.Bool.{true}
use mathlib.Core.List.{List}
use lib.ListN.{length}
use Rattle.distances.specs.declared.refusals.Refusal.{Refusal}
use Rattle.distances.specs.Refusal.{number}
use Rattle.agreement.specs.Call.{Response, says}
use Rattle.agreement.specs.declared.Agreement.{Agreement}
use Rattle.agreement.specs.declared.Answer.{Answer}
use Rattle.protocol.specs.Calls.{deliver, repeat, refuse, checks, no_message, end_down, answer_at}
use Rattle.protocol.proofs.Accepted.{place-listed}
use Rattle.bench.specs.State.{State, state, network}
use Rattle.bench.specs.Private.Views.{network_of}
use Rattle.bench.specs.Ranges.{state_in_range}
use Rattle.bench.specs.Outcomes.{refused_by, ready_for, refusal_of, reply_to, Outcome, outcome, outcome_of}
use Rattle.bench.specs.Private.Queue.{with_count, taken_out}
use Rattle.bench.specs.Private.Deliveries.{DeliveryOutcome, delivery_outcome, delivery_at, with_delivered, received, delivery_refused, deliver_of, repeat_of}
use Rattle.bench.specs.Private.Steps.{IsPrepared}
use Rattle.bench.specs.declared.Bench.{Bench}
use Rattle.bench.specs.declared.tables.Prepared.{Prepared}
use Rattle.bench.proofs.Represents.{Typed}
use Rattle.bench.proofs.TieRanges.{told}
use Rattle.bench.proofs.TieQueue.{messages-length}
use Rattle.bench.proofs.TieRefusals.{refusal-ready}
use Rattle.bench.proofs.EntryOutcomes.{turned_down, goes_on, reply-is}
use Rattle.bench.proofs.CallOutcomes.{deliver-outcome, repeat-outcome}
use Rattle.bench.proofs.Replies.{some_number, refused-outcome}

-- what is worked out of a bench stays so
pub prepared-received :
    (s : State) (e : ℕ) (m : Agreement) {o : Outcome Answer} (p : Prepared) →
    IsPrepared s.bench s.costs p →
    o ≡ (let d : DeliveryOutcome = delivery_at s e m in outcome d.reply (with_delivered s d)) →
    IsPrepared o.state.bench o.state.costs p
unfolding delivery_at
prepared-received s e m p ready is = subst (λ (o : Outcome Answer). IsPrepared o.state.bench o.state.costs p) (sym is) (record { tables = ready.tables; chained = ready.chained })

module _ (s : State) (ok : state_in_range s ≡ true) (p : ℕ) where
  abbrev after : DeliveryOutcome → Outcome Answer
  after d = outcome d.reply (with_delivered s d)

  -- the messages and the ends that are down tell the refusal, of both alike
  pub repeat-same : refuse (network_of s.bench s.messages) (deliver p) ≡ refuse (network s) (repeat p)
  unfolding refuse checks no_message end_down
  repeat-same = refl

  deliver-same : refuse (network s) (repeat p) ≡ refuse (network s) (deliver p)
  unfolding refuse checks
  deliver-same = refl

  module _ (r : Refusal) (is : number r ≡ refuse (network_of s.bench s.messages) (deliver p)) where
    pub repeat-refused : outcome (refused_by (number r)) s ≡ outcome_of s (repeat p) (λ n. answer_at n p)
    unfolding ready_for
    repeat-refused = refused-outcome s (repeat p) (λ n. answer_at n p) ok r (is ∙ repeat-same)

    pub repeat-turned : outcome (refused_by (number r)) s ≡ after (repeat_of s p)
    unfolding repeat_of
    repeat-turned = ap after (turned_down (state_in_range s) (network s) (repeat p) (delivery_refused s) (received s p) ok (number r) (is ∙ repeat-same) (some_number r))

  repeat-taken : refuse (network s) (repeat p) ≡ 0 → received s p ≡ repeat_of s p
  unfolding repeat_of
  repeat-taken none = goes_on (state_in_range s) (network s) (repeat p) (delivery_refused s) (received s p) ok 0 (sym none) refl

  deliver-taken :
      refuse (network s) (repeat p) ≡ 0 →
      (let r : DeliveryOutcome = received s p in delivery_outcome r.reply (with_count r.bench (s.bench.messages - 1)) r.sent r.held (taken_out s.bench.messages p s.messages)) ≡ deliver_of s p
  unfolding deliver_of
  deliver-taken none = goes_on (state_in_range s) (network s) (deliver p) (delivery_refused s) _ ok 0 (sym none ∙ deliver-same) refl

  -- what the reply of a repeat tells of the refusal
  repeat-number : {said : Response Answer} {t : State} → outcome said t ≡ outcome_of s (repeat p) (λ n. answer_at n p) → said.number ≡ refuse (network s) (repeat p)
  unfolding outcome_of reply_to ready_for
  repeat-number e =
      ap (λ (o : Outcome Answer). o.reply.number) e
      ∙ reply-is (λ (x : Response Answer). x.number) (refusal_of (state_in_range s) (network s) (repeat p)) refused_by _ (λ j. refl) (λ z. refl)
      ∙ refusal-ready (state_in_range s) (network s) (repeat p) ok

  pub deliver-refused :
      (r : Refusal) {t : State} →
      outcome (refused_by (number r)) t ≡ outcome_of s (repeat p) (λ n. answer_at n p) →
      outcome (refused_by (number r)) t ≡ outcome_of s (deliver p) (λ n. answer_at n p)
  unfolding ready_for
  deliver-refused r e =
      let is = repeat-number e in
      e ∙ sym (refused-outcome s (repeat p) (λ n. answer_at n p) ok r is) ∙ refused-outcome s (deliver p) (λ n. answer_at n p) ok r (is ∙ deliver-same)

  module _ (typed : Typed s.bench) where
    pub repeat-done :
        0 ≡ refuse (network_of s.bench s.messages) (deliver p) →
        {o : Outcome Answer} →
        o ≡ after (received s p) →
        (o ≡ outcome_of s (repeat p) (λ n. answer_at n p)) × (o ≡ after (repeat_of s p))
    repeat-done none is =
        let numbers = is ∙ ap after (repeat-taken (sym (none ∙ repeat-same))) in
        (numbers ∙ repeat-outcome s ok typed p, numbers)

    module _
        {x : Answer} {b : Bench} {costs sent held : List ℕ}
        (e : outcome (says x) (state b costs sent held s.messages) ≡ outcome_of s (repeat p) (λ n. answer_at n p))
        (numbers : outcome (says x) (state b costs sent held s.messages) ≡ after (repeat_of s p)) where
      none : refuse (network s) (repeat p) ≡ 0
      none = sym (repeat-number e)

      got : outcome (says x) (state b costs sent held s.messages) ≡ after (received s p)
      got = numbers ∙ ap after (sym (repeat-taken none))

      -- the message is there, to be taken out
      pub repeat-there : (p < b.messages) × (b.messages ≤ 64) × (320 ≤ length s.messages)
      unfolding refuse checks delivery_at
      repeat-there =
          let count = ap (λ (o : Outcome Answer). o.state.bench.messages) got in
          let all = told s ok in
          rw count (rw messages-length at (place-listed (network s) p _ none), all.count, all.messages_long)

      pub deliver-done : outcome (says x) (state (with_count b (b.messages - 1)) costs sent held (taken_out b.messages p s.messages)) ≡ outcome_of s (deliver p) (λ n. answer_at n p)
      unfolding delivery_at
      deliver-done =
          ap
          (λ (o : Outcome Answer).
          let t : State = o.state in
          outcome o.reply (state (with_count t.bench (t.bench.messages - 1)) t.costs t.sent t.held (taken_out t.bench.messages p s.messages)))
          got
          ∙ ap after (deliver-taken none)
          ∙ deliver-outcome s ok typed p
