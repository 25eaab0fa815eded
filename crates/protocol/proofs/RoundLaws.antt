-- What a round does. While all bridges are on one view and none changes it, an end to which a message was sent and delivered is told;
-- if the sending end was told before, the end is cleared too. So after two rounds every end of a link that is up at both is told and
-- cleared.
-- Assumes nothing.
use Prim.Native.Nat.{ℕ, ◌*◌, ◌<◌}
use mathlib.Core.Path.{◌≡◌, refl, sym, ap, ◌∙◌, subst}
use mathlib.Core.Logic.{◌⊎◌, inl, inr}
use mathlib.Core.Bool.{true, ◌&&◌, ◌||◌, not, false≢true}
use mathlib.Core.List.{List, [], ◌∷◌}
use lib.ListN.{length}
use lib.Dec.{eqb}
use borrow.Author.Tests.{eqb-true}
use Rattle.distances.proofs.Booleans.{both_true, one-true, otherwise}
use Rattle.distances.proofs.Ranges.{all_below-true}
use Rattle.agreement.specs.Offer.{opposite}
use Rattle.agreement.specs.Forwarding.{UpAt, is_up}
use Rattle.agreement.proofs.Ends.{opposite-opposite, opposite-below}
use Rattle.protocol.specs.Net.{Network, Message}
use Rattle.protocol.specs.Calls.{Call, change, send, deliver, repeat, lose, port, verdict, report, path, accepted, end_of, message_of, sent_over, act, step, run}
use Rattle.protocol.specs.Rounds.{MessageStatus, taken, lost, waits, status_by, or_later, is_delivered, is_send_from, is_sent_and_delivered, has_round, has_no_change}
use Rattle.protocol.proofs.Links.{end-of-link}
use Rattle.protocol.proofs.Accepted.{SendFacts, send-listed}
use Rattle.protocol.proofs.Steps.{invariant-step}
use Rattle.protocol.proofs.Runs.{Allowed, allowed-step, first-allowed, rest-allowed, kept_run, fixed-step}
use Rattle.protocol.proofs.Places.{Stands, stands-new}
use Rattle.protocol.proofs.Statuses.{stands-step, taken_step}
use Rattle.protocol.proofs.Deliveries.{InformedAt, ClearedAt, OneView, Current, told-now, told-kept, cleared-kept}

module _ (t e : ℕ) (W : Type 0) where
  -- a message sent to end e is at the last place, and it is current
  abbrev Sent : Network → Network → Type 0
  Sent n m = (x : Message) × Stands x m.messages (length n.messages) × Current n.plan n.number t e W x

  sent : (n : Network) (c : Call) → OneView n t → e < 2 * n.plan.graph.links → (W → InformedAt n t (opposite e)) → is_send_from n (opposite e) c ≡ true → Sent n (step n c)
  unfolding is_send_from step act sent_over message_of
  sent n (change x) one_view there told q = absurd (false≢true q)
  sent n (send b l) one_view there told q =
      let s : ℕ = end_of n.plan.graph b l in
      let parts : (accepted n (send b l) ≡ true) × (eqb s (opposite e) ≡ true) = both_true (accepted n (send b l)) (eqb s (opposite e)) q in
      let from : s ≡ opposite e = eqb-true s (opposite e) parts.1 in
      let listed : SendFacts n b l = send-listed n b l parts.0 in
      rw parts.0 (
        message_of n b l,
        stands-new (message_of n b l) n.messages,
        record {
          there = there;
          from = end-of-link n.plan.graph b l ∙ from;
          present = ap n.number (sym listed.at_bridge ∙ ap n.plan.graph.bridge_at from);
          view = one_view.on_view b listed.bridge;
          discarded = λ w. rw from ((told w).discarded ∙ ap (λ (k : ℕ). n.number (n.plan.graph.bridge_at k)) (opposite-opposite e));
        },
      )
  sent n (deliver p) one_view there told q = absurd (false≢true q)
  sent n (repeat p) one_view there told q = absurd (false≢true q)
  sent n (lose p) one_view there told q = absurd (false≢true q)
  sent n (port b d) one_view there told q = absurd (false≢true q)
  sent n (verdict b d) one_view there told q = absurd (false≢true q)
  sent n (report d) one_view there told q = absurd (false≢true q)
  sent n (path b d) one_view there told q = absurd (false≢true q)

  -- end e is told; wherever W holds it is cleared
  abbrev Heard : Network → Type 0
  Heard n = InformedAt n t e × (W → ClearedAt n t e)

module _ (t : ℕ) where
  one_view-step : (n : Network) (c : Call) → Allowed n c → OneView n t → OneView (step n c) t
  one_view-step n c h one_view =
      record {
        invariant = invariant-step n c one_view.invariant;
        on_view = fixed-step (λ p v k down. (b : ℕ) → b < p.graph.bridges → v b ≡ t) (allowed-step n c h) one_view.on_view;
      }

  pub one_view-run : (n : Network) (cs : List Call) → has_no_change n cs ≡ true → OneView n t → OneView (run n cs) t
  one_view-run = kept_run (λ n. OneView n t) one_view-step

  module _ (e : ℕ) (W : Type 0) where
    heard-run : (n : Network) (cs : List Call) → has_no_change n cs ≡ true → OneView n t → Heard t e W n → Heard t e W (run n cs)
    heard-run n cs h one_view done = (kept_run (λ m. OneView m t × Heard t e W m) one n cs h (one_view, done)).1
      where
        one : (m : Network) (c : Call) → Allowed m c → OneView m t × Heard t e W m → OneView (step m c) t × Heard t e W (step m c)
        one m c a w = (one_view-step m c a w.0, (told-kept m t w.0 e (allowed-step m c a) w.1.0, λ x. cleared-kept m t w.0 e (allowed-step m c a) (w.1.1 x)))

    -- a current message that is delivered in the list
    heard-by : (x : Message) (n : Network) (cs : List Call) (p : ℕ) → has_no_change n cs ≡ true → OneView n t → Stands x n.messages p → Current n.plan n.number t e W x → is_delivered n cs p ≡ true → Heard t e W (run n cs)
    unfolding is_delivered or_later run
    heard-by x n [] p h one_view stands current q = absurd (false≢true q)
    heard-by x n (c ∷ cs) p h one_view stands current q =
        go (status_by n c p) refl (heard-by x (step n c) cs) q
      where
        allowed : Allowed n c
        allowed = first-allowed n c cs h

        Later : Type 0
        Later = (p : ℕ) → has_no_change (step n c) cs ≡ true → OneView (step n c) t → Stands x (step n c).messages p → Current (step n c).plan (step n c).number t e W x → is_delivered (step n c) cs p ≡ true → Heard t e W (run (step n c) cs)

        go : (f : MessageStatus) → status_by n c p ≡ f → Later → or_later (is_delivered (step n c) cs) f ≡ true → Heard t e W (run (step n c) cs)
        go taken f later q =
            let by = taken_step x n c p stands.1 f in
            heard-run (step n c) cs (rest-allowed n c cs h) (one_view-step n c allowed one_view)
            (subst (λ (m : Network). Heard t e W m) (sym by.1) (told-now n t one_view e current.there x W current by.0))
        go lost f later q = absurd (false≢true q)
        go (waits k) f later q =
            later k (rest-allowed n c cs h) (one_view-step n c allowed one_view) (stands-step x n c p k allowed stands f)
            (fixed-step (λ p v k down. Current p k t e W x) (allowed-step n c allowed) current) q

    -- a message that is sent and delivered in the list
    heard : (n : Network) (cs : List Call) → has_no_change n cs ≡ true → OneView n t → e < 2 * n.plan.graph.links → (W → InformedAt n t (opposite e)) → is_sent_and_delivered n cs (opposite e) ≡ true → Heard t e W (run n cs)
    unfolding is_sent_and_delivered run
    heard n [] h one_view there told q = absurd (false≢true q)
    heard n (c ∷ cs) h one_view there told q =
        go (one-true (is_send_from n (opposite e) c && is_delivered (step n c) cs (length n.messages)) (is_sent_and_delivered (step n c) cs (opposite e)) q) (heard (step n c) cs)
      where
        allowed : Allowed n c
        allowed = first-allowed n c cs h

        Later : Type 0
        Later = has_no_change (step n c) cs ≡ true → OneView (step n c) t → e < 2 * (step n c).plan.graph.links → (W → InformedAt (step n c) t (opposite e)) → is_sent_and_delivered (step n c) cs (opposite e) ≡ true → Heard t e W (run (step n c) cs)

        go : ((is_send_from n (opposite e) c && is_delivered (step n c) cs (length n.messages)) ≡ true) ⊎ (is_sent_and_delivered (step n c) cs (opposite e) ≡ true) → Later → Heard t e W (run (step n c) cs)
        go (inl q) later =
            let parts : (is_send_from n (opposite e) c ≡ true) × (is_delivered (step n c) cs (length n.messages) ≡ true) = both_true (is_send_from n (opposite e) c) (is_delivered (step n c) cs (length n.messages)) q in
            let s : Sent t e W n (step n c) = sent t e W n c one_view there told parts.0 in
            heard-by s.0 (step n c) cs (length n.messages) (rest-allowed n c cs h) (one_view-step n c allowed one_view) s.1
            (fixed-step (λ p v k down. Current p k t e W s.0) (allowed-step n c allowed) s.2) parts.1
        go (inr q) later =
            later (rest-allowed n c cs h) (one_view-step n c allowed one_view)
            (fixed-step (λ p v k down. e < 2 * p.graph.links) (allowed-step n c allowed) there)
            (λ w. told-kept n t one_view (opposite e) (allowed-step n c allowed) (told w)) q

  -- in a round every end that is up is heard from
  end-heard : (n : Network) (cs : List Call) (e : ℕ) → has_round n cs ≡ true → e < 2 * n.plan.graph.links → UpAt n.records e → is_sent_and_delivered n cs e ≡ true
  unfolding has_round is_up
  end-heard n cs e q there up =
      otherwise (not (is_up n.records e)) (is_sent_and_delivered n cs e)
      (all_below-true (2 * n.plan.graph.links) (λ e. not (is_up n.records e) || is_sent_and_delivered n cs e) q e there) (rw up refl)

  -- a round: every end whose far end is up is told, and cleared if the far end was told before
  pub round-told : (n : Network) (cs : List Call) (e : ℕ) → has_no_change n cs ≡ true → OneView n t → has_round n cs ≡ true → e < 2 * n.plan.graph.links → UpAt n.records (opposite e) → Heard t e (InformedAt n t (opposite e)) (run n cs)
  round-told n cs e h one_view round there up =
      heard e (InformedAt n t (opposite e)) n cs h one_view there (λ w. w)
      (end-heard n cs (opposite e) round (opposite-below e n.plan.graph.links there) up)
