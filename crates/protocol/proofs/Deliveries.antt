-- What a delivery does to an end while all bridges are on one view and none changes it: a told end stays told, a cleared row stays
-- cleared, and a message with its sender's present number tells the end that it reaches. Assumes nothing.
use Prim.Native.Nat.{ℕ, ◌*◌, ◌<◌, ◌≤◌}
use native.Mathlib.Omega.{arith}
use mathlib.Core.Path.{◌≡◌, refl, sym, ap, ◌∙◌, subst}
use mathlib.Core.Bool.{Bool, true, false}
use mathlib.Core.List.{List}
use lib.ListN.{length}
use lib.Dec.{eqb}
use borrow.Author.Tests.{eqb-true, eq-eqb}
use Rattle.distances.specs.View.{InRange}
use Rattle.agreement.specs.Offer.{opposite}
use Rattle.agreement.proofs.Informed.{Informed, informed-by, informed-still, cleared_by, cleared-still}
use Rattle.agreement.proofs.Ends.{opposite-below, bridge-in-range}
use Rattle.protocol.specs.Net.{Network, Plan, Message, sender, offer_in}
use Rattle.protocol.specs.Calls.{message_at, with_messages, after_delivery, received_at}
use Rattle.protocol.proofs.Invariant.{Invariant, InvariantBy, far}
use Rattle.protocol.proofs.Runs.{AllowedStep, moves, delivers}

-- end e has received the far bridge's present number and holds its offers in t; its sent limits are the offers in t
abbrev pub InformedAt : Network → ℕ → ℕ → Type 0
InformedAt n t e = Informed (n.number (far n e)) (n.records.ends e) (n.records.held e) (offer_in n.plan t (opposite e))

abbrev pub ClearedAt : Network → ℕ → ℕ → Type 0
ClearedAt n t e = (d : ℕ) → n.records.sent e d ≡ offer_in n.plan t e d

-- a network of which the invariant holds, with every bridge on view t
pub record OneView (n : Network) (t : ℕ) : Type 0 where
  pub invariant : Invariant n
  pub on_view : (b : ℕ) → b < n.plan.graph.bridges → n.view b ≡ t

-- what reaches end e: the far bridge's present number with view t; wherever W holds its discarded number is e's bridge's number
pub record Current (p : Plan) (number : ℕ → ℕ) (t e : ℕ) (W : Type 0) (x : Message) : Type 0 where
  pub there : e < 2 * p.graph.links
  pub from : sender x ≡ opposite e
  pub present : x.agreement.number ≡ number (p.graph.bridge_at (opposite e))
  pub view : x.agreement.view ≡ t
  pub discarded : W → x.agreement.discarded ≡ number (p.graph.bridge_at e)

delivered-at : (n : Network) (x : Message) (e : ℕ) → opposite (sender x) ≡ e → after_delivery n x ≡ received_at n e x
unfolding after_delivery
delivered-at n x e q = ap (λ (k : ℕ). received_at n k x) q

module _ (n : Network) (t : ℕ) (one_view : OneView n t) where
  graph-in-range : InRange n.plan.graph
  graph-in-range = one_view.invariant.1.plan.graph

  view-at : (e : ℕ) → e < 2 * n.plan.graph.links → n.view (n.plan.graph.bridge_at e) ≡ t
  view-at e h = one_view.on_view (n.plan.graph.bridge_at e) (bridge-in-range n.plan.graph graph-in-range e h)

  -- a message in flight has at most its sender's number, and view t if it has that number
  module _ (p : ℕ) (h : p < length n.messages) where
    sender-there : sender (message_at n p) < 2 * n.plan.graph.links
    sender-there = omega (arith, one_view.invariant.1.link_of_message p h, one_view.invariant.1.side_of_message p h)

    number-most : (message_at n p).agreement.number ≤ n.number (n.plan.graph.bridge_at (sender (message_at n p)))
    number-most = (one_view.invariant.1.in_flight p h).most

    view_of : (message_at n p).agreement.number ≡ n.number (n.plan.graph.bridge_at (sender (message_at n p))) → (message_at n p).agreement.view ≡ t
    view_of q =
        let b : ℕ = n.plan.graph.bridge_at (sender (message_at n p)) in
        let i : InvariantBy n one_view.invariant.0 = one_view.invariant.1 in
        (i.in_flight p h).view
        ∙ ap (one_view.invariant.0 b) q
        ∙ sym (i.present b (bridge-in-range n.plan.graph graph-in-range (sender (message_at n p)) sender-there))
        ∙ view-at (sender (message_at n p)) sender-there

  -- a delivery to end e itself
  module _ (e : ℕ) (there : e < 2 * n.plan.graph.links) (x : Message) where
    told_here : x.agreement.number ≤ n.number (far n e) → (x.agreement.number ≡ n.number (far n e) → x.agreement.view ≡ t) → InformedAt n t e → InformedAt (received_at n e x) t e
    unfolding received_at
    told_here most view told =
        rw (eq-eqb e e refl, view-at e there)
        (informed-still t (n.records.ends e) x.agreement (n.records.held e) (offer_in n.plan t (opposite e)) (n.number (far n e)) most view told)

    cleared-here : ClearedAt n t e → ClearedAt (received_at n e x) t e
    unfolding received_at
    cleared-here cleared d =
        rw (eq-eqb e e refl, view-at e there)
        (cleared-still (n.number (n.plan.graph.bridge_at e)) (n.records.ends e) x.agreement (offer_in n.plan t e) (n.records.sent e) cleared d)

    module _ (W : Type 0) (c : Current n.plan n.number t e W x) where
      newly-told : InformedAt (received_at n e x) t e
      unfolding received_at
      newly-told =
          rw (eq-eqb e e refl, view-at e there)
          (informed-by t (n.records.ends e) x.agreement (n.records.held e) (offer_in n.plan t (opposite e)) (n.number (far n e)) c.present c.view
          (one_view.invariant.1.direction e there).received)

      newly-cleared : W → ClearedAt (received_at n e x) t e
      unfolding received_at
      newly-cleared w d =
          rw (eq-eqb e e refl, view-at e there)
          (cleared_by (n.number (n.plan.graph.bridge_at e)) (n.records.ends e) x.agreement (offer_in n.plan t e) (n.records.sent e)
          (omega (arith, (one_view.invariant.1.direction e there).received, c.present)) (c.discarded w) d)

      pub told-now : (ms : List Message) → InformedAt (with_messages (after_delivery n x) ms) t e × (W → ClearedAt (with_messages (after_delivery n x) ms) t e)
      told-now ms =
          let here : after_delivery n x ≡ received_at n e x = delivered-at n x e (omega (arith, c.from)) in (
            subst (λ (m : Network). InformedAt m t e) (sym here) newly-told,
            λ w. subst (λ (m : Network). ClearedAt m t e) (sym here) (newly-cleared w),
          )

  -- a delivery of a message in flight is to end e, or leaves it as it was
  by_end : (Q : Network → Type 0) (p e : ℕ) → p < length n.messages → (e < 2 * n.plan.graph.links → sender (message_at n p) ≡ opposite e → Q (received_at n e (message_at n p))) → (eqb e (opposite (sender (message_at n p))) ≡ false → Q (after_delivery n (message_at n p))) → Q (after_delivery n (message_at n p))
  by_end Q p e h here other = go (eqb e (opposite (sender (message_at n p)))) refl
    where
      go : (b : Bool) → eqb e (opposite (sender (message_at n p))) ≡ b → Q (after_delivery n (message_at n p))
      go true q =
          let at : opposite (sender (message_at n p)) ≡ e = sym (eqb-true e (opposite (sender (message_at n p))) q) in
          rw (delivered-at n (message_at n p) e at)
          (here (rw (← at) (opposite-below (sender (message_at n p)) n.plan.graph.links (sender-there p h))) (omega arith))
      go false q = other q

  pub told-kept : {m : Network} (e : ℕ) → AllowedStep n m → InformedAt n t e → InformedAt m t e
  unfolding after_delivery received_at
  told-kept e (moves ms) told = told
  told-kept e (delivers p ms h) told =
      by_end (λ m. InformedAt m t e) p e h
      (λ there from. told_here e there (message_at n p) (rw from at (number-most p h)) (rw from at (view_of p h)) told)
      (λ q. rw q told)

  pub cleared-kept : {m : Network} (e : ℕ) → AllowedStep n m → ClearedAt n t e → ClearedAt m t e
  unfolding after_delivery received_at
  cleared-kept e (moves ms) cleared = cleared
  cleared-kept e (delivers p ms h) cleared =
      by_end (λ m. ClearedAt m t e) p e h (λ there from. cleared-here e there (message_at n p) cleared) (λ q d. rw q (cleared d))
