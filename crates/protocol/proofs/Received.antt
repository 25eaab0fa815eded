-- The invariant after a delivery, which changes the receiving end's record and both its rows: the direction that it holds, and by its
-- sent row the direction that the opposite end holds. Assumes nothing.
use Prim.Native.Nat.{ℕ, ◌*◌, ◌≤◌, ◌<◌}
use mathlib.Core.Path.{◌≡◌, refl, sym, subst}
use mathlib.Core.Bool.{Bool, true, false, cond}
use native.Mathlib.Omega.{arith}
use lib.Dec.{eqb}
use borrow.Author.Tests.{eqb-true}
use Rattle.agreement.specs.Offer.{opposite}
use Rattle.agreement.specs.Record.{answer, recorded, sent_delivered, held_delivered}
use Rattle.agreement.specs.declared.EndRecord.{EndRecord}
use Rattle.agreement.proofs.Direction.{InFlight}
use Rattle.agreement.proofs.Directions.{recorded-grows, flight-kept}
use Rattle.agreement.proofs.Ends.{opposite-opposite, opposite-below, bridge-in-range}
use Rattle.protocol.specs.Net.{Network, Message, offer_in, sender}
use Rattle.protocol.specs.Calls.{received_at, after_delivery, message_at}
use Rattle.protocol.proofs.Invariant.{InvariantBy, far}
use Rattle.protocol.proofs.Sides.{Side, own-received, far-received}
use Rattle.protocol.proofs.SoundMessages.{Sound}

-- the record and the rows of end e when it receives m
module _ (n : Network) (m : Message) (e : ℕ) where
  abbrev view_there : ℕ
  view_there = n.view (n.plan.graph.bridge_at e)

  abbrev own_after : EndRecord
  own_after = recorded (n.records.ends e) (answer view_there (n.records.ends e) m.agreement)

  abbrev held_after : ℕ → ℕ
  held_after = held_delivered view_there (n.records.ends e) m.agreement (offer_in n.plan view_there (opposite e)) (n.records.held e)

  abbrev sent_after : ℕ → ℕ
  sent_after =
      sent_delivered (n.number (n.plan.graph.bridge_at e)) (n.records.ends e) m.agreement (offer_in n.plan view_there e)
      (n.records.sent e)

module _ (n : Network) {h : ℕ → ℕ → ℕ} (inv : InvariantBy n h) (e : ℕ) (listed : e < 2 * n.plan.graph.links) (m : Message) (flight : InFlight (h (far n e)) (n.number (far n e)) (n.records.ends (opposite e)) m.agreement) where
  -- the direction that the opposite end k holds
  far-direction : (k : ℕ) → k < 2 * n.plan.graph.links → opposite k ≡ e → Side n.plan k (n.records.ends k) (n.records.held k) (sent_after n m e) (h (far n k)) (n.number (far n k))
  far-direction k low at =
      subst (λ (x : ℕ). Side n.plan k (n.records.ends k) (n.records.held k) (sent_after n m x) (h (far n k)) (n.number (far n k))) at
      (far-received n.plan k (inv.direction k low) (n.records.ends (opposite k)) m.agreement (n.view (far n k))
      (subst (λ (x : ℕ). m.agreement.discarded ≤ (n.records.ends x).discarded) same flight.discarded)
      (inv.present (far n k) (bridge-in-range n.plan.graph inv.plan.graph (opposite k) (opposite-below k _ low))))
    where
      same : opposite e ≡ k
      same = omega arith

  -- the direction that end k holds: k is the receiving end, or the opposite one, or neither
  received-direction : (k : ℕ) → k < 2 * n.plan.graph.links → (b c : Bool) → eqb k e ≡ b → eqb (opposite k) e ≡ c → Side n.plan k (cond b (own_after n m e) (n.records.ends k)) (cond b (held_after n m e) (n.records.held k)) (cond c (sent_after n m e) (n.records.sent (opposite k))) (h (far n k)) (n.number (far n k))
  received-direction k low true true is other = absurd (omega (arith, eqb-true k e is, eqb-true (opposite k) e other))
  received-direction k low true false is other =
      subst
      (λ (x : ℕ). Side n.plan x (own_after n m e) (held_after n m e) (n.records.sent (opposite x)) (h (far n x)) (n.number (far n x)))
      (sym (eqb-true k e is))
      (own-received n.plan e (inv.direction e listed) flight (view_there n m e))
  received-direction k low false true is other = far-direction k low (eqb-true (opposite k) e other)
  received-direction k low false false is other = inv.direction k low

  received-grows : (k : ℕ) (b : Bool) → eqb k e ≡ b → (n.records.ends k).discarded ≤ (cond b (own_after n m e) (n.records.ends k)).discarded
  received-grows k true is =
      subst (λ (x : ℕ). (n.records.ends x).discarded ≤ (own_after n m e).discarded) (sym (eqb-true k e is))
      (recorded-grows (n.records.ends e) (view_there n m e) m.agreement (inv.direction e listed).discarded)
  received-grows k false is = omega arith

  kept-received : InvariantBy (received_at n e m) h
  unfolding received_at
  kept-received =
      record {
        plan = inv.plan;
        numbered = inv.numbered;
        present = inv.present;
        is_view = inv.is_view;
        direction = λ k low. received-direction k low (eqb k e) (eqb (opposite k) e) refl refl;
        link_of_message = inv.link_of_message;
        side_of_message = inv.side_of_message;
        in_flight =
            λ p low. flight-kept (inv.in_flight p low) (omega arith) (λ k most. refl)
            (received-grows (sender (message_at n p)) (eqb (sender (message_at n p)) e) refl);
      }

-- a message in flight, delivered to the end opposite to its sender
pub kept-delivered : (n : Network) {h : ℕ → ℕ → ℕ} → InvariantBy n h → (m : Message) → Sound n h m → InvariantBy (after_delivery n m) h
unfolding after_delivery
kept-delivered n {h} inv m sound =
    kept-received n inv (opposite (sender m)) (omega arith) m
    (subst (λ (x : ℕ). InFlight (h (n.plan.graph.bridge_at x)) (n.number (n.plan.graph.bridge_at x)) (n.records.ends x) m.agreement) (sym (opposite-opposite (sender m))) sound.flight)
