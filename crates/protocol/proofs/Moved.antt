-- The invariant after a bridge moved to another view. Its history grows by the new view. Assumes nothing.
use Prim.Native.Nat.{ℕ, suc, ◌*◌, ◌≤◌, ◌<◌}
use mathlib.Core.Path.{◌≡◌, sym}
use mathlib.Core.Bool.{Bool, true, false, cond}
use native.Mathlib.Omega.{arith}
use lib.Dec.{eqb, ltb}
use Rattle.agreement.specs.Offer.{opposite}
use Rattle.agreement.specs.Record.{updated, sent_updated, held_updated}
use Rattle.agreement.specs.declared.EndRecord.{EndRecord}
use Rattle.agreement.proofs.Direction.{InFlight}
use Rattle.agreement.proofs.Directions.{updated-grows, flight-kept}
use Rattle.protocol.specs.Net.{Network, Message, offer_in, sender}
use Rattle.protocol.specs.Calls.{moved, message_at}
use Rattle.protocol.proofs.Invariant.{InvariantBy, far}
use Rattle.protocol.proofs.Sides.{Side, raised_to, raised-before, raised-new, far-moved, own-moved}
use Rattle.protocol.proofs.SoundMessages.{Sound, each-sound}

-- what every bridge was on, b having moved to t
unfoldable pub moved_history : Network → ℕ → ℕ → (ℕ → ℕ → ℕ) → ℕ → ℕ → ℕ
moved_history n b t h z = cond (eqb z b) (raised_to t (n.number z) (h z)) (h z)

raised-view : (t n : ℕ) (h : ℕ → ℕ) (views m : ℕ) → t < views → h m < views → raised_to t n h m < views
unfolding raised_to
raised-view t n h views m new before = go (ltb n m)
  where
    go : (b : Bool) → cond b t (h m) < views
    go true = new
    go false = before

-- the record and the rows of end e, its bridge moving to t if c says so
module _ (n : Network) (t e : ℕ) (c : Bool) where
  abbrev own_after : EndRecord
  own_after = cond c (updated t (n.records.ends e)) (n.records.ends e)

  abbrev held_after : ℕ → ℕ
  held_after = cond c (held_updated t (n.records.ends e) (offer_in n.plan t (opposite e)) (n.records.held e)) (n.records.held e)

  abbrev sent_after : ℕ → ℕ
  sent_after = cond c (sent_updated (offer_in n.plan t e) (n.records.sent e)) (n.records.sent e)

-- the history and the number of bridge z, moving to t if c says so
module _ (n : Network) (h : ℕ → ℕ → ℕ) (t z : ℕ) (c : Bool) where
  abbrev history_after : ℕ → ℕ
  history_after = cond c (raised_to t (n.number z) (h z)) (h z)

  abbrev number_after : ℕ
  number_after = cond c (suc (n.number z)) (n.number z)

module _ (n : Network) {h : ℕ → ℕ → ℕ} (inv : InvariantBy n h) (b t : ℕ) (is_view : t < n.plan.views) where
  -- a direction: first its far bridge moves, if it is b, then its holder, if that is b
  moved-direction : (e : ℕ) → e < 2 * n.plan.graph.links → (c c' : Bool) → Side n.plan e (own_after n t e c) (held_after n t e c) (sent_after n t (opposite e) c') (history_after n h t (far n e) c') (number_after n h t (far n e) c')
  moved-direction e low c c' = own c (farther c')
    where
      farther : (c : Bool) → Side n.plan e (n.records.ends e) (n.records.held e) (sent_after n t (opposite e) c) (history_after n h t (far n e) c) (number_after n h t (far n e) c)
      farther true = far-moved n.plan e (inv.direction e low) t
      farther false = inv.direction e low

      own : {sent h : ℕ → ℕ} {k : ℕ} (c : Bool) → Side n.plan e (n.records.ends e) (n.records.held e) sent h k → Side n.plan e (own_after n t e c) (held_after n t e c) sent h k
      own true old = own-moved n.plan e old t (omega (arith, inv.plan.most))
      own false old = old

  -- a message, its sender having moved if it is b
  moved-flight : (m : Message) → Sound n h m → (c : Bool) → InFlight (history_after n h t (n.plan.graph.bridge_at (sender m)) c) (number_after n h t (n.plan.graph.bridge_at (sender m)) c) (own_after n t (sender m) c) m.agreement
  moved-flight m sound true =
      let listed : sender m < 2 * n.plan.graph.links = omega arith in
      flight-kept sound.flight (omega arith) (raised-before t _ _) (updated-grows _ t (inv.direction (sender m) listed).discarded)
  moved-flight m sound false = sound.flight

  moved-numbered : (z : ℕ) (c : Bool) → 1 ≤ number_after n h t z c
  moved-numbered z true = omega arith
  moved-numbered z false = inv.numbered z

  moved-present : (z : ℕ) → z < n.plan.graph.bridges → (c : Bool) → cond c t (n.view z) ≡ history_after n h t z c (number_after n h t z c)
  moved-present z low true = sym (raised-new t (n.number z) (h z))
  moved-present z low false = inv.present z low

  moved-views : (z m : ℕ) → z < n.plan.graph.bridges → (c : Bool) → history_after n h t z c m < n.plan.views
  moved-views z m low true = raised-view t (n.number z) (h z) n.plan.views m is_view (inv.is_view z m low)
  moved-views z m low false = inv.is_view z m low

  pub kept-moved : InvariantBy (moved n b t) (moved_history n b t h)
  unfolding moved moved_history
  kept-moved =
      record {
        plan = inv.plan;
        numbered = λ z. moved-numbered z (eqb z b);
        present = λ z low. moved-present z low (eqb z b);
        is_view = λ z m low. moved-views z m low (eqb z b);
        direction = λ e low. moved-direction e low (eqb (n.plan.graph.bridge_at e) b) (eqb (far n e) b);
        link_of_message = inv.link_of_message;
        side_of_message = inv.side_of_message;
        in_flight = λ p low. moved-flight (message_at n p) (each-sound n inv p low) (eqb (n.plan.graph.bridge_at (sender (message_at n p))) b);
      }
