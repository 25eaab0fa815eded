-- A message followed through calls: while it waits it is the same message, at the place that `message_status` says; taken, it is delivered.
-- Assumes nothing.
use Prim.Native.Nat.{ℕ}
use native.Mathlib.Omega.{arith}
use mathlib.Core.Path.{◌≡◌, refl, sym}
use mathlib.Core.Bool.{Bool, true, false, cond, false≢true}
use mathlib.Core.List.{List}
use lib.Dec.{eqb}
use borrow.Author.Tests.{eqb-true, eqb-false}
use Rattle.distances.proofs.Booleans.{other-false}
use Rattle.protocol.specs.Net.{Network, Message}
use Rattle.protocol.specs.Calls.{Call, change, send, deliver, repeat, lose, port, verdict, report, path, accepted, message_at, message_of, with_messages, without, sent_over, after_delivery, received_at, act, step}
use Rattle.protocol.specs.Rounds.{MessageStatus, taken, lost, waits, moved_up, message_status, status_by, is_change}
use Rattle.protocol.proofs.Places.{Stands, stands-before, stands-without}
use Rattle.protocol.proofs.Runs.{Allowed}

same_place : (p q : ℕ) → waits p ≡ waits q → p ≡ q
same_place p q e = cc

taken-waits : (q : ℕ) → taken ≡ waits q → ⊥
taken-waits q e =
    let z : ◌≡◌ {A = ℕ} 0 1 = cc in
    omega arith

lost-waits : (q : ℕ) → lost ≡ waits q → ⊥
lost-waits q e =
    let z : ◌≡◌ {A = ℕ} 0 1 = cc in
    omega arith

lost-taken : lost ≡ taken → ⊥
lost-taken e =
    let z : ◌≡◌ {A = ℕ} 0 1 = cc in
    omega arith

-- by a call that takes out place k, where the message itself would have fate f, which is not to wait
stands-removed : (x : Message) (ms : List Message) (k p q : ℕ) (f : MessageStatus) → (f ≡ waits q → ⊥) → cond (eqb k p) f (waits (moved_up k p)) ≡ waits q → Stands x ms p → Stands x (without k ms) q
stands-removed x ms k p q f gone e s = go (eqb k p) refl e
  where
    go : (b : Bool) → eqb k p ≡ b → cond b f (waits (moved_up k p)) ≡ waits q → Stands x (without k ms) q
    go true t e = absurd (gone e)
    go false t e = rw (← same_place (moved_up k p) q e) (stands-without x ms k p (eqb-false k p t) s)

module _ (x : Message) where
  stands-act : (n : Network) (c : Call) (p q : ℕ) → is_change c ≡ false → Stands x n.messages p → message_status c p ≡ waits q → Stands x (act n c).messages q
  unfolding act message_status is_change after_delivery received_at sent_over
  stands-act n (change y) p q z s e = absurd (false≢true (sym z))
  stands-act n (send b l) p q z s e = rw (← same_place p q e) (stands-before x (message_of n b l) n.messages p s)
  stands-act n (deliver k) p q z s e =
      stands-removed x n.messages k p q taken (taken-waits q) e s
  stands-act n (repeat k) p q z s e = go (eqb k p) e
    where
      go : (b : Bool) → cond b taken (waits p) ≡ waits q → Stands x n.messages q
      go true e = absurd (taken-waits q e)
      go false e = rw (← same_place p q e) s
  stands-act n (lose k) p q z s e =
      stands-removed x n.messages k p q lost (lost-waits q) e s
  stands-act n (port b d) p q z s e = rw (← same_place p q e) s
  stands-act n (verdict b d) p q z s e = rw (← same_place p q e) s
  stands-act n (report d) p q z s e = rw (← same_place p q e) s
  stands-act n (path b d) p q z s e = rw (← same_place p q e) s

  -- while it waits it is the same message
  pub stands-step : (n : Network) (c : Call) (p q : ℕ) → Allowed n c → Stands x n.messages p → status_by n c p ≡ waits q → Stands x (step n c).messages q
  unfolding step status_by
  stands-step n c p q h s e = go (accepted n c) refl e
    where
      go : (b : Bool) → accepted n c ≡ b → cond b (message_status c p) (waits p) ≡ waits q → Stands x (cond b (act n c) n).messages q
      go true a e = stands-act n c p q (other-false (is_change c) (accepted n c) h a) s e
      go false a e = rw (← same_place p q e) s

  -- the network after a call by which x is delivered
  abbrev pub DeliveredBy : Network → Network → Type 0
  DeliveredBy n m = (ms : List Message) × (m ≡ with_messages (after_delivery n x) ms)

  taken-act : (n : Network) (c : Call) (p : ℕ) → message_at n p ≡ x → message_status c p ≡ taken → DeliveredBy n (act n c)
  unfolding act message_status
  taken-act n (change y) p w e = absurd (taken-waits p (sym e))
  taken-act n (send b l) p w e = absurd (taken-waits p (sym e))
  taken-act n (deliver k) p w e = go (eqb k p) refl e
    where
      go : (b : Bool) → eqb k p ≡ b → cond b taken (waits (moved_up k p)) ≡ taken → DeliveredBy n (act n (deliver k))
      go true t e = (without k n.messages, rw (eqb-true k p t, w))
      go false t e = absurd (taken-waits (moved_up k p) (sym e))
  taken-act n (repeat k) p w e = go (eqb k p) refl e
    where
      go : (b : Bool) → eqb k p ≡ b → cond b taken (waits p) ≡ taken → DeliveredBy n (act n (repeat k))
      go true t e = ((after_delivery n x).messages, rw (eqb-true k p t, w))
      go false t e = absurd (taken-waits p (sym e))
  taken-act n (lose k) p w e = go (eqb k p) e
    where
      go : (b : Bool) → cond b lost (waits (moved_up k p)) ≡ taken → DeliveredBy n (act n (lose k))
      go true e = absurd (lost-taken e)
      go false e = absurd (taken-waits (moved_up k p) (sym e))
  taken-act n (port b d) p w e = absurd (taken-waits p (sym e))
  taken-act n (verdict b d) p w e = absurd (taken-waits p (sym e))
  taken-act n (report d) p w e = absurd (taken-waits p (sym e))
  taken-act n (path b d) p w e = absurd (taken-waits p (sym e))

  -- taken, it is delivered
  pub taken_step : (n : Network) (c : Call) (p : ℕ) → message_at n p ≡ x → status_by n c p ≡ taken → DeliveredBy n (step n c)
  unfolding step status_by
  taken_step n c p w e = go (accepted n c) e
    where
      go : (b : Bool) → cond b (message_status c p) (waits p) ≡ taken → DeliveredBy n (cond b (act n c) n)
      go true e = taken-act n c p w e
      go false e = absurd (taken-waits p (sym e))
