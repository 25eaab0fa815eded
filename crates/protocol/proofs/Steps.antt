-- The invariant is kept by every call, and so by every list of calls. Assumes nothing.
use Prim.Native.Nat.{ℕ, ◌<◌}
use mathlib.Core.Path.{◌≡◌, refl}
use mathlib.Core.Bool.{Bool, true, false, cond}
use mathlib.Core.List.{List}
use lib.Dec.{eqb}
use Rattle.protocol.specs.Net.{Network, Plan, PlanInRange, fresh}
use Rattle.protocol.specs.Calls.{Call, Change, change, send, deliver, repeat, lose, port, verdict, report, path, update, cut, restore, checks, accepted, with_end, moved, updated_to, after_change, act, step, run, received_at, after_delivery, message_at}
use Rattle.protocol.proofs.Invariant.{Invariant, InvariantBy}
use Rattle.protocol.proofs.Accepted.{accepted-checks, update-listed, place-listed, send-listed}
use Rattle.protocol.proofs.Runs.{every-run}
use Rattle.protocol.proofs.Fresh.{invariant-fresh}
use Rattle.protocol.proofs.SoundMessages.{each-sound, kept-without, kept-sent}
use Rattle.protocol.proofs.Moved.{moved_history, kept-moved}
use Rattle.protocol.proofs.Received.{kept-delivered}

module _ (n : Network) where
  -- cut and restore touch nothing that the invariant speaks of
  kept-end : {h : ℕ → ℕ → ℕ} → InvariantBy n h → (e : ℕ) (down : Bool) → InvariantBy (with_end n e down) h
  unfolding with_end
  kept-end inv e down =
      record {
        plan = inv.plan;
        numbered = inv.numbered;
        present = inv.present;
        is_view = inv.is_view;
        direction = inv.direction;
        link_of_message = inv.link_of_message;
        side_of_message = inv.side_of_message;
        in_flight = inv.in_flight;
      }

  kept-update : (h : ℕ → ℕ → ℕ) → InvariantBy n h → (b t : ℕ) → t < n.plan.views → Invariant (updated_to n b t)
  unfolding updated_to
  kept-update h inv b t is_view = go (eqb (n.view b) t)
    where
      go : (c : Bool) → Invariant (cond c n (moved n b t))
      go true = (h, inv)
      go false = (moved_history n b t h, kept-moved n inv b t is_view)

  kept-change : (c : Change) → accepted n (change c) ≡ true → Invariant n → Invariant (act n (change c))
  unfolding act after_change
  kept-change (update b t) e inv = kept-update inv.0 inv.1 b t (update-listed n b t e).view
  kept-change (cut b l) e inv = (inv.0, kept-end inv.1 _ true)
  kept-change (restore b l) e inv = (inv.0, kept-end inv.1 _ false)

  kept-act : (c : Call) → accepted n c ≡ true → Invariant n → Invariant (act n c)
  unfolding checks act after_delivery received_at
  kept-act (change c) e inv = kept-change c e inv
  kept-act (send b l) e inv = (inv.0, kept-sent n inv.1 b l (send-listed n b l e))
  kept-act (deliver p) e inv =
      let sound = each-sound n inv.1 p (place-listed n p _ (accepted-checks n (deliver p) e)) in
      (inv.0, kept-without (after_delivery n (message_at n p)) (kept-delivered n inv.1 (message_at n p) sound) p)
  kept-act (repeat p) e inv = (inv.0, kept-delivered n inv.1 (message_at n p) (each-sound n inv.1 p (place-listed n p _ (accepted-checks n (repeat p) e))))
  kept-act (lose p) e inv = (inv.0, kept-without n inv.1 p)
  kept-act (port b d) e inv = inv
  kept-act (verdict b d) e inv = inv
  kept-act (report d) e inv = inv
  kept-act (path s d) e inv = inv

pub invariant-step : (n : Network) (c : Call) → Invariant n → Invariant (step n c)
unfolding step
invariant-step n c inv = go (accepted n c) refl
  where
    go : (a : Bool) → accepted n c ≡ a → Invariant (cond a (act n c) n)
    go true e = kept-act n c e inv
    go false e = inv

pub invariant-run : (p : Plan) → PlanInRange p → (cs : List Call) → Invariant (run (fresh p) cs)
invariant-run p in_range cs = every-run Invariant invariant-step (fresh p) cs (invariant-fresh p in_range)
