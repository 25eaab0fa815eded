-- The limits after every list of calls are those that document 01 defines: they are so in a fresh network, and every call keeps them so.
-- Assumes nothing.
use Prim.Native.Nat.{ℕ}
use mathlib.Core.Path.{◌≡◌, refl, ◌∙◌, subst}
use mathlib.Core.Bool.{Bool, true, false, cond, ◌&&◌, not}
use mathlib.Core.List.{List, [], ◌∷◌}
use mathlib.Core.Option.{some}
use lib.Dec.{eqb}
use borrow.Author.Tests.{eqb-true, eq-eqb}
use Rattle.agreement.specs.Offer.{opposite}
use Rattle.agreement.specs.Record.{held_limit, updated, held_updated, is_stale, is_agreed, is_clearing, answer, recorded, sent_delivered, held_delivered}
use Rattle.agreement.specs.declared.EndRecord.{EndRecord}
use Rattle.agreement.proofs.RecordLaws.{updated-adopts, updated-keeps, held-adopts, held_keeps, sent-updated, agreed-view, stale-recorded, agreed-recorded, noted-recorded, stale-held, agreed-held, noted-held, sent-cleared, sent-kept}
use Rattle.protocol.specs.Net.{Network, Plan, Message, sender, offer_in, fresh}
use Rattle.protocol.specs.Calls.{Call, change, update, cut, restore, send, deliver, repeat, lose, port, verdict, report, path, accepted, message_at, moved, updated_to, with_end, sent_over, received_at, after_delivery, after_change, act, step, run}
use Rattle.protocol.specs.LimitViews.{moves_to, receives, nothing, update_effect, delivery_effect, accepted_effect, end_effect, only, EndViews, fresh_views, views_after, views_run, least_over, offer_held, Limits, LimitsAsDefined}
use Rattle.protocol.proofs.Runs.{plan_run}

module _ (n : Network) (e d : ℕ) (v : EndViews) (old : Limits n.plan n.records e d v) where
  -- the end's record, its bridge's view and number
  abbrev own : EndRecord
  own = n.records.ends e

  abbrev view_there : ℕ
  view_there = n.view (n.plan.graph.bridge_at e)

  abbrev number_there : ℕ
  number_there = n.number (n.plan.graph.bridge_at e)

  abbrev far_offer : ℕ → ℕ
  far_offer t = offer_in n.plan t (opposite e) d

  -- bridge b moves to view t; the end is at b, or not
  module _ (b t : ℕ) where
    held_moved : (same : Bool) → eqb own.view t ≡ same → held_limit (updated t own) (held_updated t own (offer_in n.plan t (opposite e)) (n.records.held e)) d ≡ offer_held far_offer (cond same (some t) v.held)
    unfolding offer_held
    held_moved true is = rw (updated-adopts t own is) (held-adopts t own _ _ d is)
    held_moved false is = rw (updated-keeps t own is, held_keeps t own _ _ d is) old.held

    limits-moved : (here : Bool) → eqb (n.plan.graph.bridge_at e) b ≡ here → Limits n.plan (moved n b t).records e d (views_after n e (cond here (moves_to t) nothing) v)
    unfolding moved views_after least_over
    limits-moved true is =
        record {
          sent = rw is (sent-updated _ _ d ∙ rw old.sent);
          held = rw is (held_moved (eqb own.view t) refl);
        }
    limits-moved false is = record { sent = rw is old.sent; held = rw is old.held }

    limits-updated : Limits (updated_to n b t).plan (updated_to n b t).records e d (views_after n e (update_effect n e b t) v)
    unfolding updated_to update_effect views_after moved
    limits-updated = go (eqb (n.plan.graph.bridge_at e) b) (eqb (n.view b) t) refl
      where
        go : (here same : Bool) → eqb (n.plan.graph.bridge_at e) b ≡ here → Limits (cond same n (moved n b t)).plan (cond same n (moved n b t)).records e d (views_after n e (cond (here && not same) (moves_to t) nothing) v)
        go true true is = old
        go false true is = old
        go true false is = limits-moved true is
        go false false is = limits-moved false is

  -- the end receives m
  module _ (m : Message) where
    sent-received : (clears : Bool) → is_clearing number_there own m.agreement ≡ clears → sent_delivered number_there own m.agreement (offer_in n.plan view_there e) (n.records.sent e) d ≡ least_over (λ t. offer_in n.plan t e d) (cond clears (only view_there) v.since)
    unfolding least_over
    sent-received true is = sent-cleared number_there own m.agreement _ _ d is
    sent-received false is = sent-kept number_there own m.agreement _ _ d is ∙ old.sent

    held-received : (stale agreed : Bool) → is_stale own m.agreement ≡ stale → is_agreed view_there m.agreement ≡ agreed → held_limit (recorded own (answer view_there own m.agreement)) (held_delivered view_there own m.agreement (offer_in n.plan view_there (opposite e)) (n.records.held e)) d ≡ offer_held far_offer (cond (not stale && agreed) (some m.agreement.view) v.held)
    unfolding offer_held
    held-received true agreed is seen =
        rw (stale-recorded view_there own m.agreement is, stale-held view_there own m.agreement _ _ d is) old.held
    held-received false true is seen =
        rw (agreed-recorded view_there own m.agreement is seen)
        (agreed-held view_there own m.agreement (offer_in n.plan view_there (opposite e)) (n.records.held e) d is seen
        ∙ rw (agreed-view view_there m.agreement seen))
    held-received false false is seen =
        rw (noted-recorded view_there own m.agreement is seen, noted-held view_there own m.agreement _ _ d is seen) old.held

    limits-here : Limits n.plan (received_at n e m).records e d (views_after n e (receives m.agreement) v)
    unfolding received_at views_after
    limits-here =
        record {
          sent = rw (eq-eqb e e refl) (sent-received (is_clearing number_there own m.agreement) refl);
          held =
              rw (eq-eqb e e refl)
              (held-received (is_stale own m.agreement) (is_agreed view_there m.agreement) refl refl);
        }

    -- end k receives it
    limits-received : (k : ℕ) (here : Bool) → eqb e k ≡ here → Limits n.plan (received_at n k m).records e d (views_after n e (cond here (receives m.agreement) nothing) v)
    unfolding received_at views_after
    limits-received k true is =
        subst (λ (j : ℕ). Limits n.plan (received_at n j m).records e d (views_after n e (receives m.agreement) v)) (eqb-true e k is)
        limits-here
    limits-received k false is = record { sent = rw is old.sent; held = rw is old.held }

  limits-delivered : (p : ℕ) → Limits n.plan (after_delivery n (message_at n p)).records e d (views_after n e (delivery_effect n e p) v)
  unfolding after_delivery delivery_effect
  limits-delivered p =
      limits-received (message_at n p) (opposite (sender (message_at n p))) (eqb e (opposite (sender (message_at n p)))) refl

  limits-act : (c : Call) → Limits (act n c).plan (act n c).records e d (views_after n e (accepted_effect n e c) v)
  unfolding act after_change with_end sent_over after_delivery received_at accepted_effect views_after
  limits-act (change (update b t)) = limits-updated b t
  limits-act (change (cut b l)) = record { sent = old.sent; held = old.held }
  limits-act (change (restore b l)) = record { sent = old.sent; held = old.held }
  limits-act (send b l) = old
  limits-act (deliver p) = limits-delivered p
  limits-act (repeat p) = limits-delivered p
  limits-act (lose p) = old
  limits-act (port b f) = old
  limits-act (verdict b f) = old
  limits-act (report f) = old
  limits-act (path s f) = old

  limits-step : (c : Call) → Limits (step n c).plan (step n c).records e d (views_after n e (end_effect n e c) v)
  unfolding step end_effect views_after
  limits-step c = go (accepted n c)
    where
      go : (a : Bool) → Limits (cond a (act n c) n).plan (cond a (act n c) n).records e d (views_after n e (cond a (accepted_effect n e c) nothing) v)
      go true = limits-act c
      go false = old

limits-run : (n : Network) (e d : ℕ) (v : EndViews) (cs : List Call) → Limits n.plan n.records e d v → Limits (run n cs).plan (run n cs).records e d (views_run n e v cs)
unfolding run views_run
limits-run n e d v [] old = old
limits-run n e d v (c ∷ cs) old = limits-run (step n c) e d (views_after n e (end_effect n e c) v) cs (limits-step n e d v old c)

limits-fresh : (p : Plan) (e d : ℕ) → Limits (fresh p).plan (fresh p).records e d fresh_views
unfolding fresh least_over offer_held
limits-fresh p e d = record { sent = refl; held = refl }

pub limits-as-defined : LimitsAsDefined
unfolding fresh
limits-as-defined p cs e d =
    subst (λ (q : Plan). Limits q (run (fresh p) cs).records e d (views_run (fresh p) e fresh_views cs)) (plan_run (fresh p) cs)
    (limits-run (fresh p) e d fresh_views cs (limits-fresh p e d))
