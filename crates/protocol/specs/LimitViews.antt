-- The two limits as document 01 defines them ("Records of a bridge"), by the views since the last clearing and the one view held. Those
-- views are followed through the list of calls as "Events" tells them: whether a message is stale or clears, and which view was received
-- last, is by the numbers and views in the records of the network then; no row of limits is looked at. Assumes nothing.
use Rattle.std.specs.Prelude.{ℕ, min, ◌≡◌, cond, ◌&&◌, not, List, [], ◌∷◌, eqb}
use Rattle.std.proofs.Math.Option.{Option, none, some}
use Rattle.distances.specs.View.{NONE}
use Rattle.agreement.specs.Offer.{opposite}
use Rattle.agreement.specs.Record.{held_limit, is_stale, is_agreed, is_clearing}
use Rattle.agreement.specs.Forwarding.{Records}
use Rattle.agreement.specs.declared.Agreement.{Agreement}
use Rattle.protocol.specs.Net.{Network, Plan, receiver, offer_in, fresh}
use Rattle.protocol.specs.Calls.{Call, change, update, cut, restore, send, deliver, repeat, lose, port, verdict, report, path, accepted, message_at, step, run}

-- what a call does to an end: its bridge moves to another view, it receives a message, or neither
pub data EndEffect : Type 0 where
  moves_to : ℕ → EndEffect
  receives : Agreement → EndEffect
  nothing : EndEffect

-- "Update" of bridge b to view t: "If t is the present view, nothing changes"
unfoldable pub update_effect : Network → ℕ → ℕ → ℕ → EndEffect
update_effect n e b t = cond (eqb (n.plan.graph.bridge_at e) b && not (eqb (n.view b) t)) (moves_to t) nothing

-- delivery of the message at place p, to the end opposite to its sender
unfoldable pub delivery_effect : Network → ℕ → ℕ → EndEffect
delivery_effect n e p = cond (eqb e (receiver (message_at n p))) (receives (message_at n p).agreement) nothing

-- an accepted call at end e; a refused one does nothing there
unfoldable pub accepted_effect : Network → ℕ → Call → EndEffect
accepted_effect n e (change (update b t)) = update_effect n e b t
accepted_effect n e (change (cut b l)) = nothing
accepted_effect n e (change (restore b l)) = nothing
accepted_effect n e (send b l) = nothing
accepted_effect n e (deliver p) = delivery_effect n e p
accepted_effect n e (repeat p) = delivery_effect n e p
accepted_effect n e (lose p) = nothing
accepted_effect n e (port b d) = nothing
accepted_effect n e (verdict b d) = nothing
accepted_effect n e (report d) = nothing
accepted_effect n e (path s d) = nothing

unfoldable pub end_effect : Network → ℕ → Call → EndEffect
end_effect n e c = cond (accepted n c) (accepted_effect n e c) nothing

-- "the views since the last clearing": the one at the clearing, and each that the bridge moved to since
pub data Since : Type 0 where
  only : ℕ → Since
  also : Since → ℕ → Since

-- of an end: those views, and "the one view held" from the far bridge, or none
pub record EndViews : Type 0 where
  pub since : Since
  pub held : Option ℕ

-- in a fresh network: "sent limits from view 0, nothing held"
abbrev pub fresh_views : EndViews
fresh_views = record { since = only 0; held = none }

-- the views of end e of network n, by what a call does to it.
-- A move to view t: t is one more view; "At each link end whose last received view is t, t becomes the one held view".
-- A message that is not stale: where "its discarded number equals the receiver's own agreement number" it clears, and the present view
-- alone is left; "When agreed, that view becomes the one held"
unfoldable pub views_after : Network → ℕ → EndEffect → EndViews → EndViews
views_after n e (moves_to t) v =
    record { since = also v.since t; held = cond (eqb (n.records.ends e).view t) (some t) v.held }
views_after n e (receives m) v =
    let b : ℕ = n.plan.graph.bridge_at e in
    record {
      since = cond (is_clearing (n.number b) (n.records.ends e) m) (only (n.view b)) v.since;
      held = cond (not (is_stale (n.records.ends e) m) && is_agreed (n.view b) m) (some m.view) v.held;
    }
views_after n e nothing v = v

-- after a list of calls, each of which gets the network as the last call left it
unfoldable pub views_run : Network → ℕ → EndViews → List Call → EndViews
views_run n e v [] = v
views_run n e v (c ∷ cs) = views_run (step n c) e (views_after n e (end_effect n e c) v) cs

-- the least of the offers over the views
unfoldable pub least_over : (ℕ → ℕ) → Since → ℕ
least_over offers (only t) = offers t
least_over offers (also ts t) = min (least_over offers ts) (offers t)

-- the offer in the one view held, "NONE if none is held"
unfoldable pub offer_held : (ℕ → ℕ) → Option ℕ → ℕ
offer_held offers none = NONE
offer_held offers (some t) = offers t

-- the limits of end e for destination d are those of the views v: "the least of Y's offers over the views since the last clearing", and
-- "Z's offer in the one view held from Z, NONE if none is held", Y being the bridge at e and Z the far bridge
pub record Limits (p : Plan) (r : Records) (e d : ℕ) (v : EndViews) : Type 0 where
  pub sent : r.sent e d ≡ least_over (λ t. offer_in p t e d) v.since
  pub held : held_limit (r.ends e) (r.held e) d ≡ offer_held (λ t. offer_in p t (opposite e) d) v.held

-- the claim, for every plan (in the ranges or not), list of calls, end and destination
abbrev pub LimitsAsDefined : Type 0
LimitsAsDefined =
    (p : Plan) (cs : List Call) (e d : ℕ) → Limits p (run (fresh p) cs).records e d (views_run (fresh p) e fresh_views cs)
