-- The calls on one end by plain numbers: what their tests tell, what each call comes to, and that on a checked view a call on an end is
-- the call by that end's numbers. Assumes nothing.
use Prim.Native.Nat.{ℕ, ◌+◌, ◌*◌, ◌/◌, ◌<◌}
use native.Mathlib.Omega.{arith}
use mathlib.Core.Path.{◌≡◌, refl, sym, ap, ◌∙◌}
use mathlib.Core.Logic.{◌⊎◌, inl, inr}
use mathlib.Core.Bool.{Bool, true, ◌&&◌, not}
use mathlib.Core.List.{List}
use borrow.Author.Tests.{ne_eqb, le-leb, lt-ltb}
use lib.ListN.{length, get_or}
use lib.Dec.{eqb, ltb}
use Rattle.distances.specs.Table.{cell}
use Rattle.distances.proofs.Booleans.{true-both}
use Rattle.distances.proofs.Ranges.{side, graph-in-range, costs-told, in-range-told}
use Rattle.agreement.specs.Offer.{opposite}
use Rattle.agreement.specs.Record.{fresh_record, updated, sent_updated, held_updated, answer, recorded, sent_delivered, held_delivered}
use Rattle.agreement.specs.Limits.{with_limits, row_after}
use Rattle.agreement.specs.declared.Rewrite.TheVariants.{Renew, Empty}
use Rattle.agreement.specs.Ranges.{is_view, record_in_range, delivery_in_range}
use Rattle.agreement.specs.Call.{ViewData, lent_in_range, lent_offer, lent_end_in_range, outcome, says, offer_outcome, fresh_outcome, update_outcome, deliver_outcome}
use Rattle.agreement.specs.Ends.{Between, PlainEndsAreEnds, between_at, between_in_range, near_offer, far_offer, update_between, deliver_between}
use Rattle.agreement.specs.declared.EndRecord.{EndRecord}
use Rattle.agreement.specs.declared.Agreement.{Agreement}
use Rattle.agreement.proofs.Entry.{BothEnds, end-view, end-ready, end-told, both-ends-ready}
use Rattle.agreement.proofs.Ends.{opposite-below}
use Rattle.agreement.proofs.Offers.{lent-offers}
use Rattle.agreement.proofs.LimitLaws.{row-offered, row-emptied}
use Rattle.agreement.proofs.Outcomes.{offer-accepted, fresh-accepted}

-- ---- the tests, and what each call comes to

module _ (w : Between) (e : ℕ) (sent held : List ℕ) where
  module _ (views t : ℕ) (r : EndRecord) where
    abbrev update_ready : Bool
    update_ready = between_in_range w sent held e && (is_view views t && record_in_range views r)

    pub update-between-accepted :
        update_ready ≡ true →
        update_between w views t e r sent held
        ≡ outcome 0 (updated t r)
        (with_limits w.bridges e (sent_updated (near_offer w) (cell sent e)) sent)
        (with_limits w.bridges e (held_updated t r (far_offer w) (cell held e)) held)
    unfolding update_between
    update-between-accepted ok = rw ok

    module _ (n : ℕ) (m : Agreement) where
      abbrev deliver_ready : Bool
      deliver_ready = between_in_range w sent held e && delivery_in_range views t r m.view

      pub deliver-between-accepted :
          deliver_ready ≡ true →
          deliver_between w views t n e r m sent held
          ≡ outcome (says (answer t r m)) (recorded r (answer t r m))
          (with_limits w.bridges e (sent_delivered n r m (near_offer w) (cell sent e)) sent)
          (with_limits w.bridges e (held_delivered t r m (far_offer w) (cell held e)) held)
      unfolding deliver_between
      deliver-between-accepted ok = rw ok

-- ---- an end of a checked view

-- two ends of a link that differ, from either side
both-sides : (ends : List ℕ) (e : ℕ) → (get_or ends (2 * (e / 2)) 0 ≡ get_or ends (2 * (e / 2) + 1) 0 → ⊥) → get_or ends e 0 ≡ get_or ends (opposite e) 0 → ⊥
both-sides ends e differ same = go (side e)
  where
    go : (e ≡ 2 * (e / 2)) ⊎ (e ≡ 2 * (e / 2) + 1) → ⊥
    go (inl first) =
        let other : opposite e ≡ 2 * (e / 2) + 1 = omega arith in
        differ (ap (λ (k : ℕ). get_or ends k 0) (sym first) ∙ same ∙ ap (λ (k : ℕ). get_or ends k 0) other)
    go (inr second) =
        let other : opposite e ≡ 2 * (e / 2) = omega arith in
        differ (sym (ap (λ (k : ℕ). get_or ends k 0) (sym second) ∙ same ∙ ap (λ (k : ℕ). get_or ends k 0) other))

-- the offers over the end's link
near-offers : (v : ViewData) (e : ℕ) → near_offer (between_at v e) ≡ lent_offer v e
near-offers v e = lent-offers v e e (opposite e) (e / 2) refl refl refl

far-offers : (v : ViewData) (e : ℕ) → far_offer (between_at v e) ≡ lent_offer v (opposite e)
far-offers v e = lent-offers v (opposite e) (opposite e) e (e / 2) refl (omega arith) (omega arith)

-- what is seen from it
near-seen : (v : ViewData) (e d : ℕ) (w : Between) → w ≡ between_at v e → near_offer w d ≡ lent_offer v e d
near-seen v e d w same = rw same (ap (λ (f : ℕ → ℕ). f d) (near-offers v e))

pub offer-seen :
    (v : ViewData) (e d offer : ℕ) (w : Between) →
    w ≡ between_at v e →
    offer ≡ near_offer w d →
    (lent_in_range v && (ltb e (2 * v.links) && ltb d v.bridges)) ≡ true →
    says offer ≡ offer_outcome v e d
offer-seen v e d offer w same is ok = rw (is, near-seen v e d w same) (sym (offer-accepted v e d ok))

pub fresh-seen :
    (v : ViewData) (e : ℕ) (w : Between) (sent held : List ℕ) →
    w ≡ between_at v e →
    lent_end_in_range v sent held e ≡ true →
    outcome 0 fresh_record (with_limits w.bridges e (row_after Renew (near_offer w) (cell sent e)) sent)
    (with_limits w.bridges e (row_after Empty (far_offer w) (cell held e)) held)
    ≡ fresh_outcome v e sent held
fresh-seen v e w sent held same ok = rw (same, row-offered, row-emptied, near-offers v e) (sym (fresh-accepted v e sent held ok))

-- the end e, its opposite o and their link stand in the view's lists
pub record EndExists (ends costs : List ℕ) (e o : ℕ) : Type 0 where
  pub end : e < length ends
  pub link : e / 2 < length costs
  pub sides : BothEnds ends e o

module _ (v : ViewData) (e : ℕ) (sent held : List ℕ) (ok : lent_end_in_range v sent held e ≡ true) where
  pub end-listed : (o : ℕ) → o ≡ opposite e → EndExists v.ends v.costs e o
  end-listed o same =
      let ready = end-ready _ _ _ _ ok in
      let told = end-told _ _ _ _ ok in
      record { end = omega arith; link = omega arith; sides = both-ends-ready ready e o told.0 same }

  -- the link's two bridges differ
  apart : not (eqb (get_or v.ends e 0) (get_or v.ends (opposite e) 0)) ≡ true
  apart =
      let graph = graph-in-range _ _ _ (in-range-told _ _ _ _ _ (end-view _ _ _ _ ok)).0 in
      let low = (end-told _ _ _ _ ok).0 in
      rw (ne_eqb _ _ (λ same. both-sides v.ends e (graph.differ (e / 2) (omega arith)) same))

  -- the tests of its numbers pass
  pub between-passes : between_in_range (between_at v e) sent held e ≡ true
  unfolding between_in_range
  between-passes =
      let view = in-range-told _ _ _ _ _ (end-view _ _ _ _ ok) in
      let graph = graph-in-range _ _ _ view.0 in
      let ready = end-ready _ _ _ _ ok in
      let told = end-told _ _ _ _ ok in
      true-both (le-leb _ _ graph.least)
      (true-both (le-leb _ _ graph.most)
      (true-both (lt-ltb _ _ (ready.are_bridges e told.0))
      (true-both (lt-ltb _ _ (ready.are_bridges (opposite e) (opposite-below _ _ told.0)))
      (true-both apart
      (true-both (le-leb _ _ ((costs-told _ _ view.1).1 (e / 2) (omega arith)))
      (true-both (le-leb _ _ ready.table_long)
      (true-both (lt-ltb e 64 (omega (arith, ready.few_links, told.0))) (true-both (le-leb _ _ told.1) (le-leb _ _ told.2)))))))))

pub update-between :
    (v : ViewData) (views t e : ℕ) (r : EndRecord) (sent held : List ℕ) →
    lent_end_in_range v sent held e ≡ true →
    update_outcome v views t e r sent held ≡ update_between (between_at v e) views t e r sent held
unfolding update_outcome update_between
update-between v views t e r sent held ok = rw (ok, between-passes v e sent held ok, near-offers v e, far-offers v e)

pub deliver-between :
    (v : ViewData) (views t n e : ℕ) (r : EndRecord) (m : Agreement) (sent held : List ℕ) →
    lent_end_in_range v sent held e ≡ true →
    deliver_outcome v views t n e r m sent held ≡ deliver_between (between_at v e) views t n e r m sent held
unfolding deliver_outcome deliver_between
deliver-between v views t n e r m sent held ok = rw (ok, between-passes v e sent held ok, near-offers v e, far-offers v e)

pub plain-ends : PlainEndsAreEnds
plain-ends = record { update = update-between; deliver = deliver-between }
