-- What each call comes to where its input is in range, and where it is not. Assumes nothing.
use Prim.Native.Nat.{ℕ, ◌*◌}
use mathlib.Core.Path.{◌≡◌}
use mathlib.Core.Bool.{Bool, true, false, ◌&&◌}
use mathlib.Core.List.{List}
use lib.Dec.{leb, ltb}
use Rattle.distances.specs.View.{NONE, max_cost, costs_of}
use Rattle.distances.specs.Table.{cell}
use Rattle.agreement.specs.Offer.{opposite}
use Rattle.agreement.specs.Record.{fresh_record, updated, sent_updated, held_updated, carried, answer, recorded, sent_delivered, held_delivered}
use Rattle.agreement.specs.Limits.{with_limits}
use Rattle.agreement.specs.Ranges.{is_view, record_in_range, delivery_in_range}
use Rattle.agreement.specs.Forwarding.{verdict}
use Rattle.agreement.specs.Call.{ViewData, lent_graph, lent_in_range, lent_offer, lent_end_in_range, lent_port_in_range, lent_records, outcome, says, refused, offer_outcome, fresh_outcome, update_outcome, carry_outcome, deliver_outcome, verdict_outcome}
use Rattle.agreement.specs.Choice.{next_choice, verdict_by, next_outcome, choice_outcome}
use Rattle.agreement.specs.declared.EndRecord.{EndRecord}
use Rattle.agreement.specs.declared.Agreement.{Agreement}
use Rattle.agreement.specs.declared.Choice.{Choice}
use Rattle.agreement.specs.declared.LinkEnd.{LinkEnd}

module _ (views t n : ℕ) (r : EndRecord) where
  pub carry-accepted : (is_view views t && record_in_range views r) ≡ true → carry_outcome views t n r ≡ says (carried t n r)
  unfolding carry_outcome
  carry-accepted ok = rw ok

pub offer-accepted : (v : ViewData) (e d : ℕ) → (lent_in_range v && (ltb e (2 * v.links) && ltb d v.bridges)) ≡ true → offer_outcome v e d ≡ says (lent_offer v e d)
unfolding offer_outcome
offer-accepted v e d ok = rw ok

-- the calls on one end
module _ (v : ViewData) (e : ℕ) (sent held : List ℕ) where
  pub fresh-accepted :
      lent_end_in_range v sent held e ≡ true →
      fresh_outcome v e sent held
      ≡ outcome 0 fresh_record (with_limits v.bridges e (lent_offer v e) sent) (with_limits v.bridges e (λ d. NONE) held)
  unfolding fresh_outcome
  fresh-accepted ok = rw ok

  module _ (views t : ℕ) (r : EndRecord) where
    abbrev update_ready : Bool
    update_ready = lent_end_in_range v sent held e && (is_view views t && record_in_range views r)

    pub update-accepted :
        update_ready ≡ true →
        update_outcome v views t e r sent held
        ≡ outcome 0 (updated t r)
        (with_limits v.bridges e (sent_updated (lent_offer v e) (cell sent e)) sent)
        (with_limits v.bridges e (held_updated t r (lent_offer v (opposite e)) (cell held e)) held)
    unfolding update_outcome
    update-accepted ok = rw ok

    module _ (n : ℕ) (m : Agreement) where
      abbrev deliver_ready : Bool
      deliver_ready = lent_end_in_range v sent held e && delivery_in_range views t r m.view

      pub deliver-accepted :
          deliver_ready ≡ true →
          deliver_outcome v views t n e r m sent held
          ≡ outcome (says (answer t r m)) (recorded r (answer t r m))
          (with_limits v.bridges e (sent_delivered n r m (lent_offer v e) (cell sent e)) sent)
          (with_limits v.bridges e (held_delivered t r m (lent_offer v (opposite e)) (cell held e)) held)
      unfolding deliver_outcome
      deliver-accepted ok = rw ok

-- the forwarding choice by its ends
module _ (old : Choice) (e : LinkEnd) where
  pub next-accepted : (ltb e.link 32 && leb e.cost max_cost) ≡ true → next_outcome old e ≡ says (next_choice old e)
  unfolding next_outcome
  next-accepted ok = rw ok

module _ (c : Choice) where
  pub choice-accepted : (ltb c.link 32 && ltb c.barring 32) ≡ true → choice_outcome c ≡ says (verdict_by c)
  unfolding choice_outcome
  choice-accepted ok = rw ok

-- the verdict on a port
module _ (v : ViewData) (views : ℕ) (down : List Bool) (records : List EndRecord) (sent held : List ℕ) (y d : ℕ) where
  abbrev pub port_ready : Bool
  port_ready = lent_port_in_range v views records sent held y d

  pub verdict-accepted :
      port_ready ≡ true →
      verdict_outcome v views down records sent held y d
      ≡ says (verdict (lent_graph v) (costs_of v.costs) (cell v.table) (lent_records down records sent held) y d)
  unfolding verdict_outcome
  verdict-accepted ok = rw ok

  pub verdict-refused : port_ready ≡ false → verdict_outcome v views down records sent held y d ≡ refused
  unfolding verdict_outcome
  verdict-refused ok = rw ok
