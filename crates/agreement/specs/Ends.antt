-- The calls on one end by what is seen from it: tests of constant cost, and no list of the view but the table. Assumes nothing.
use Rattle.std.specs.Prelude.{ℕ, ◌≡◌, Bool, true, cond, ◌&&◌, not, List, length, get_or, eqb, leb, ltb}
use Rattle.distances.specs.View.{max_cost, table_numbers}
use Rattle.distances.specs.Table.{cell}
use Rattle.agreement.specs.Offer.{link_of, opposite}
use Rattle.agreement.specs.Record.{updated, sent_updated, held_updated, answer, recorded, sent_delivered, held_delivered}
use Rattle.agreement.specs.Limits.{with_limits, limit_of}
use Rattle.agreement.specs.Ranges.{is_view, record_in_range, delivery_in_range}
use Rattle.agreement.specs.Call.{ViewData, Response, refused, says, Outcome, outcome, lent_end_in_range, update_outcome, deliver_outcome}
use Rattle.agreement.specs.declared.Across.{Across}
use Rattle.agreement.specs.declared.EndRecord.{EndRecord}
use Rattle.agreement.specs.declared.Agreement.{Agreement}
use Rattle.agreement.specs.declared.Answer.{Answer}
use Rattle.agreement.specs.Sizes.{limit_numbers, most_ends}

-- What is seen from an end: its bridge, the bridge across, the link's cost, and the table that holds the view's distances
pub record Between : Type 0 where
  pub bridges : ℕ
  pub near : ℕ
  pub far : ℕ
  pub cost : ℕ
  pub table : List ℕ

abbrev pub between : ℕ → ℕ → ℕ → ℕ → List ℕ → Between
between bridges near far cost table = record { bridges = bridges; near = near; far = far; cost = cost; table = table }

-- as it is lent
abbrev pub seen : Across → Between
seen a = between a.bridges a.near a.far a.cost a.table.now

-- from end e of a lent view
abbrev pub between_at : ViewData → ℕ → Between
between_at v e =
    between v.bridges (get_or v.ends e 0) (get_or v.ends (opposite e) 0) (get_or v.costs (link_of e) 0) v.table

-- the ranges of the protocol: 2 to 16 bridges, a link between two different ones with a cost up to the greatest; and an end and tables that
-- are long enough
unfoldable pub between_in_range : Between → List ℕ → List ℕ → ℕ → Bool
between_in_range w sent held e =
    leb 2 w.bridges
    && (leb w.bridges 16
    && (ltb w.near w.bridges
    && (ltb w.far w.bridges
    && (not (eqb w.near w.far)
    && (leb w.cost max_cost
    && (leb table_numbers (length w.table) && (ltb e most_ends && (leb limit_numbers (length sent) && leb limit_numbers (length held)))))))))

-- the offers of the end's bridge, and of the bridge across, as limits
abbrev pub near_offer : Between → ℕ → ℕ
near_offer w d = limit_of w.cost (cell w.table w.near d) (cell w.table w.far d)

abbrev pub far_offer : Between → ℕ → ℕ
far_offer w d = limit_of w.cost (cell w.table w.far d) (cell w.table w.near d)

-- Update of an end to view t, whose distances the table holds and which differs from the bridge's
unfoldable pub update_between : Between → ℕ → ℕ → ℕ → EndRecord → List ℕ → List ℕ → Outcome ℕ
update_between w views t e r sent held =
    cond (between_in_range w sent held e && (is_view views t && record_in_range views r))
    (outcome
    0
    (updated t r)
    (with_limits w.bridges e (sent_updated (near_offer w) (cell sent e)) sent)
    (with_limits w.bridges e (held_updated t r (far_offer w) (cell held e)) held))
    (outcome 17 r sent held)

-- A delivery of m at an end of a bridge on view t, whose distances the table holds, with number n
unfoldable pub deliver_between : Between → ℕ → ℕ → ℕ → ℕ → EndRecord → Agreement → List ℕ → List ℕ → Outcome (Response Answer)
deliver_between w views t n e r m sent held =
    cond (between_in_range w sent held e && delivery_in_range views t r m.view)
    (outcome
    (says (answer t r m))
    (recorded r (answer t r m))
    (with_limits w.bridges e (sent_delivered n r m (near_offer w) (cell sent e)) sent)
    (with_limits w.bridges e (held_delivered t r m (far_offer w) (cell held e)) held))
    (outcome refused r sent held)

-- for an end of a lent view in range they are the calls on that end
pub record PlainEndsAreEnds : Type 0 where
  pub update :
      (v : ViewData) (views t e : ℕ) (r : EndRecord) (sent held : List ℕ) →
      lent_end_in_range v sent held e ≡ true →
      update_outcome v views t e r sent held ≡ update_between (between_at v e) views t e r sent held
  pub deliver :
      (v : ViewData) (views t n e : ℕ) (r : EndRecord) (m : Agreement) (sent held : List ℕ) →
      lent_end_in_range v sent held e ≡ true →
      deliver_outcome v views t n e r m sent held ≡ deliver_between (between_at v e) views t n e r m sent held
