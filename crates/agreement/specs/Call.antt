-- What each call on a lent view does, for every input: its reply, the record, the lent tables. Assumes nothing.
use Rattle.std.specs.Prelude.{ℕ, ◌*◌, ◌<◌, min, ◌≡◌, Bool, true, false, cond, ◌&&◌, List, [], ◌∷◌, map, length, get_or, ltb, Result, Ok, Err}
use Rattle.distances.specs.Refusal.{number}
use Rattle.distances.specs.declared.refusals.Refusal.{Refusal}
use Rattle.distances.specs.View.{Graph, NONE, graph_of, costs_of}
use Rattle.distances.specs.Table.{cell}
use Rattle.distances.specs.Distance.{dist}
use Rattle.agreement.specs.Offer.{opposite, offer}
use Rattle.agreement.specs.Record.{fresh_record, updated, sent_updated, held_updated, carried, answer, recorded, sent_delivered, held_delivered}
use Rattle.agreement.specs.Limits.{with_limits}
use Rattle.agreement.specs.Forwarding.{Records, Port, verdict, port_of}
use Rattle.agreement.specs.Reasons.{Means}
use Rattle.agreement.specs.Ranges.{view_in_range, is_view, record_in_range, end_in_range, delivery_in_range, port_in_range}
use Rattle.agreement.specs.declared.View.{View}
use Rattle.agreement.specs.declared.Records as declared
use Rattle.agreement.specs.declared.EndRecord.{EndRecord}
use Rattle.agreement.specs.declared.LimitsMut.{LimitsMut}
use Rattle.agreement.specs.declared.Agreement.{Agreement}
use Rattle.agreement.specs.declared.Answer.{Answer}
use Rattle.agreement.specs.declared.Verdict.{Verdict}
use Rattle.agreement.specs.declared.Verdict.TheVariants.{NoLink}

-- what a reply says: its number in the table of refusals, 0 where the call is not refused, and the value that it brings
pub record Response (A : Type 0) : Type 0 where
  pub number : ℕ
  pub value : List A

-- refused at entry
abbrev pub refused : {A : Type 0} → Response A
refused = record { number = 17; value = [] }

abbrev pub says : {A : Type 0} → A → Response A
says x = record { number = 0; value = x ∷ [] }

-- the same reply with f of the value
abbrev pub mapped : {A B : Type 0} → (A → B) → Response A → Response B
mapped f s = record { number = s.number; value = map f s.value }

-- what a call's result says
abbrev pub response : {A : Type 0} → Result A Refusal → Response A
response (Ok x) = says x
response (Err r) = record { number = number r; value = [] }

-- the caller's tables are the ones that it lent, so that it learns what they hold afterwards
abbrev pub SameTables : LimitsMut → LimitsMut → Type 0
SameTables before after = (after.sent.ghost_name ≡ before.sent.ghost_name) × (after.held.ghost_name ≡ before.held.ghost_name)

-- A view as it is lent: the graph, its costs, and a table that holds its distances
pub record ViewData : Type 0 where
  pub bridges : ℕ
  pub links : ℕ
  pub ends : List ℕ
  pub costs : List ℕ
  pub table : List ℕ

abbrev pub view_data : ℕ → ℕ → List ℕ → List ℕ → List ℕ → ViewData
view_data bridges links ends costs table = record { bridges = bridges; links = links; ends = ends; costs = costs; table = table }

abbrev pub lent : View → ViewData
lent v = view_data v.graph.bridges v.graph.links v.graph.ends.now v.costs.now v.table.now

abbrev pub lent_graph : ViewData → Graph
lent_graph v = graph_of v.bridges v.links v.ends

abbrev pub lent_in_range : ViewData → Bool
lent_in_range v = view_in_range v.bridges v.links v.ends v.costs v.table

-- the offer of the bridge at end e, as a limit
unfoldable pub lent_offer : ViewData → ℕ → ℕ → ℕ
lent_offer v e d = min NONE (offer (lent_graph v) (costs_of v.costs) (cell v.table) e d)

-- the lent table holds the view's distances, as layer 1 leaves it
abbrev pub HoldsDistances : ViewData → Type 0
HoldsDistances v = (i j : ℕ) → i < v.bridges → j < v.bridges → cell v.table i j ≡ dist (lent_graph v) (costs_of v.costs) i j

-- with such a table the offers that limits are made of are the protocol's
abbrev pub LentOffersAreOffers : Type 0
LentOffersAreOffers =
    (v : ViewData) →
    lent_in_range v ≡ true →
    HoldsDistances v →
    (e d : ℕ) →
    e < 2 * v.links →
    d < v.bridges →
    lent_offer v e d ≡ offer (lent_graph v) (costs_of v.costs) (dist (lent_graph v) (costs_of v.costs)) e d

-- and the verdict on a port is that by the view's own distances, no other verdict is so, and a bridge with a path to another has a chosen link
abbrev pub LentVerdictIsVerdict : Type 0
LentVerdictIsVerdict =
    (v : ViewData) →
    lent_in_range v ≡ true →
    HoldsDistances v →
    (r : Records) (y d : ℕ) →
    y < v.bridges →
    d < v.bridges →
    (let g = lent_graph v in
    let c = costs_of v.costs in
    (verdict g c (cell v.table) r y d ≡ verdict g c (dist g c) r y d)
    × ((w : Verdict) → Means g c (dist g c) r y d w → verdict g c (cell v.table) r y d ≡ w)
    × (verdict g c (cell v.table) r y d ≡ NoLink → ⊥))

-- The offer over the link of end e for destination d
unfoldable pub offer_outcome : ViewData → ℕ → ℕ → Response ℕ
offer_outcome v e d =
    cond (lent_in_range v && (ltb e (2 * v.links) && ltb d v.bridges)) (says (lent_offer v e d)) refused

-- the record of an end and the two limit tables, after a call
pub record Outcome (A : Type 0) : Type 0 where
  pub reply : A
  pub end : EndRecord
  pub sent : List ℕ
  pub held : List ℕ

abbrev pub outcome : {A : Type 0} → A → EndRecord → List ℕ → List ℕ → Outcome A
outcome reply end sent held = record { reply = reply; end = end; sent = sent; held = held }

-- what every call on an end is handed, in range
abbrev pub lent_end_in_range : ViewData → List ℕ → List ℕ → ℕ → Bool
lent_end_in_range v sent held e = end_in_range v.bridges v.links v.ends v.costs v.table (length sent) (length held) e

-- A fresh end: sent limits from the view's offers, held limits all NONE
unfoldable pub fresh_outcome : ViewData → ℕ → List ℕ → List ℕ → Outcome ℕ
fresh_outcome v e sent held =
    cond (lent_end_in_range v sent held e)
    (outcome
    0
    fresh_record
    (with_limits v.bridges e (lent_offer v e) sent)
    (with_limits v.bridges e (λ d. NONE) held))
    (outcome 17 fresh_record sent held)

-- Update of an end to view t, which the lent view is and which differs from the bridge's
unfoldable pub update_outcome : ViewData → ℕ → ℕ → ℕ → EndRecord → List ℕ → List ℕ → Outcome ℕ
update_outcome v views t e r sent held =
    cond (lent_end_in_range v sent held e && (is_view views t && record_in_range views r))
    (outcome
    0
    (updated t r)
    (with_limits v.bridges e (sent_updated (lent_offer v e) (cell sent e)) sent)
    (with_limits v.bridges e (held_updated t r (lent_offer v (opposite e)) (cell held e)) held))
    (outcome 17 r sent held)

-- What a send of a bridge on view t with number n carries from an end
unfoldable pub carry_outcome : ℕ → ℕ → ℕ → EndRecord → Response Agreement
carry_outcome views t n r = cond (is_view views t && record_in_range views r) (says (carried t n r)) refused

-- A delivery of m at an end of a bridge on view t, which the lent view is, with number n
unfoldable pub deliver_outcome : ViewData → ℕ → ℕ → ℕ → ℕ → EndRecord → Agreement → List ℕ → List ℕ → Outcome (Response Answer)
deliver_outcome v views t n e r m sent held =
    cond (lent_end_in_range v sent held e && delivery_in_range views t r m.view)
    (outcome
    (says (answer t r m))
    (recorded r (answer t r m))
    (with_limits v.bridges e (sent_delivered n r m (lent_offer v e) (cell sent e)) sent)
    (with_limits v.bridges e (held_delivered t r m (lent_offer v (opposite e)) (cell held e)) held))
    (outcome refused r sent held)

-- flags, records and limits as they are lent, by end
abbrev pub lent_records : List Bool → List EndRecord → List ℕ → List ℕ → Records
lent_records down records sent held =
    record { down = λ e. get_or down e false; ends = λ e. get_or records e fresh_record; sent = cell sent; held = cell held }

abbrev pub known : declared.Records → Records
known r = lent_records r.down.now r.records.now r.limits.sent.now r.limits.held.now

-- what a call on a port is handed, in range
abbrev pub lent_port_in_range : ViewData → ℕ → List EndRecord → List ℕ → List ℕ → ℕ → ℕ → Bool
lent_port_in_range v views records sent held y d =
    port_in_range v.bridges v.links v.ends v.costs v.table views records (length sent) (length held) y d

-- The verdict on the port of bridge y for destination d, y being on the lent view
unfoldable pub verdict_outcome : ViewData → ℕ → List Bool → List EndRecord → List ℕ → List ℕ → ℕ → ℕ → Response Verdict
verdict_outcome v views down records sent held y d =
    cond (lent_port_in_range v views records sent held y d)
    (says (verdict (lent_graph v) (costs_of v.costs) (cell v.table) (lent_records down records sent held) y d))
    refused

-- The forwarding port
abbrev pub port_outcome : ViewData → ℕ → List Bool → List EndRecord → List ℕ → List ℕ → ℕ → ℕ → Response Port
port_outcome v views down records sent held y d = mapped port_of (verdict_outcome v views down records sent held y d)
