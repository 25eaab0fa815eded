-- The chosen link of a bridge, whether the bridge forwards on it, and if not, why (docs/PROTOCOL.md, "Forwarding"). The bridge is
-- y, the destination d, f the distances and c the costs of y's view. An end at y stands for its link: the lowest end is on the lowest-numbered link.
-- Assumes nothing.
use Rattle.std.specs.Prelude.{ℕ, ◌+◌, ◌*◌, ◌≡◌, Bool, true, false, cond, ◌&&◌, not, eqb, leb, ltb, Option, None, Some}
use Rattle.distances.specs.View.{Graph, Costs, NONE}
use Rattle.agreement.specs.Tests.{first_below}
use Rattle.agreement.specs.Offer.{link_of, far_bridge}
use Rattle.agreement.specs.Record.{held_limit}
use Rattle.agreement.specs.declared.EndRecord.{EndRecord}
use Rattle.agreement.specs.declared.Verdict.{Verdict}
use Rattle.agreement.specs.declared.Verdict.TheVariants.{IsDestination, NoPath, NoLink, LinkDown, NothingHeld, HeldTooGreat, SentNotAbove, Forwards}

-- what a bridge knows of its links, by its end of each: whether it is down, its record, and by destination its "sent limits" and "held
-- limits"
pub record Records : Type 0 where
  pub down : ℕ → Bool
  pub ends : ℕ → EndRecord
  pub sent : ℕ → ℕ → ℕ
  pub held : ℕ → ℕ → ℕ

-- a link is down, or up, at end e ("Each end sees its own cut")
abbrev pub is_down : Records → ℕ → Bool
is_down r e = r.down e

unfoldable pub is_up : Records → ℕ → Bool
is_up r e = not (is_down r e)

abbrev pub UpAt : Records → ℕ → Type 0
UpAt r e = is_down r e ≡ false

abbrev pub DownAt : Records → ℕ → Type 0
DownAt r e = is_down r e ≡ true

-- a link of this cost is present, 0 being absent, and its "cost plus far bridge's distance equals Y's distance"
abbrev pub reaches_distance : ℕ → ℕ → ℕ → Bool
reaches_distance cost far distance = not (eqb cost 0) && eqb (cost + far) distance

-- the bridge has end e, and its link reaches the bridge's distance
unfoldable pub reaches : Graph → Costs → (ℕ → ℕ → ℕ) → ℕ → ℕ → ℕ → Bool
reaches g c f y d e = eqb (g.bridge_at e) y && reaches_distance (c (link_of e)) (f (far_bridge g e) d) (f y d)

-- the end of the "chosen link", or 2 × links where no link reaches the distance
unfoldable pub chosen_end : Graph → Costs → (ℕ → ℕ → ℕ) → ℕ → ℕ → ℕ
chosen_end g c f y d = first_below (2 * g.links) (reaches g c f y d)

-- ---- what holds the port shut, a test for each condition, in their order

-- "is the destination"
abbrev pub is_destination : ℕ → ℕ → Bool
is_destination y d = eqb y d

-- "no path": the distance is NONE
abbrev pub has_no_path : ℕ → Bool
has_no_path distance = eqb distance NONE

-- no link reaches the distance, e being `chosen_end`; where neither of the two above applies this is never so of a view's own distances
unfoldable pub has_no_link : Graph → ℕ → Bool
has_no_link g e = not (ltb e (2 * g.links))

-- "chosen link down at this end" is `is_down`

-- "nothing held"
unfoldable pub holds_nothing : Records → ℕ → Bool
holds_nothing r e = not (r.ends e).holding

-- "held limit too great"
abbrev pub held_too_great : ℕ → ℕ → Bool
held_too_great distance limit = ltb distance limit

-- "sent limit not above the distance", at an end that is up
abbrev pub sent_not_above : Bool → ℕ → ℕ → Bool
sent_not_above down limit distance = not down && leb limit distance

-- the bridge has end k, and its sent limit there is such a one
unfoldable pub bars : Graph → (ℕ → ℕ → ℕ) → Records → ℕ → ℕ → ℕ → Bool
bars g f r y d k = eqb (g.bridge_at k) y && sent_not_above (is_down r k) (r.sent k d) (f y d)

-- the lowest such end, or 2 × links where there is none
unfoldable pub barring_end : Graph → (ℕ → ℕ → ℕ) → Records → ℕ → ℕ → ℕ
barring_end g f r y d = first_below (2 * g.links) (bars g f r y d)

-- there is such an end
unfoldable pub is_barred : Graph → (ℕ → ℕ → ℕ) → Records → ℕ → ℕ → Bool
is_barred g f r y d = ltb (barring_end g f r y d) (2 * g.links)

-- ---- the verdict: "the first of these that applies", and otherwise "that the port forwards, and which"

-- by what the tests say, the chosen link and the lowest link whose sent limit is not above the distance
unfoldable pub first_of : Bool → Bool → Bool → Bool → Bool → Bool → Bool → ℕ → ℕ → Verdict
first_of destination no_path no_link down nothing too_great barred chosen barring =
    cond destination IsDestination
    (cond no_path NoPath
    (cond no_link NoLink
    (cond down (LinkDown chosen)
    (cond nothing (NothingHeld chosen)
    (cond too_great (HeldTooGreat chosen)
    (cond barred (SentNotAbove barring) (Forwards chosen)))))))

-- by the chosen link's end e, 2 × links where no link reaches the distance
unfoldable pub verdict_from : Graph → (ℕ → ℕ → ℕ) → Records → ℕ → ℕ → ℕ → Verdict
verdict_from g f r y d e =
    first_of (is_destination y d) (has_no_path (f y d)) (has_no_link g e) (is_down r e) (holds_nothing r e)
    (held_too_great (f y d) (held_limit (r.ends e) (r.held e) d)) (is_barred g f r y d) (link_of e) (link_of (barring_end g f r y d))

-- of bridge y for destination d
unfoldable pub verdict : Graph → Costs → (ℕ → ℕ → ℕ) → Records → ℕ → ℕ → Verdict
verdict g c f r y d = verdict_from g f r y d (chosen_end g c f y d)

-- a forwarding port for a destination: open on a link, or closed
abbrev pub Port : Type 0
Port = Option ℕ

-- it is open exactly where the verdict is that it forwards
abbrev pub port_of : Verdict → Port
port_of IsDestination = None
port_of NoPath = None
port_of NoLink = None
port_of (LinkDown l) = None
port_of (NothingHeld l) = None
port_of (HeldTooGreat l) = None
port_of (SentNotAbove l) = None
port_of (Forwards l) = Some l

abbrev pub port : Graph → Costs → (ℕ → ℕ → ℕ) → Records → ℕ → ℕ → Port
port g c f r y d = port_of (verdict g c f r y d)
