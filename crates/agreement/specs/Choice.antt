-- The forwarding choice of a bridge for a destination, made of its ends one after another, the lowest first (docs/PROTOCOL.md,
-- "Forwarding"), and the claim that it comes to the verdict of the forwarding rule. A choice has the bridge's distance in its view and
-- whether it is the destination; whether some end reaches the distance ("whose cost plus far bridge's distance equals Y's distance"), with what the rule
-- asks of the first such end; and whether at some end that is up the sent limit is not above the distance, with the link of the first. Assumes nothing.
use Rattle.std.specs.Prelude.{ℕ, zero, suc, ◌*◌, ◌≡◌, Bool, false, cond, ◌&&◌, ◌||◌, not, eqb, leb, ltb}
use Rattle.distances.specs.View.{Graph, Costs, max_cost}
use Rattle.agreement.specs.Offer.{link_of, far_bridge}
use Rattle.agreement.specs.Forwarding.{Records, is_down, reaches_distance, is_destination, has_no_path, held_too_great, sent_not_above, first_of, Port, verdict, port_of}
use Rattle.agreement.specs.Call.{Response, says, refused}
use Rattle.agreement.specs.declared.Verdict.{Verdict}
use Rattle.agreement.specs.declared.Choice.{Choice}
use Rattle.agreement.specs.declared.LinkEnd.{LinkEnd}

-- before any end
unfoldable pub first_choice : ℕ → Bool → Choice
first_choice distance destination =
    record {
      distance = distance;
      held = 0;
      link = 0;
      barring = 0;
      destination = destination;
      found = false;
      down = false;
      holding = false;
      barred = false;
    }

-- is an end the first whose link reaches the bridge's distance
abbrev pub becomes_chosen : Choice → LinkEnd → Bool
becomes_chosen old e = not old.found && reaches_distance e.cost e.far old.distance

-- is an end the first that is up and whose sent limit is not above the bridge's distance
abbrev pub becomes_barring : Choice → LinkEnd → Bool
becomes_barring old e = not old.barred && sent_not_above e.down e.sent old.distance

-- with one end more of the bridge: its link, the link's cost and the far bridge's distance in the bridge's view, whether the link is down
-- at the bridge's end, whether a view is held from the neighbour, and the sent and held limits for the destination. `held` is kept as it is
-- handed in: `verdict_by` looks at it only where a view is held, so that the protocol's "NONE if it holds none" need not be written into it
unfoldable pub next_choice : Choice → LinkEnd → Choice
next_choice old e =
    record {
      distance = old.distance;
      held = cond (becomes_chosen old e) e.held old.held;
      link = cond (becomes_chosen old e) e.link old.link;
      barring = cond (becomes_barring old e) e.link old.barring;
      destination = old.destination;
      found = old.found || reaches_distance e.cost e.far old.distance;
      down = cond (becomes_chosen old e) e.down old.down;
      holding = cond (becomes_chosen old e) e.holding old.holding;
      barred = old.barred || sent_not_above e.down e.sent old.distance;
    }

-- the verdict by the ends so far
unfoldable pub verdict_by : Choice → Verdict
verdict_by c =
    first_of c.destination (has_no_path c.distance) (not c.found) c.down (not c.holding) (held_too_great c.distance c.held)
    c.barred c.link c.barring

-- and the port
abbrev pub port_by : Choice → Port
port_by c = port_of (verdict_by c)

-- what the calls answer: refused for a link or a cost out of range
unfoldable pub next_outcome : Choice → LinkEnd → Response Choice
next_outcome old e = cond (ltb e.link 32 && leb e.cost max_cost) (says (next_choice old e)) refused

-- and for a choice handed in with such a link, chosen or barring
unfoldable pub choice_outcome : Choice → Response Verdict
choice_outcome c = cond (ltb c.link 32 && ltb c.barring 32) (says (verdict_by c)) refused

-- what the choice looks at of end e, for destination d
abbrev pub link_end : Graph → Costs → (ℕ → ℕ → ℕ) → Records → ℕ → ℕ → LinkEnd
link_end g c f r d e =
    record {
      link = link_of e;
      cost = c (link_of e);
      far = f (far_bridge g e) d;
      down = is_down r e;
      holding = (r.ends e).holding;
      sent = r.sent e d;
      held = r.held e d;
    }

-- the choice with end e of a bridge
unfoldable pub choice_with : Graph → Costs → (ℕ → ℕ → ℕ) → Records → ℕ → ℕ → Choice → Choice
choice_with g c f r d e old = next_choice old (link_end g c f r d e)

-- the choice of bridge y for destination d by its ends below n: f are the distances and c the costs of y's view
unfoldable pub choice_below : Graph → Costs → (ℕ → ℕ → ℕ) → Records → ℕ → ℕ → ℕ → Choice
choice_below g c f r y d zero = first_choice (f y d) (is_destination y d)
choice_below g c f r y d (suc e) =
    cond (eqb (g.bridge_at e) y) (choice_with g c f r d e (choice_below g c f r y d e)) (choice_below g c f r y d e)

-- by all ends it comes to the verdict that the other contracts speak of
abbrev pub ChoiceIsVerdict : Type 0
ChoiceIsVerdict =
    (g : Graph) (c : Costs) (f : ℕ → ℕ → ℕ) (r : Records) (y d : ℕ) →
    verdict_by (choice_below g c f r y d (2 * g.links)) ≡ verdict g c f r y d
