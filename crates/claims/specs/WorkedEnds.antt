-- Worked cases of layers 1 and 2, on the triangle of the protocol's examples (docs/PROTOCOL.md). Assumes nothing.
use Rattle.std.specs.Prelude.{ℕ, ◌≤◌, ◌<◌, ◌≡◌, List, [], ◌∷◌, length, replicate, None, Some}
use Rattle.distances.specs.View.{NONE, max_distance, costs_of}
use Rattle.distances.specs.Meaning.{IsPath, IsDistance}
use Rattle.distances.specs.Distance.{dist}
use Rattle.distances.specs.Table.{cell}
use Rattle.distances.specs.Call.{distances_of}
use Rattle.distances.specs.Examples.{triangle, view0, view1}
use Rattle.agreement.specs.Call.{ViewData, view_data, lent_graph, lent_offer}
use Rattle.agreement.specs.Choice.{verdict_by, choice_below}
use Rattle.agreement.specs.Ends.{between_at, update_between, deliver_between}
use Rattle.agreement.specs.Record.{fresh_record}
use Rattle.agreement.specs.Forwarding.{verdict, port}
use Rattle.agreement.specs.Rule as rules
use Rattle.agreement.specs.Rule.{Reaches}
use Rattle.agreement.specs.Reasons.{Means}
use Rattle.agreement.specs.declared.Agreement.{Agreement}
use Rattle.agreement.specs.declared.Verdict.{Verdict}
use Rattle.agreement.specs.declared.Verdict.TheVariants.{NoLink, SentNotAbove, Forwards}
use Rattle.protocol.specs.Calls as calls
use Rattle.protocol.specs.Paths.{links_crossed}
use Rattle.protocol.specs.Examples.{after, calls_e3, calls_e6, calls_e7, answered}

-- the triangle's view 1 as it is lent to layer 2, with its distances; limits that are all absent; a message of a bridge on view 1
abbrev pub lent : ViewData
lent =
    let ends : List ℕ = 0 ∷ 1 ∷ 1 ∷ 2 ∷ 0 ∷ 2 ∷ [] in
    let costs : List ℕ = 0 ∷ 1 ∷ 3 ∷ [] in
    view_data 3 3 ends costs (distances_of 3 3 ends costs (replicate 256 0)).table

abbrev pub limits : List ℕ
limits = replicate 1024 NONE

abbrev pub message : Agreement
message = record { view = 1; number = 1; discarded = 0 }

pub record WorkedEnds : Type 0 where
  -- no other number than 4 is the distance of bridge 1 to bridge 0 in view 1, and that is not too great
  pub no_other : (x : ℕ) → IsDistance triangle view1 1 0 x → x ≡ 4
  pub greatest : dist triangle view1 1 0 ≤ max_distance
  -- in a view that gives no link a cost no path leads from bridge 1 to bridge 0, and where none does the distance is NONE
  pub apart : (ls : List ℕ) → IsPath triangle (λ l. 0) 1 ls 0 → ⊥
  pub none : ((ls : List ℕ) → IsPath triangle view1 1 ls 0 → ⊥) → ⊥
  -- E3: bridge 2 uses link 1: by the rule, both ways, and by the choice of one end after another; E2: fresh, it uses none
  pub rule : (e : ℕ) × rules.Forwards triangle view0 (dist triangle view0) (after calls_e3).records 2 0 1 e
  pub opens : port triangle view0 (dist triangle view0) (after calls_e3).records 2 0 ≡ Some 1
  pub closes : port triangle view0 (dist triangle view0) (after []).records 2 0 ≡ None
  pub choice : verdict_by (choice_below triangle view0 (dist triangle view0) (after calls_e3).records 2 0 6) ≡ Forwards 1
  -- E6: of bridge 1 it is said that its sent limit on link 1 is not above its distance, and nothing else is so. By numbers that are no distances no link
  -- of it reaches its own
  pub is_so : Means triangle view1 (dist triangle view1) (after calls_e6).records 1 0 (SentNotAbove 1)
  pub no_other_verdict : (v : Verdict) → Means triangle view1 (dist triangle view1) (after calls_e6).records 1 0 v → v ≡ SentNotAbove 1
  pub verdict_rule : verdict triangle view0 (dist triangle view0) (after calls_e3).records 2 0 ≡ Forwards 1
  pub no_link : (e : ℕ) → e < 6 → Reaches triangle view1 (λ i j. 7) 1 0 e → ⊥
  -- bridge 2's offer over link 1 for bridge 0 in view 1 is 4, of a lent view too
  pub lent_offers : lent_offer lent 3 0 ≡ 4
  -- E6, of view 1 as it is lent: the same of bridge 1's sent limit, nothing else is so, and it has a chosen link
  pub lent_verdict : verdict (lent_graph lent) (costs_of lent.costs) (cell lent.table) (after calls_e6).records 1 0 ≡ SentNotAbove 1
  pub lent_only :
      (v : Verdict) → Means (lent_graph lent) (costs_of lent.costs) (dist (lent_graph lent) (costs_of lent.costs)) (after calls_e6).records 1 0 v →
      v ≡ SentNotAbove 1
  pub lent_link : verdict (lent_graph lent) (costs_of lent.costs) (cell lent.table) (after calls_e6).records 1 0 ≡ NoLink → ⊥
  -- by plain numbers: bridge 2's end of link 1, end 3, goes to view 1, and its sent limit falls to that offer; the message arrives at bridge 1's
  -- end of link 1, end 2, and bridge 1, on view 1 with number 1, holds 4
  pub plain_update : cell (update_between (between_at lent 3) 2 1 3 fresh_record limits limits).sent 3 0 ≡ 4
  pub plain_delivery : cell (deliver_between (between_at lent 2) 2 1 1 2 fresh_record message limits limits).held 2 0 ≡ 4
  -- E3: the path from bridge 2 crosses two links
  pub hops : length (links_crossed (after calls_e3) 2 0) ≡ 2
  -- E8: bridge 1's message over link 1 is of number 1, and its delivery is accepted and stale
  pub e8 :
      (let m = calls.message_at (after calls_e7) 0 in
      m.link ∷ m.direction ∷ m.agreement.number ∷ calls.refuse (after calls_e7) (calls.deliver 0) ∷ answered calls_e7 0 ∷ [])
      ≡ 1 ∷ 0 ∷ 1 ∷ 0 ∷ 0 ∷ []
