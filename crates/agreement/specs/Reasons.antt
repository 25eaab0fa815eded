-- Document 02, Change 2, "Tell the planner which condition holds a port shut", as propositions, to be read beside it, and the claims that the verdict of the
-- contracts is so: "The condition named is proved to fail and all earlier ones to be met". The bridge is y, the destination d, f the
-- distances and c the costs of y's view. An end at y stands for its link. Assumes nothing.
use Rattle.std.specs.Prelude.{ℕ, ◌*◌, ◌<◌, ◌≤◌, List, [], ◌∷◌, ◌≡◌, true, false}
use Rattle.distances.specs.View.{Graph, Costs, NONE}
use Rattle.agreement.specs.Offer.{link_of}
use Rattle.agreement.specs.Record.{held_limit}
use Rattle.agreement.specs.Forwarding.{Records, UpAt, DownAt, verdict}
use Rattle.agreement.specs.Rule.{Reaches, IsChosen, EndsDiffer}
use Rattle.agreement.specs.Rule as rule
use Rattle.agreement.specs.declared.Verdict.{Verdict}
use Rattle.agreement.specs.declared.Verdict.TheVariants.{IsDestination, NoPath, NoLink, LinkDown, NothingHeld, HeldTooGreat, SentNotAbove, Forwards}

-- neither "is the destination" nor "no path" applies, and e is y's end of the chosen link
pub record Chooses (g : Graph) (c : Costs) (f : ℕ → ℕ → ℕ) (y d e : ℕ) : Type 0 where
  pub not_destination : y ≡ d → ⊥
  pub has_path : f y d ≡ NONE → ⊥
  pub chosen : IsChosen g c f y d e

-- "sent limit not above the distance" at end k: it "concerns links up at this end"
pub record Bars (g : Graph) (f : ℕ → ℕ → ℕ) (r : Records) (y d k : ℕ) : Type 0 where
  pub own : g.bridge_at k ≡ y
  pub up : UpAt r k
  pub limit : r.sent k d ≤ f y d

-- link l, by y's end k of it, is "the lowest such one"
pub record IsLowestBar (g : Graph) (f : ℕ → ℕ → ℕ) (r : Records) (y d l k : ℕ) : Type 0 where
  pub listed : k < 2 * g.links
  pub bars : Bars g f r y d k
  pub link : link_of k ≡ l
  pub lowest : (j : ℕ) → j < 2 * g.links → Bars g f r y d j → link_of k ≤ link_of j

-- what each verdict says: the condition that it names fails, and every earlier one is met
abbrev pub Means : Graph → Costs → (ℕ → ℕ → ℕ) → Records → ℕ → ℕ → Verdict → Type 0
-- "is the destination"
Means g c f r y d IsDestination = y ≡ d
-- "no path"
Means g c f r y d NoPath = (y ≡ d → ⊥) × (f y d ≡ NONE)
-- no link reaches the distance: of distances that are not the view's
Means g c f r y d NoLink = (y ≡ d → ⊥) × (f y d ≡ NONE → ⊥) × ((e : ℕ) → e < 2 * g.links → Reaches g c f y d e → ⊥)
-- "chosen link down at this end"
Means g c f r y d (LinkDown l) = (e : ℕ) × Chooses g c f y d e × (link_of e ≡ l) × DownAt r e
-- "nothing held"
Means g c f r y d (NothingHeld l) = (e : ℕ) × Chooses g c f y d e × (link_of e ≡ l) × UpAt r e × ((r.ends e).holding ≡ false)
-- "held limit too great"
Means g c f r y d (HeldTooGreat l) =
    (e : ℕ) × Chooses g c f y d e × (link_of e ≡ l) × UpAt r e × ((r.ends e).holding ≡ true) × (f y d < held_limit (r.ends e) (r.held e) d)
-- "sent limit not above the distance"
Means g c f r y d (SentNotAbove l) =
    (e : ℕ) × Chooses g c f y d e × UpAt r e × ((r.ends e).holding ≡ true) × (held_limit (r.ends e) (r.held e) d ≤ f y d)
    × ((k : ℕ) × IsLowestBar g f r y d l k)
-- "Otherwise it says that the port forwards, and which": by document 01's rule
Means g c f r y d (Forwards l) = (e : ℕ) × rule.Forwards g c f r y d l e

-- a verdict in two numbers: the place of the condition in document 02's list, 0 where the port forwards, 7 where no link reaches the distance; and
-- the link, NONE where none is named
abbrev pub verdict_numbers : Verdict → List ℕ
verdict_numbers IsDestination = 1 ∷ NONE ∷ []
verdict_numbers NoPath = 2 ∷ NONE ∷ []
verdict_numbers (LinkDown link) = 3 ∷ link ∷ []
verdict_numbers (NothingHeld link) = 4 ∷ link ∷ []
verdict_numbers (HeldTooGreat link) = 5 ∷ link ∷ []
verdict_numbers (SentNotAbove link) = 6 ∷ link ∷ []
verdict_numbers NoLink = 7 ∷ NONE ∷ []
verdict_numbers (Forwards link) = 0 ∷ link ∷ []

-- the verdict is so
abbrev pub VerdictIsSo : Type 0
VerdictIsSo = (g : Graph) (c : Costs) (f : ℕ → ℕ → ℕ) (r : Records) (y d : ℕ) → Means g c f r y d (verdict g c f r y d)

-- and no other is, where the bridge's distance is at most NONE, as every distance is
abbrev pub NoOtherVerdict : Type 0
NoOtherVerdict =
    (g : Graph) →
    EndsDiffer g →
    (c : Costs) (f : ℕ → ℕ → ℕ) (r : Records) (y d : ℕ) →
    f y d ≤ NONE →
    (v : Verdict) →
    Means g c f r y d v →
    verdict g c f r y d ≡ v

-- so the verdict is that the port forwards on link l if and only if y forwards on l by document 01's rule
abbrev pub VerdictFollowsRule : Type 0
VerdictFollowsRule =
    (g : Graph) (c : Costs) (f : ℕ → ℕ → ℕ) (r : Records) (y d l : ℕ) →
    (verdict g c f r y d ≡ Forwards l → (e : ℕ) × rule.Forwards g c f r y d l e)
    × (EndsDiffer g → f y d ≤ NONE → (e : ℕ) × rule.Forwards g c f r y d l e → verdict g c f r y d ≡ Forwards l)
