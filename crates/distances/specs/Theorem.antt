-- What is proved of the computation of distances: it gives document 01's distance, no other number is one, where it is NONE, and how great it
-- can be.
-- Assumes nothing.
use Rattle.std.specs.Prelude.{ℕ, ◌*◌, ◌≤◌, ◌≡◌, List}
use Rattle.distances.specs.View.{Graph, Costs, NONE, max_cost, max_distance, InRange, CostsInRange}
use Rattle.distances.specs.Meaning.{IsPath, IsDistance}
use Rattle.distances.specs.Distance.{dist}

-- `dist` is the distance, of any two bridges; what is no bridge has no path to another
abbrev pub DistIsDistance : Type 0
DistIsDistance =
    (g : Graph) (c : Costs) →
    InRange g →
    CostsInRange g c →
    (i j : ℕ) →
    IsDistance g c i j (dist g c i j)

-- two distances of one bridge to another are equal
abbrev pub NothingElseIs : Type 0
NothingElseIs = (g : Graph) (c : Costs) (i j x y : ℕ) → IsDistance g c i j x → IsDistance g c i j y → x ≡ y

-- it is NONE exactly where no path leads from one to the other
abbrev pub NoneIsApart : Type 0
NoneIsApart =
    (g : Graph) (c : Costs) →
    InRange g →
    CostsInRange g c →
    (i j : ℕ) →
    (dist g c i j ≡ NONE → (ls : List ℕ) → IsPath g c i ls j → ⊥) × (((ls : List ℕ) → IsPath g c i ls j → ⊥) → dist g c i j ≡ NONE)

-- "The greatest distance is 15 × 16,777,215 = 251,658,225": no distance but NONE is above it, and two bridges of some view have it
pub record GreatestDistance : Type 0 where
  pub product : max_distance ≡ 15 * max_cost
  pub most : (g : Graph) (c : Costs) → InRange g → CostsInRange g c → (i j : ℕ) → (dist g c i j ≡ NONE → ⊥) → dist g c i j ≤ max_distance
  pub reached : (g : Graph) × (c : Costs) × InRange g × CostsInRange g c × (dist g c 0 15 ≡ max_distance)
