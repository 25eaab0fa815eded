-- What an accepted report or path tells: there are at most 16 bridges, the path has fewer hops than there are bridges, and where it stops
-- is a bridge. Assumes nothing.
use Prim.Native.Nat.{ℕ, zero, suc, ◌-◌, ◌≤◌, ◌<◌}
use native.Mathlib.Omega.{arith}
use mathlib.Core.Path.{◌≡◌, refl, sym}
use mathlib.Core.Bool.{Bool, true, false, cond}
use lib.Dec.{eqb}
use Rattle.protocol.specs.Ports.{Hop, stays, crosses}
use Rattle.protocol.specs.Paths.{PathResult, delivered, stops, follow, onward, hops}
use Rattle.bench.specs.State.{State}
use Rattle.bench.specs.Private.Answers.{PathFits, hop_in}
use Rattle.bench.specs.Outcomes.{path_told}
use Rattle.bench.specs.Private.Steps.{Ready}
use Rattle.bench.specs.declared.Path.{Path}
use Rattle.std.specs.Prelude.{Ok}
use Rattle.protocol.proofs.PathEnds.{onward-short}
use Rattle.bench.proofs.PathSteps.{hop-leads}

-- a way that stops, at a bridge
abbrev pub StopsBelow : ℕ → PathResult → Type 0
StopsBelow bridges (delivered h) = Unit {0}
StopsBelow bridges (stops b h) = b < bridges

module _ (next : ℕ → Hop) (bridges : ℕ) (leads : (y l z : ℕ) → next y ≡ crosses l z → z < bridges) (d : ℕ) where
  onward-below : (left h y : ℕ) → y < bridges → StopsBelow bridges (onward next d left h y)
  unfolding onward follow
  onward-below zero h y low = go (eqb y d)
    where
      go : (b : Bool) → StopsBelow bridges (cond b (delivered h) (stops y h))
      go true = tt
      go false = low
  onward-below (suc left) h y low = go (onward-below left (suc h)) (eqb y d) (next y) refl
    where
      go :
          ((z : ℕ) → z < bridges → StopsBelow bridges (onward next d left (suc h) z)) →
          (b : Bool) (p : Hop) →
          next y ≡ p →
          StopsBelow bridges (cond b (delivered h) (follow y h (onward next d left (suc h)) p))
      go rest true p e = tt
      go rest false stays e = low
      go rest false (crosses l z) e = rest z (leads y l z e)

pub record PathFacts (bridges : ℕ) (w : PathResult) : Type 0 where
  pub few : bridges ≤ 16
  pub short : hops w ≤ bridges - 1
  pub last : StopsBelow bridges w

module _ (s : State) (ready : Ready s.bench s.costs) (y d : ℕ) (listed : y < s.bench.bridges) where
  pub path-told : PathFacts s.bench.bridges (onward (hop_in s d) d (s.bench.bridges - 1) 0 y)
  path-told =
      record {
        few = ready.few_bridges;
        short = omega (arith, onward-short (hop_in s d) d (s.bench.bridges - 1) 0 y);
        last = onward-below (hop_in s d) s.bench.bridges (hop-leads s ready d) d (s.bench.bridges - 1) 0 y listed;
      }

  -- a path's numbers are few
  pub path-fits : (w : Path) → path_told w ≡ onward (hop_in s d) d (s.bench.bridges - 1) 0 y → PathFits (Ok w)
  path-fits (Path.Delivered h) e = let told = rw (sym e) at path-told in omega (arith, told.few, told.short)
  path-fits (Path.Stops last h) e =
      let told = rw (sym e) at path-told in
      (omega (arith, told.few, told.last), omega (arith, told.few, told.short))
