-- A path's hops are the links that it crosses, and every path ends by itself: each hop comes to a bridge of smaller rank, and of smaller ranks there are at most bridges less one to
-- start with. Assumes nothing.
use Prim.Native.Nat.{ℕ, zero, suc, ◌+◌, ◌-◌, ◌≤◌, ◌<◌}
use native.Mathlib.Omega.{arith}
use mathlib.Core.Path.{◌≡◌, refl}
use mathlib.Core.Bool.{Bool, true, false, cond}
use mathlib.Core.List.{[]}
use lib.ListN.{length}
use lib.Dec.{eqb}
use Rattle.distances.proofs.Count.{nearer, nearer-falls, nearer-less}
use Rattle.protocol.specs.Net.{Network}
use Rattle.protocol.specs.Ports.{Hop, stays, crosses, hop}
use Rattle.protocol.specs.Paths.{delivered, stops, follow, onward, path, follow_links, onward_links, links_crossed, EndsByItself, hops, HopsAreLinks}
use Rattle.protocol.proofs.Invariant.{Invariant}
use Rattle.protocol.proofs.Hops.{hop-in-range, hop-from}
use Rattle.protocol.proofs.NoRing.{rank, rank_falls}

-- a path crosses no more links than it may
pub onward-short : (next : ℕ → Hop) (d left h y : ℕ) → hops (onward next d left h y) ≤ h + left
unfolding onward follow
onward-short next d zero h y = go (eqb y d)
  where
    go : (b : Bool) → hops (cond b (delivered h) (stops y h)) ≤ h + 0
    go true = omega arith
    go false = omega arith
onward-short next d (suc left) h y = go (onward-short next d left (suc h)) (eqb y d) (next y)
  where
    go : ((z : ℕ) → hops (onward next d left (suc h) z) ≤ suc h + left) → (b : Bool) (p : Hop) → hops (cond b (delivered h) (follow y h (onward next d left (suc h)) p)) ≤ h + suc left
    go rest true p = omega arith
    go rest false stays = omega arith
    go rest false (crosses l z) = omega (arith, rest z)

-- of any network
pub path-short : (n : Network) (s d : ℕ) → hops (path n s d) ≤ n.plan.graph.bridges - 1
unfolding path
path-short n s d = omega (arith, onward-short (hop n d) d (n.plan.graph.bridges - 1) 0 s)

-- a path that starts with h hops behind it counts one more for each link
onward-counted : (next : ℕ → Hop) (d left h y : ℕ) → hops (onward next d left h y) ≡ h + length (onward_links next d left y)
unfolding onward follow onward_links follow_links
onward-counted next d zero h y = go (eqb y d)
  where
    go : (b : Bool) → hops (cond b (delivered h) (stops y h)) ≡ h + 0
    go true = omega arith
    go false = omega arith
onward-counted next d (suc left) h y = go (onward-counted next d left (suc h)) (eqb y d) (next y)
  where
    go :
        ((z : ℕ) → hops (onward next d left (suc h) z) ≡ suc h + length (onward_links next d left z)) →
        (b : Bool) (p : Hop) →
        hops (cond b (delivered h) (follow y h (onward next d left (suc h)) p)) ≡ h + length (cond b [] (follow_links (onward_links next d left) p))
    go rest true p = omega arith
    go rest false stays = omega arith
    go rest false (crosses l z) = omega (arith, rest z)

pub hops-are-links : HopsAreLinks
hops-are-links next d left y = omega (arith, onward-counted next d left 0 y)

pub path-counted : (n : Network) (s d : ℕ) → hops (path n s d) ≡ length (links_crossed n s d)
unfolding path links_crossed
path-counted n s d = hops-are-links (hop n d) d (n.plan.graph.bridges - 1) s

-- how many bridges have a smaller rank than y
before : Network → ℕ → ℕ → ℕ
before n d y = nearer (rank n d) n.plan.graph.bridges y

module _ (n : Network) (inv : Invariant n) (d : ℕ) where
  -- each hop leaves fewer
  hop-fewer : (y l z : ℕ) → hop n d y ≡ crosses l z → before n d z < before n d y
  unfolding before
  hop-fewer y l z first =
      nearer-falls (rank n d) n.plan.graph.bridges z y (hop-in-range n inv.1.plan.graph d y l z first) (rank_falls n inv d y l z first)

  onward-ends : (left h y : ℕ) → before n d y ≤ left → EndsByItself n d (onward (hop n d) d left h y)
  unfolding onward follow
  onward-ends zero h y few = go (eqb y d) (hop n d y) refl
    where
      go : (b : Bool) (p : Hop) → hop n d y ≡ p → EndsByItself n d (cond b (delivered h) (stops y h))
      go true p e = tt
      go false stays e = e
      go false (crosses l z) e = absurd (omega (arith, hop-fewer y l z e))
  onward-ends (suc left) h y few = go (onward-ends left (suc h)) (eqb y d) (hop n d y) refl
    where
      go : ((z : ℕ) → before n d z ≤ left → EndsByItself n d (onward (hop n d) d left (suc h) z)) → (b : Bool) (p : Hop) → hop n d y ≡ p → EndsByItself n d (cond b (delivered h) (follow y h (onward (hop n d) d left (suc h)) p))
      go rest true p e = tt
      go rest false stays e = e
      go rest false (crosses l z) e = rest z (omega (arith, hop-fewer y l z e))

  -- from what is no bridge no frame crosses a link
  onward-starts : (left y : ℕ) → (y < n.plan.graph.bridges → before n d y ≤ left) → EndsByItself n d (onward (hop n d) d left 0 y)
  unfolding onward follow
  onward-starts left y few = go (hop n d y) refl
    where
      stopped : hop n d y ≡ stays → (left : ℕ) → EndsByItself n d (onward (hop n d) d left 0 y)
      stopped e zero = either (eqb y d)
        where
          either : (b : Bool) → EndsByItself n d (cond b (delivered 0) (stops y 0))
          either true = tt
          either false = e
      stopped e (suc left) = either (eqb y d)
        where
          either : (b : Bool) → EndsByItself n d (cond b (delivered 0) (follow y 0 (onward (hop n d) d left 1) (hop n d y)))
          either true = tt
          either false = rw e e

      go : (p : Hop) → hop n d y ≡ p → EndsByItself n d (onward (hop n d) d left 0 y)
      go stays e = stopped e left
      go (crosses l z) e = onward-ends left 0 y (few (hop-from n inv.1.plan.graph d y l z e))

pub path-ends : (n : Network) → Invariant n → (s d : ℕ) → EndsByItself n d (path n s d)
unfolding path before
path-ends n inv s d =
    onward-starts n inv d (n.plan.graph.bridges - 1) s (λ low. omega (arith, nearer-less (rank n d) n.plan.graph.bridges s low))
