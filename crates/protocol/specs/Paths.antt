-- A path follows forwarding ports (document 01, "Forwarding", second part; document 02, Change 1: it "also stops at a bridge whose frame
-- dies on the link"). Assumes nothing.
use Rattle.std.specs.Prelude.{ℕ, zero, suc, ◌-◌, ◌≡◌, cond, List, [], ◌∷◌, length, eqb}
use Rattle.protocol.specs.Net.{Network}
use Rattle.protocol.specs.Ports.{Hop, stays, crosses, hop}

-- delivered with its hops, or the last bridge and the hops up to it
pub data PathResult : Type 0 where
  delivered : ℕ → PathResult
  stops : ℕ → ℕ → PathResult

-- by the hop from bridge y with h hops behind it: it stops there, or goes on from the bridge across
unfoldable pub follow : ℕ → ℕ → (ℕ → PathResult) → Hop → PathResult
follow y h on stays = stops y h
follow y h on (crosses l z) = on z

-- by the hops that `next` gives to d, from bridge y with h hops behind it, over at most `left` links more
unfoldable pub onward : (ℕ → Hop) → ℕ → ℕ → ℕ → ℕ → PathResult
onward next d zero h y = cond (eqb y d) (delivered h) (stops y h)
onward next d (suc left) h y = cond (eqb y d) (delivered h) (follow y h (onward next d left (suc h)) (next y))

-- the path from s to d: unless delivered, it stops after as many links as there are bridges less one
unfoldable pub path : Network → ℕ → ℕ → PathResult
path n s d = onward (hop n d) d (n.plan.graph.bridges - 1) 0 s

-- the links that a path crosses, in order
unfoldable pub follow_links : (ℕ → List ℕ) → Hop → List ℕ
follow_links on stays = []
follow_links on (crosses l z) = l ∷ on z

unfoldable pub onward_links : (ℕ → Hop) → ℕ → ℕ → ℕ → List ℕ
onward_links next d zero y = []
onward_links next d (suc left) y = cond (eqb y d) [] (follow_links (onward_links next d left) (next y))

unfoldable pub links_crossed : Network → ℕ → ℕ → List ℕ
links_crossed n s d = onward_links (hop n d) d (n.plan.graph.bridges - 1) s

-- a path "ends by itself" if it is delivered, or ends at a bridge from which the frame crosses no link: the bridge does not forward, or the
-- frame dies
abbrev pub EndsByItself : Network → ℕ → PathResult → Type 0
EndsByItself n d (delivered h) = Unit {0}
EndsByItself n d (stops b h) = hop n d b ≡ stays

-- its hop count
abbrev pub hops : PathResult → ℕ
hops (delivered h) = h
hops (stops b h) = h

-- "Its hop count is the number of links crossed": by any hops and over any number of links, so of every network and of every state
abbrev pub HopsAreLinks : Type 0
HopsAreLinks = (next : ℕ → Hop) (d left y : ℕ) → hops (onward next d left 0 y) ≡ length (onward_links next d left y)
