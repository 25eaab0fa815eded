-- The forwarding ports of a network, and where a frame goes by them (document 01, "Forwarding"; document 02, Changes 1 and 2). Assumes nothing.
use Rattle.std.specs.Prelude.{ℕ, ◌*◌, ◌+◌, ◌≡◌, Bool, cond, ◌&&◌, eqb, None, Some}
use Rattle.distances.specs.View.{Graph}
use Rattle.agreement.specs.Forwarding.{Records, is_up, verdict, port_of, Port}
use Rattle.agreement.specs.declared.Verdict.{Verdict}
use Rattle.protocol.specs.Net.{Network, distance_in}

-- the distance of bridge y to d in y's own view
unfoldable pub own_distance : Network → ℕ → ℕ → ℕ
own_distance n y d = distance_in n.plan (n.view y) y d

-- the verdict on the port of y for d: the first condition that holds it shut, or that it forwards
unfoldable pub forwarding_verdict : Network → ℕ → ℕ → Verdict
forwarding_verdict n y d = verdict n.plan.graph (n.plan.costs (n.view y)) (distance_in n.plan (n.view y)) n.records y d

-- the forwarding port of y for d
unfoldable pub forwarding_port : Network → ℕ → ℕ → Port
forwarding_port n y d = port_of (forwarding_verdict n y d)

-- where a frame goes from a bridge: it crosses no link, or it crosses one to another bridge
pub data Hop : Type 0 where
  stays : Hop
  crosses : ℕ → ℕ → Hop

-- the bridge across link l from y
unfoldable pub across : Graph → ℕ → ℕ → ℕ
across g l y = cond (eqb (g.bridge_at (2 * l)) y) (g.bridge_at (2 * l + 1)) (g.bridge_at (2 * l))

-- a link is live where both its ends are up
unfoldable pub is_live : Records → ℕ → Bool
is_live r l = is_up r (2 * l) && is_up r (2 * l + 1)

-- the frame goes over the forwarding port's link: "A frame crosses only if both ends are up", and otherwise it dies on the link
unfoldable pub hop_by : Graph → Records → ℕ → Port → Hop
hop_by g r y None = stays
hop_by g r y (Some l) = cond (is_live r l) (crosses l (across g l y)) stays

unfoldable pub hop : Network → ℕ → ℕ → Hop
hop n d y = hop_by n.plan.graph n.records y (forwarding_port n y d)

-- a frame for d crosses link l from y to z
abbrev pub Crosses : Network → ℕ → ℕ → ℕ → ℕ → Type 0
Crosses n d y l z = hop n d y ≡ crosses l z
