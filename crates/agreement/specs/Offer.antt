-- Link ends, and the offer of a bridge over a link in a view (document 01, "Records of a bridge"). Assumes nothing.
use Rattle.std.specs.Prelude.{ℕ, ◌+◌, ◌*◌, ◌/◌, ◌%◌, ◌-◌, cond, ◌&&◌, ltb}
use Rattle.distances.specs.View.{Graph, Costs, NONE}
use Rattle.distances.specs.Distance.{present}

-- end e is end e % 2 of link e / 2; the other end of that link
abbrev pub link_of : ℕ → ℕ
link_of e = e / 2

abbrev pub opposite : ℕ → ℕ
opposite e = e + 1 - 2 * (e % 2)

-- the bridge at the other end: "far bridge"
abbrev pub far_bridge : Graph → ℕ → ℕ
far_bridge g e = g.bridge_at (opposite e)

-- "offer" of the bridge at end e over its link, for destination d, in the view with costs c and distances f:
-- the cost plus the bridge's distance, if the link is present and the bridge is strictly nearer than the far bridge; else NONE
unfoldable pub offer : Graph → Costs → (ℕ → ℕ → ℕ) → ℕ → ℕ → ℕ
offer g c f e d =
    cond (present c (link_of e) && ltb (f (g.bridge_at e) d) (f (far_bridge g e) d)) (c (link_of e) + f (g.bridge_at e) d) NONE
