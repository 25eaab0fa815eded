-- The verdict on a port, and so the port, depends only on the distances of the bridges that there are, the costs of the links, and what stands at
-- their ends for the destination. Assumes nothing.
use Prim.Native.Nat.{ℕ, ◌*◌, ◌<◌}
use native.Mathlib.Omega.{arith}
use mathlib.Core.Path.{◌≡◌, refl, sym, ◌∙◌}
use mathlib.Core.Bool.{Bool, true, false}
use borrow.Author.Tests.{ltb-true}
use lib.Dec.{ltb}
use Rattle.distances.specs.View.{Graph, Costs, InRange, costs_of}
use Rattle.distances.specs.Table.{cell}
use Rattle.distances.specs.Distance.{dist}
use Rattle.distances.proofs.Laws.{dist-le-none}
use Rattle.distances.proofs.Ranges.{in-range-told, graph-in-range}
use Rattle.agreement.specs.Offer.{link_of, opposite, far_bridge}
use Rattle.agreement.specs.Forwarding.{Records, reaches, chosen_end, has_no_link, holds_nothing, bars, barring_end, is_barred, first_of, verdict_from, verdict}
use Rattle.agreement.specs.Call.{lent_graph, LentVerdictIsVerdict}
use Rattle.agreement.proofs.Firsts.{first_cong}
use Rattle.agreement.proofs.Forwards.{no-other-verdict, verdict-has-link}
use Rattle.agreement.proofs.Ends.{opposite-below, bridge-in-range}

-- what a port for d looks at is the same
pub record Alike (g : Graph) (c k : Costs) (f h : ℕ → ℕ → ℕ) (r q : Records) (d : ℕ) : Type 0 where
  pub distances : (i : ℕ) → i < g.bridges → f i d ≡ h i d
  pub costs : (l : ℕ) → l < g.links → c l ≡ k l
  pub down : (e : ℕ) → e < 2 * g.links → r.down e ≡ q.down e
  pub ends : (e : ℕ) → e < 2 * g.links → r.ends e ≡ q.ends e
  pub sent : (e : ℕ) → e < 2 * g.links → r.sent e d ≡ q.sent e d
  pub held : (e : ℕ) → e < 2 * g.links → r.held e d ≡ q.held e d

module _
    (g : Graph)
    (c k : Costs)
    (f h : ℕ → ℕ → ℕ)
    (r q : Records)
    (inside : InRange g)
    (y d : ℕ)
    (low : y < g.bridges)
    (same : Alike g c k f h r q d) where
  reaches_same : (e : ℕ) → e < 2 * g.links → reaches g c f y d e ≡ reaches g k h y d e
  unfolding reaches
  reaches_same e he =
      rw (
        same.costs (link_of e) (omega arith),
        same.distances (far_bridge g e) (bridge-in-range g inside (opposite e) (opposite-below e _ he)),
        same.distances y low,
      )

  chosen-same : chosen_end g c f y d ≡ chosen_end g k h y d
  unfolding chosen_end
  chosen-same = first_cong (2 * g.links) (reaches g c f y d) (reaches g k h y d) reaches_same

  barring-same : barring_end g f r y d ≡ barring_end g h q y d
  unfolding barring_end bars
  barring-same =
      first_cong (2 * g.links) (bars g f r y d) (bars g h q y d)
      (λ e he. rw (same.down e he, same.distances y low, same.sent e he))

  verdict-from-same : (e : ℕ) → verdict_from g f r y d e ≡ verdict_from g h q y d e
  unfolding verdict_from first_of has_no_link holds_nothing is_barred
  verdict-from-same e = go (ltb e (2 * g.links)) refl
    where
      go : (b : Bool) → ltb e (2 * g.links) ≡ b → verdict_from g f r y d e ≡ verdict_from g h q y d e
      go true w =
          let he : e < 2 * g.links = ltb-true e (2 * g.links) w in
          rw (same.distances y low, same.down e he, same.ends e he, same.held e he, barring-same)
      go false w = rw (w, same.distances y low)

  pub verdict-cong : verdict g c f r y d ≡ verdict g k h q y d
  unfolding verdict
  verdict-cong = rw chosen-same (verdict-from-same (chosen_end g k h y d))

-- where the table holds the distances the verdict is the view's
pub lent-verdict : LentVerdictIsVerdict
lent-verdict v ok holds r y d hy hd = (
  same,
  λ w is. same ∙ no-other-verdict g inside.differ c (dist g c) r y d (dist-le-none g c y d) w is,
  λ is. verdict-has-link g c inside r y d (sym same ∙ is),
)
  where
    g : Graph
    g = lent_graph v

    c : Costs
    c = costs_of v.costs

    inside : InRange g
    inside = graph-in-range _ _ _ (in-range-told _ _ _ _ _ ok).0

    same : verdict g c (cell v.table) r y d ≡ verdict g c (dist g c) r y d
    same =
        verdict-cong g c c (cell v.table) (dist g c) r r inside y d hy
        (record {
          distances = λ i hi. holds i d hi hd;
          costs = λ l h. refl;
          down = λ e h. refl;
          ends = λ e h. refl;
          sent = λ e h. refl;
          held = λ e h. refl;
        })
