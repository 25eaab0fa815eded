-- What the entry check tells: a view that it accepts is ready for the private functions, and an end that it accepts is one of the
-- view's. Assumes nothing.
use Prim.Native.Nat.{ℕ, ◌*◌, ◌≤◌, ◌<◌}
use native.Mathlib.Omega.{arith}
use mathlib.Core.Path.{◌≡◌}
use mathlib.Core.Bool.{true}
use mathlib.Core.List.{List}
use borrow.Author.Tests.{leb-true, ltb-true}
use lib.ListN.{length, get_or}
use lib.Dec.{leb}
use Rattle.distances.proofs.Booleans.{both_true}
use Rattle.distances.proofs.Ranges.{in-range-told, sizes, at_bridge}
use Rattle.agreement.specs.Offer.{opposite}
use Rattle.agreement.specs.Ranges.{end_in_range}
use Rattle.agreement.specs.Call.{ViewData, lent_in_range, lent_end_in_range}
use Rattle.agreement.specs.Steps.{ViewReady}

module _ (v : ViewData) where
  pub view-ready : lent_in_range v ≡ true → ViewReady v
  view-ready ok =
      let h = sizes _ _ _ _ _ ok in
      record {
        few_bridges = h.0;
        few_links = h.1;
        ends_long = h.2;
        costs_long = h.3;
        table_long = h.4;
        are_bridges = at_bridge _ _ _ (in-range-told _ _ _ _ _ ok).0;
      }

  module _ (sent held : List ℕ) (e : ℕ) (ok : lent_end_in_range v sent held e ≡ true) where
    pub end-view : lent_in_range v ≡ true
    unfolding end_in_range
    end-view = (both_true (lent_in_range v) _ ok).0

    pub end-ready : ViewReady v
    end-ready = view-ready end-view

    -- the limit tables are long enough, and the end is one of the view's
    pub end-told : (e < 2 * v.links) × (1024 ≤ length sent) × (1024 ≤ length held)
    unfolding end_in_range
    end-told =
        let h = both_true (leb 1024 (length sent)) _ (both_true (lent_in_range v) _ ok).1 in
        let k = both_true (leb 1024 (length held)) _ h.1 in
        (ltb-true e (2 * v.links) k.1, leb-true 1024 (length sent) h.0, leb-true 1024 (length held) k.0)

-- both ends of a link of a ready view: e, and o, its opposite
pub record BothEnds (ends : List ℕ) (e o : ℕ) : Type 0 where
  pub listed : o < length ends
  pub near : get_or ends e 0 < 16
  pub far : get_or ends o 0 < 16

pub both-ends-ready : {v : ViewData} → ViewReady v → (e o : ℕ) → e < 2 * v.links → o ≡ opposite e → BothEnds v.ends e o
both-ends-ready {v} ready e o h same =
    let other : o < 2 * v.links = omega arith in
    record {
      listed = omega arith;
      near = omega (arith, ready.are_bridges e h);
      far = omega (arith, ready.are_bridges o other);
    }
