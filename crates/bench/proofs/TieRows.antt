-- A table of limits in which one end's row is rewritten, against rows of which one is another. Assumes nothing.
use Prim.Native.Nat.{ℕ, ◌+◌, ◌*◌, ◌≤◌, ◌<◌}
use native.Mathlib.Omega.{arith}
use mathlib.Core.Path.{◌≡◌, refl, sym, ◌∙◌}
use mathlib.Core.Bool.{Bool, true, false, cond}
use mathlib.Core.List.{List}
use lib.ListN.{length}
use lib.Dec.{eqb}
use borrow.Author.Tests.{eqb-true, eqb-false}
use Rattle.distances.specs.Table.{cell}
use Rattle.agreement.specs.Limits.{with_limits}
use Rattle.agreement.proofs.LimitLaws.{cell_same, cell_other}

-- a table in which the row of e is rewritten, against rows in which that of e is another: at any row
pub row_at :
    (bridges e : ℕ) (l : List ℕ) (f : ℕ → ℕ) (rows : ℕ → ℕ → ℕ) (own : ℕ → ℕ) (k d : ℕ) →
    bridges ≤ 16 →
    16 * e + 16 ≤ length l →
    d < bridges →
    own d ≡ f d →
    rows k d ≡ cell l k d →
    cond (eqb k e) own (rows k) d ≡ cell (with_limits bridges e f l) k d
row_at bridges e l f rows own k d few long hd mine other = go (eqb k e) refl
  where
    go : (b : Bool) → eqb k e ≡ b → cond b own (rows k) d ≡ cell (with_limits bridges e f l) k d
    go true q = rw (eqb-true k e q) (mine ∙ sym (cell_same bridges e f l d hd few long))
    go false q = other ∙ sym (cell_other bridges e f l k d (eqb-false k e q) (omega arith))
