-- The limits that `fresh` starts, end by end. Assumes nothing.
use Prim.Native.Nat.{ℕ, zero, suc, ◌*◌, ◌≤◌, ◌<◌}
use native.Mathlib.Omega.{arith}
use mathlib.Core.Path.{◌≡◌, refl, ◌∙◌}
use mathlib.Core.Bool.{Bool, true, false}
use mathlib.Core.List.{List}
use borrow.Author.Tests.{eqb-true, eqb-false}
use lib.ListN.{length}
use lib.Dec.{eqb}
use Rattle.distances.specs.View.{NONE}
use Rattle.distances.specs.Table.{cell}
use Rattle.agreement.specs.Limits.{with_limits}
use Rattle.agreement.specs.Record.{fresh_record}
use Rattle.agreement.specs.Call.{ViewData, lent_in_range, lent_offer, fresh_outcome, outcome}
use Rattle.agreement.proofs.LimitLaws.{with_limits-length, cell_same, cell_other}
use Rattle.agreement.proofs.InRange.{end-passes}
use Rattle.agreement.proofs.Outcomes.{fresh-accepted}
use Rattle.bench.specs.Private.Changes.{LimitTables, limit_tables, started_ends}

module _ (v : ViewData) (x : LimitTables) where
  pub record Begun (k : ℕ) (z : LimitTables) : Type 0 where
    pub sent_long : length z.sent ≡ length x.sent
    pub held_long : length z.held ≡ length x.held
    pub sent : (e d : ℕ) → e < k → d < v.bridges → cell z.sent e d ≡ lent_offer v e d
    pub held : (e d : ℕ) → e < k → d < v.bridges → cell z.held e d ≡ NONE

  module _
      (few : v.bridges ≤ 16)
      (links : v.links ≤ 32)
      (ok : lent_in_range v ≡ true)
      (sent_room : 1024 ≤ length x.sent)
      (held_room : 1024 ≤ length x.held) where
    module _ (k : ℕ) (low : k < 2 * v.links) (z : LimitTables) (ih : Begun k z) where
      begin-is :
          fresh_outcome v k z.sent z.held
          ≡ outcome 0 fresh_record (with_limits v.bridges k (lent_offer v k) z.sent) (with_limits v.bridges k (λ d. NONE) z.held)
      begin-is =
          fresh-accepted v k z.sent z.held
          (end-passes _ _ _ _ _ _ _ ok (rw ih.sent_long sent_room) (rw ih.held_long held_room) k low)

      -- a row that is started, beside those below
      row-begun :
          (f : ℕ → ℕ → ℕ) (l : List ℕ) →
          1024 ≤ length l →
          ((e d : ℕ) → e < k → d < v.bridges → cell l e d ≡ f e d) →
          (e d : ℕ) →
          e < suc k →
          d < v.bridges →
          cell (with_limits v.bridges k (f k) l) e d ≡ f e d
      row-begun f l room old e d h hd = go (eqb e k) refl
        where
          go : (b : Bool) → eqb e k ≡ b → cell (with_limits v.bridges k (f k) l) e d ≡ f e d
          go true q = rw (eqb-true e k q) (cell_same v.bridges k (f k) l d hd few (omega arith))
          go false q = cell_other v.bridges k (f k) l e d (eqb-false e k q) (omega arith) ∙ old e d (omega (arith, eqb-false e k q)) hd

      begun-next : Begun (suc k) (let o = fresh_outcome v k z.sent z.held in limit_tables o.sent o.held)
      begun-next =
          rw begin-is
          (record {
            sent_long = with_limits-length _ _ _ _ ∙ ih.sent_long;
            held_long = with_limits-length _ _ _ _ ∙ ih.held_long;
            sent = row-begun (lent_offer v) z.sent (omega (arith, ih.sent_long)) ih.sent;
            held = row-begun (λ e d. NONE) z.held (omega (arith, ih.held_long)) ih.held;
          })

    pub begun_all : (k : ℕ) → k ≤ 2 * v.links → Begun k (started_ends v k x)
    unfolding started_ends
    begun_all zero h =
        record { sent_long = refl; held_long = refl; sent = λ e d h. absurd (omega arith); held = λ e d h. absurd (omega arith) }
    begun_all (suc k) h = begun-next k h (started_ends v k x) (begun_all k (omega arith))
