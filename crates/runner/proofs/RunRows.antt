-- The costs with one more row: it holds what was read, and every other number is as it was. Assumes nothing.
use Prim.Native.Nat.{ℕ, ◌+◌, ◌-◌, ◌*◌, ◌≤◌, ◌<◌}
use native.Mathlib.Omega.{arith}
use mathlib.Core.Path.{◌≡◌, refl, ◌∙◌, ap}
use mathlib.Core.Bool.{Bool, true, false, cond, ◌&&◌}
use mathlib.Core.List.{List, ◌++◌}
use borrow.Author.Tests.{eq-eqb, ne_eqb, lt-ltb, ltb-true, ltb-false}
use lib.ListN.{length, get_or, take, drop, length-append, length-drop, get_or-append}
use lib.Seq.{get_or-take, get_or-drop, get_or-append-add, length-take-le}
use lib.Dec.{eqb, ltb}
use Rattle.distances.specs.Call.{costs_pass}
use Rattle.distances.proofs.Ranges.{costs-made}
use Rattle.bench.specs.State.{part}
use Rattle.bench.specs.declared.Bench.{Bench}
use Rattle.bench.proofs.TieRanges.{part_at, part_length}
use Rattle.plan.specs.Fields.{cost_in}
use Rattle.plan.specs.Reading.{costs_reply}
use Rattle.plan.proofs.CostRows.{row-length, row-cost}
use Rattle.runner.specs.Steps.{with_row, ViewFits}

past : (xs ys : List ℕ) (n l : ℕ) → length xs ≡ n → get_or (xs ++ ys) (n + l) 0 ≡ get_or ys l 0
past xs ys n l e = rw e at (get_or-append-add xs ys l 0)

module _ (rest : List ℕ) (b : Bench) (costs : List ℕ) (fits : ViewFits rest b) (long : 1024 ≤ length costs) where
  abbrev v : ℕ
  v = b.views

  abbrev old : List ℕ
  old = part 32 v costs

  abbrev new : List ℕ
  new = (costs_reply rest b.links old).row

  abbrev behind : List ℕ
  behind = drop 32 (drop (32 * v) costs)

  room : v < 32
  room = fits.room

  head-length : length (take (32 * v) costs) ≡ 32 * v
  head-length = length-take-le (32 * v) costs (omega (arith, room, long))

  new-length : length new ≡ 32
  new-length = row-length rest b.links old ∙ part_length 32 v costs (omega (arith, room, long))

  before : (i : ℕ) → i < 32 * v → get_or (with_row rest b costs) i 0 ≡ get_or costs i 0
  unfolding with_row
  before i h = get_or-append (take (32 * v) costs) (new ++ behind) 0 i (omega (arith, head-length)) ∙ get_or-take (32 * v) costs i 0 h

  within : (l : ℕ) → l < 32 → get_or (with_row rest b costs) (32 * v + l) 0 ≡ cond (ltb l b.links) (cost_in rest l) (get_or costs (32 * v + l) 0)
  unfolding with_row
  within l h =
      past (take (32 * v) costs) (new ++ behind) (32 * v) l head-length
      ∙ get_or-append new behind 0 l (omega (arith, new-length))
      ∙ row-cost rest b.links old fits.listed (omega (arith, part_length 32 v costs (omega (arith, room, long)))) fits.whole fits.costs l
      ∙ ap (cond (ltb l b.links) (cost_in rest l)) (part_at 32 v costs l h)

  after : (i : ℕ) → get_or (with_row rest b costs) (32 * v + (32 + i)) 0 ≡ get_or costs (32 * v + (32 + i)) 0
  unfolding with_row
  after i =
      past (take (32 * v) costs) (new ++ behind) (32 * v) (32 + i) head-length
      ∙ past new behind 32 i new-length
      ∙ get_or-drop 32 (drop (32 * v) costs) i 0
      ∙ get_or-drop (32 * v) costs (32 + i) 0

  -- number l of row t
  pub row_number : (t l : ℕ) → l < 32 → get_or (with_row rest b costs) (32 * t + l) 0 ≡ cond (eqb t v && ltb l b.links) (cost_in rest l) (get_or costs (32 * t + l) 0)
  row_number t l h = go (ltb t v) (ltb v t) refl refl
    where
      go : (p q : Bool) → ltb t v ≡ p → ltb v t ≡ q → get_or (with_row rest b costs) (32 * t + l) 0 ≡ cond (eqb t v && ltb l b.links) (cost_in rest l) (get_or costs (32 * t + l) 0)
      go true q low high =
          let less = ltb-true t v low in
          rw (ne_eqb t v (λ e. omega (arith, less, e))) (before (32 * t + l) (omega (arith, less)))
      go false true low high =
          let more = ltb-true v t high in
          let place : 32 * t + l ≡ 32 * v + (32 + (32 * (t - v - 1) + l)) = omega (arith, more) in
          rw (ne_eqb t v (λ e. omega (arith, more, e)), place) (after (32 * (t - v - 1) + l))
      go false false low high =
          let same : t ≡ v = omega (arith, ltb-false t v low, ltb-false v t high) in
          rw (eq-eqb t v same, same) (within l h)

  pub row_kept : length (with_row rest b costs) ≡ length costs
  unfolding with_row
  row_kept =
      omega (
        arith,
        room,
        long,
        length-append (take (32 * v) costs) (new ++ behind),
        length-append new behind,
        head-length,
        new-length,
        length-drop 32 (drop (32 * v) costs),
        length-drop (32 * v) costs,
      )

  -- the row that was read passes
  pub row-passes : costs_pass b.links (part 32 v (with_row rest b costs)) ≡ true
  row-passes =
      costs-made b.links (part 32 v (with_row rest b costs)) (omega (arith, fits.listed, part_length 32 v (with_row rest b costs) (omega (arith, row_kept, room, long))))
      (λ l h.
      let low : l < 32 = omega (arith, fits.listed) in
      rw (part_at 32 v (with_row rest b costs) l low, within l low, lt-ltb l b.links h) (fits.costs l h))
