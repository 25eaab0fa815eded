-- What the table of tags tells of a tag, by its row. Assumes nothing.
use Prim.Native.Nat.{ℕ, ◌≤◌}
use native.Mathlib.Omega.{arith}
use mathlib.Core.Path.{◌≡◌, refl}
use mathlib.Core.Bool.{Bool, true, false, cond, ◌&&◌, false≢true}
use mathlib.Core.List.{List, [], ◌∷◌}
use borrow.Author.Tests.{eqb-true, leb-true}
use lib.ListN.{drop}
use lib.Dec.{eqb, leb}
use Rattle.distances.proofs.Booleans.{both_true}
use Rattle.plan.specs.Tags.{Row, tags, may_come, length_fits, passes, known, in_order, right_length}
use Rattle.plan.specs.declared.tags.Length.{Length}
use Rattle.plan.specs.declared.tags.Length.TheVariants.{Bytes, CostPerLink}
use Rattle.plan.specs.declared.tags.Place.{Place}
use Rattle.plan.specs.declared.tags.Place.TheVariants.{First, BeforeViews, BeforeEvents, AfterView}

all_rows : (Row → Bool) → List Row → Bool
all_rows good [] = true
all_rows good (r ∷ rs) = good r && all_rows good rs

module _ (t : ℕ) {P : Type 0} (good test : Row → Bool) (told : (r : Row) → t ≡ r.tag → good r ≡ true → test r ≡ true → P) where
  -- the tag's row passes a test, and is among rows of which each tells by that
  by_row : (rs : List Row) → all_rows good rs ≡ true → passes test t rs ≡ true → P
  unfolding all_rows passes
  by_row [] e h = absurd (false≢true h)
  by_row (r ∷ rs) e h =
      let both = both_true (good r) (all_rows good rs) e in
      go (eqb t r.tag) refl (λ same. told r same both.0) (by_row rs both.1) h
    where
      go : (b : Bool) → eqb t r.tag ≡ b → (t ≡ r.tag → test r ≡ true → P) → (passes test t rs ≡ true → P) → cond b (test r) (passes test t rs) ≡ true → P
      go true same here later = here (eqb-true t r.tag same)
      go false other here later = later

pub in-range : (t : ℕ) → known t ≡ true → (1 ≤ t) × (t ≤ 12)
unfolding all_rows known tags
in-range t h =
    by_row t (λ r. leb 1 r.tag && leb r.tag 12) (λ r. true)
    (λ r same good passed.
    let both = both_true (leb 1 r.tag) (leb r.tag 12) good in
    (omega (arith, leb-true 1 r.tag both.0), omega (arith, leb-true r.tag 12 both.1)))
    tags refl h

-- ---- what all rows of events have, those behind the first three

-- they come after a view
is_late : Place → Bool
is_late First = false
is_late BeforeViews = false
is_late BeforeEvents = false
is_late AfterView = true

-- their values have at most two bytes
is_short : Length → Bool
is_short (Bytes n) = leb n 2
is_short CostPerLink = false

module _ (t : ℕ) where
  late-place : (stage : ℕ) (q : Place) → is_late q ≡ true → may_come q stage ≡ true → 2 ≤ stage
  unfolding is_late may_come
  late-place stage First e h = absurd (false≢true e)
  late-place stage BeforeViews e h = absurd (false≢true e)
  late-place stage BeforeEvents e h = absurd (false≢true e)
  late-place stage AfterView e h = leb-true 2 stage h

  short-length : (links n : ℕ) (q : Length) → is_short q ≡ true → length_fits q links n ≡ true → n ≤ 2
  unfolding is_short length_fits
  short-length links n (Bytes m) e h = omega (arith, leb-true m 2 e, eqb-true n m h)
  short-length links n CostPerLink e h = absurd (false≢true e)

  -- an event is what every tag from 4 on is
  pub event-late : (stage : ℕ) → eqb t 1 ≡ false → eqb t 2 ≡ false → eqb t 3 ≡ false → in_order t stage ≡ true → 2 ≤ stage
  unfolding is_late all_rows passes in_order tags
  event-late stage one two three h =
      by_row t (λ r. is_late r.place) (λ r. may_come r.place stage) (λ r same. late-place stage r.place) (drop 3 tags) refl (rw (one, two, three) at h)

  pub event-short : (links n : ℕ) → eqb t 1 ≡ false → eqb t 2 ≡ false → eqb t 3 ≡ false → right_length t links n ≡ true → n ≤ 2
  unfolding is_short all_rows passes right_length tags
  event-short links n one two three h =
      by_row t (λ r. is_short r.length) (λ r. length_fits r.length links n) (λ r same. short-length links n r.length) (drop 3 tags) refl (rw (one, two, three) at h)
