-- The laws of `joined_below`, the least by at most one link: what it says of the links that join two bridges. Assumes nothing.
use Prim.Native.Nat.{ℕ, zero, suc, ◌+◌, ◌*◌, ◌<◌, ◌≤◌, min}
use mathlib.Core.Bool.{Bool, true, false, cond, ◌&&◌, not, or_comm, or-true}
use mathlib.Core.Path.{◌≡◌, refl, sym, ap}
use mathlib.Core.Logic.{◌⊎◌, inl, inr}
use native.Mathlib.Nat.{le_refl, le_of_suc-le-suc, not-suc-le-zero, eq-or-lt_of_le, min-eq_left, min-eq_right}
use native.Mathlib.Decide.{dec_le}
use native.Mathlib.Omega.{arith}
use lib.Dec.{eqb}
use borrow.Author.Tests.{eqb-true, eqb-false, eq-eqb, ne_eqb}
use Rattle.distances.specs.View.{Graph, Costs, NONE}
use Rattle.distances.specs.Meaning.{Joins}
use Rattle.distances.specs.Distance.{present, joins, crossing, unjoined, joined_below}
use Rattle.distances.proofs.Booleans.{both_true, one-true, unequal}

-- a link is present where its cost is not 0, and only there
pub present-is : (c : Costs) (l : ℕ) → present c l ≡ not (eqb (c l) 0)
unfolding present
present-is c l = refl

pub present-cost : (c : Costs) (l : ℕ) → present c l ≡ true → c l ≡ 0 → ⊥
unfolding present
present-cost c l = unequal (c l) 0

pub cost-present : (c : Costs) (l : ℕ) → (c l ≡ 0 → ⊥) → present c l ≡ true
unfolding present
cost-present c l h = rw (ne_eqb (c l) 0 h)

-- by no link
pub unjoined-self : (i : ℕ) → unjoined i i ≡ 0
unfolding unjoined
unjoined-self i = rw (eq-eqb i i refl)

pub unjoined-le : (i j : ℕ) → unjoined i j ≤ NONE
unfolding unjoined
unjoined-le i j = go (eqb i j)
  where
    go : (b : Bool) → cond b 0 NONE ≤ NONE
    go true = omega arith
    go false = omega arith

pub unjoined-told : (i j : ℕ) → (unjoined i j ≡ NONE → ⊥) → (i ≡ j) × (unjoined i j ≡ 0)
unfolding unjoined
unjoined-told i j n = go (eqb i j) refl n
  where
    go : (b : Bool) → eqb i j ≡ b → (cond b 0 NONE ≡ NONE → ⊥) → (i ≡ j) × (cond b 0 NONE ≡ 0)
    go true e n = (eqb-true i j e, refl)
    go false e n = absurd (n refl)

pub unjoined-symmetric : (i j : ℕ) → unjoined i j ≡ unjoined j i
unfolding unjoined
unjoined-symmetric i j = go (eqb i j) refl
  where
    go : (b : Bool) → eqb i j ≡ b → cond b 0 NONE ≡ cond (eqb j i) 0 NONE
    go true e = rw (eq-eqb j i (sym (eqb-true i j e)))
    go false e = rw (ne_eqb j i (λ q. eqb-false i j e (sym q)))

-- x and y are the two ends of link l
abbrev pub AreEnds : Graph → ℕ → ℕ → ℕ → Type 0
AreEnds g l x y =
    ((g.bridge_at (2 * l) ≡ x) × (g.bridge_at (2 * l + 1) ≡ y)) ⊎ ((g.bridge_at (2 * l) ≡ y) × (g.bridge_at (2 * l + 1) ≡ x))

module _ (g : Graph) (c : Costs) where
  -- by one link
  joins-told : (l i j : ℕ) → joins g l i j ≡ true →
      AreEnds g l i j
  unfolding joins
  joins-told l i j e = go (one-true _ _ e)
    where
      a : ℕ
      a = g.bridge_at (2 * l)

      b : ℕ
      b = g.bridge_at (2 * l + 1)

      go : ((eqb a i && eqb b j) ≡ true) ⊎ ((eqb a j && eqb b i) ≡ true) → AreEnds g l i j
      go (inl t) = let t = both_true _ _ t in inl (eqb-true a i t.0, eqb-true b j t.1)
      go (inr t) = let t = both_true _ _ t in inr (eqb-true a j t.0, eqb-true b i t.1)

  pub crossing-le : {l i j : ℕ} → Joins g c l i j → crossing g c l i j ≤ c l
  unfolding crossing joins
  crossing-le {l} {i} {j} h = go h.joined
    where
      go : AreEnds g l i j → crossing g c l i j ≤ c l
      go (inl e) = rw (cost-present c l h.present, eq-eqb _ _ e.0, eq-eqb _ _ e.1) (le_refl _)
      go (inr e) = rw (cost-present c l h.present, eq-eqb _ _ e.0, eq-eqb _ _ e.1, or-true) (le_refl _)

  pub crossing-told : (l i j : ℕ) → l < g.links → (crossing g c l i j ≡ NONE → ⊥) → Joins g c l i j × (crossing g c l i j ≡ c l)
  unfolding crossing
  crossing-told l i j listed n = go (present c l && joins g l i j) refl n
    where
      found : (present c l ≡ true) × (joins g l i j ≡ true) → Joins g c l i j
      found t = record { listed = listed; present = present-cost c l t.0; joined = joins-told l i j t.1 }

      go : (b : Bool) → (present c l && joins g l i j) ≡ b → (cond b (c l) NONE ≡ NONE → ⊥) → Joins g c l i j × (cond b (c l) NONE ≡ c l)
      go true e n = (found (both_true _ _ e), refl)
      go false e n = absurd (n refl)

  pub crossing-symmetric : (l i j : ℕ) → crossing g c l i j ≡ crossing g c l j i
  unfolding crossing joins
  crossing-symmetric l i j =
      ap (λ (b : Bool). cond (present c l && b) (c l) NONE) (or_comm (eqb a i && eqb b j) (eqb a j && eqb b i))
    where
      a : ℕ
      a = g.bridge_at (2 * l)

      b : ℕ
      b = g.bridge_at (2 * l + 1)

  -- by at most one of the links below n
  pub joined-le : (n i j : ℕ) → joined_below g c unjoined n i j ≤ unjoined i j
  unfolding joined_below
  joined-le zero i j = le_refl _
  joined-le (suc n) i j = omega (arith, joined-le n i j)

  pub joined-le-crossing : (n i j l : ℕ) → l < n → joined_below g c unjoined n i j ≤ crossing g c l i j
  unfolding joined_below
  joined-le-crossing zero i j l h = absurd (not-suc-le-zero h)
  joined-le-crossing (suc n) i j l h = go (eq-or-lt_of_le (le_of_suc-le-suc h)) (λ k. joined-le-crossing n i j l k)
    where
      J : ℕ
      J = joined_below g c unjoined n i j

      go : (l ≡ n) ⊎ (l < n) → (l < n → J ≤ crossing g c l i j) → min J (crossing g c n i j) ≤ crossing g c l i j
      go (inl e) rec = rw e (omega arith)
      go (inr k) rec = omega (arith, rec k)

  pub joined-symmetric : (n i j : ℕ) → joined_below g c unjoined n i j ≡ joined_below g c unjoined n j i
  unfolding joined_below
  joined-symmetric zero i j = unjoined-symmetric i j
  joined-symmetric (suc n) i j = cc (joined-symmetric n i j, crossing-symmetric n i j)

  -- each number but NONE is 0 from a bridge to itself, or the cost of a link that joins the two
  pub joined-told :
      (n i j : ℕ) →
      n ≤ g.links →
      (joined_below g c unjoined n i j ≡ NONE → ⊥) →
      ((i ≡ j) × (joined_below g c unjoined n i j ≡ 0)) ⊎ ((l : ℕ) × Joins g c l i j × (joined_below g c unjoined n i j ≡ c l))
  unfolding joined_below
  joined-told zero i j b n = inl (unjoined-told i j n)
  joined-told (suc m) i j b n = go (dec_le J (crossing g c m i j)) (joined-told m i j (omega arith))
    where
      J : ℕ
      J = joined_below g c unjoined m i j

      JoinedBy : ℕ → Type 0
      JoinedBy x = ((i ≡ j) × (x ≡ 0)) ⊎ ((l : ℕ) × Joins g c l i j × (x ≡ c l))

      go : Dec (J ≤ crossing g c m i j) → ((J ≡ NONE → ⊥) → JoinedBy J) → JoinedBy (min J (crossing g c m i j))
      go (yes l) rec = rw (min-eq_left l) (rec (λ e. n (omega arith)))
      go (no l) rec =
          let most : J ≤ NONE = omega (arith, joined-le m i j, unjoined-le i j) in
          let t = crossing-told m i j b (λ e. n (omega arith)) in
          rw (min-eq_right {n = crossing g c m i j} {m = J} (omega arith)) (inr (m, t.0, t.1))
