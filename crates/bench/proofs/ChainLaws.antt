-- The chains of the ends, made from the last end to the first; and what only a bridge's own ends change stays up to the next of them.
-- Assumes nothing.
use Prim.Native.Nat.{ℕ, zero, suc, ◌+◌, ◌-◌, ◌*◌, ◌≤◌, ◌<◌}
use native.Mathlib.Omega.{arith}
use mathlib.Core.Path.{◌≡◌, refl, sym, ap, ◌∙◌}
use mathlib.Core.Bool.{Bool, true, false}
use mathlib.Core.List.{List}
use borrow.Author.Tests.{eqb-true, eqb-false}
use lib.ListN.{length, get_or, set, replicate, length-replicate, length-set, get_or-replicate}
use lib.Seq.{get_or-set_same, get_or-set_other}
use lib.Dec.{eqb}
use Rattle.bench.specs.Private.Chains.{IsNext, Chained}
use Rattle.bench.specs.declared.tables.Chains.{Chains}

-- the chains of the ends from e on
pub record ChainedFrom (links : ℕ) (places : List ℕ) (e : ℕ) (first next : List ℕ) : Type 0 where
  pub low : e ≤ 2 * links
  pub long : (length first ≡ 16) × (length next ≡ 64)
  pub firsts : (y : ℕ) → y < 16 → IsNext links places y e (get_or first y 0)
  pub nexts : (i : ℕ) → e ≤ i → i < 2 * links → IsNext links places (get_or places i 0) (suc i) (get_or next i 0)

module _ (links : ℕ) (places : List ℕ) (few : links ≤ 32) where
  -- no end yet
  no_end : (y n : ℕ) → n ≡ 2 * links → IsNext links places y (2 * links) n
  no_end y n is =
      record { from = omega arith; most = omega arith; its = λ low. absurd (omega arith); none = λ i from low same. absurd (omega arith) }

  pub chained-none : (n : ℕ) → n ≡ 2 * links → ChainedFrom links places (2 * links) (replicate 16 n) (replicate 64 n)
  chained-none n is =
      record {
        low = omega arith;
        long = (length-replicate {A = ℕ} 16 n, length-replicate {A = ℕ} 64 n);
        firsts = λ y h. no_end y _ (get_or-replicate 16 y n 0 h ∙ is);
        nexts = λ i from low. absurd (omega arith);
      }

  pub chained-all : (chains : Chains) → ChainedFrom links places 0 chains.first chains.next → Chained links places chains
  chained-all chains h = record { first = h.firsts; next = λ e low. h.nexts e (omega arith) low }

  -- end e, at bridge y, comes before those that follow it
  module _ (first next : List ℕ) (e y n : ℕ) (is : n ≡ suc e) (at : get_or places e 0 ≡ y) (bridge : y < 16) (h : ChainedFrom links places n first next) where
    abbrev behind : ℕ
    behind = get_or first y 0

    own : IsNext links places y e e
    own = record { from = omega arith; most = omega (arith, h.low); its = λ low. at; none = λ i from low same. absurd (omega arith) }

    -- an end of another bridge than y is looked for past e
    past : (z m : ℕ) → (z ≡ y → ⊥) → IsNext links places z n m → IsNext links places z e m
    past z m apart x =
        record { from = omega (arith, x.from); most = x.most; its = x.its; none = λ i from low same. go i from low same (eqb i e) refl }
      where
        go : (i : ℕ) → e ≤ i → i < m → get_or places i 0 ≡ z → (b : Bool) → eqb i e ≡ b → ⊥
        go i from low same true q = apart (sym same ∙ rw (eqb-true i e q) at)
        go i from low same false q = x.none i (omega (arith, eqb-false i e q)) low same

    first-with : (z : ℕ) → z < 16 → IsNext links places z e (get_or (set first y e) z 0)
    first-with z low = go (eqb z y) refl
      where
        go : (b : Bool) → eqb z y ≡ b → IsNext links places z e (get_or (set first y e) z 0)
        go true q = rw (eqb-true z y q, get_or-set_same first y e 0 (rw h.long.0 bridge)) own
        go false q = rw (get_or-set_other first y z e 0 (eqb-false z y q)) (past z _ (eqb-false z y q) (h.firsts z low))

    next-with : (i : ℕ) → e ≤ i → i < 2 * links → IsNext links places (get_or places i 0) (suc i) (get_or (set next e behind) i 0)
    next-with i from low = go (eqb i e) refl
      where
        go : (b : Bool) → eqb i e ≡ b → IsNext links places (get_or places i 0) (suc i) (get_or (set next e behind) i 0)
        go true q =
            rw (eqb-true i e q, get_or-set_same next e behind 0 (rw h.long.1 (omega (arith, h.low))), at, ← is) (h.firsts y bridge)
        go false q = rw (get_or-set_other next e i behind 0 (eqb-false i e q)) (h.nexts i (omega (arith, eqb-false i e q)) low)

    pub chained_more : ChainedFrom links places e (set first y e) (set next e behind)
    chained_more =
        record {
          low = omega (arith, h.low);
          long = (length-set first y e ∙ h.long.0, length-set next e behind ∙ h.long.1);
          firsts = first-with;
          nexts = next-with;
        }

-- what no end of another bridge changes is the same at the bridge's next end
module _ {A : Type 0} (f : ℕ → A) where
  same-on : (k m : ℕ) → ((i : ℕ) → m ≤ i → i < m + k → f i ≡ f (i + 1)) → f m ≡ f (m + k)
  same-on zero m each = let here : m ≡ m + 0 = omega arith in ap f here
  same-on (suc k) m each =
      let one : m + k + 1 ≡ m + suc k = omega arith in
      same-on k m (λ i from low. each i from (omega arith)) ∙ each (m + k) (omega arith) (omega arith) ∙ ap f one

  pub same-until :
      {links : ℕ} {places : List ℕ} {y e n : ℕ} →
      IsNext links places y e n →
      ((i : ℕ) → (get_or places i 0 ≡ y → ⊥) → f i ≡ f (i + 1)) →
      f e ≡ f n
  same-until {links} {places} {y} {e} {n} x each =
      let past : e + (n - e) ≡ n = omega (arith, x.from) in
      same-on (n - e) e (λ i from low. each i (x.none i from (omega arith))) ∙ ap f past

-- ---- along the ends of a bridge

pub next-own : {links : ℕ} {places : List ℕ} {chains : Chains} → Chained links places chains → {e y : ℕ} → e < 2 * links → get_or places e 0 ≡ y → IsNext links places y (suc e) (get_or chains.next e 0)
next-own h {e} {y} low own = rw own at (h.next e low)
