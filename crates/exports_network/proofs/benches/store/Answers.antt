use borrow.Author.Tests.{lt-ltb, le-ltb, ltb-true, ltb-false}
use Prim.Native.Nat.{ℕ, ◌≤◌, ◌<◌, ◌+◌}
use native.Mathlib.Omega.{arith}
use mathlib.Core.Path.{◌≡◌, ◌∙◌, refl, sym}
use mathlib.Core.Bool.{Bool, true, false}
use mathlib.Core.List.{List}
use Rattle.bench.specs.declared.Bench.{Bench}
use lib.Dec.{ltb}
use lib.ListN.{length, set}
use Rattle.exports_network.specs.Network.{number_at, stored}
use Rattle.distances.proofs.Tables.{rewritten-none, rewritten-set}
use Rattle.distances.specs.Table.{rewritten}
use Rattle.exports_network.proofs.benches.store.Goals as goal

-- below k + 1 and not k is below k
below-same : (q k : ℕ) → (q ≡ k → ⊥) → ltb q k ≡ ltb q (k + 1)
below-same q k other = go (ltb q k) refl
  where
    go : (t : Bool) → ltb q k ≡ t → t ≡ ltb q (k + 1)
    go true e = let h : q < k = ltb-true q k e in sym (lt-ltb q (k + 1) (omega arith))
    go false e = let h : k ≤ q = ltb-false q k e in sym (le-ltb q (k + 1) (omega arith))

-- one number more
stored_more :
    (b : Bench) (xs : List ℕ) (k : ℕ) (l : List ℕ) (x : ℕ) →
    k < length xs →
    l ≡ rewritten (λ q. ltb q k) (number_at b) xs →
    x ≡ number_at b k →
    set l k x ≡ rewritten (λ q. ltb q (k + 1)) (number_at b) xs
stored_more b xs k l x h same here =
    rw same
    (rewritten-set (λ q. ltb q k) (λ q. ltb q (k + 1)) (number_at b) xs k x h (here ∙ rw (lt-ltb k (k + 1) (omega arith)))
    (λ q other. below-same q k other))

pub loop-k-init : goal.loop-k-init
loop-k-init c = rewritten-none _ _ _ (λ q. le-ltb q 0 (omega arith))

pub loop-k-preserved : goal.loop-k-preserved
loop-k-preserved c = stored_more c.args.bench.now c.args.numbers.now c.loop-k.k c.loop-k.numbers c.number_at.result (omega arith) c.loop-k.invariant c.number_at.ensures

pub returns : goal.returns
unfolding stored
returns c = let e : c.loop-k.k ≡ 420 = omega arith in rw e at c.loop-k.invariant
