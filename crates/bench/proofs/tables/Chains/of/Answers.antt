use Prim.Native.Nat.{ℕ, ◌-◌}
use native.Mathlib.Omega.{arith}
use mathlib.Core.Path.{◌≡◌, refl}
use Rattle.bench.proofs.ChainLaws.{chained-none, chained_more, chained-all}
use Rattle.bench.proofs.tables.Chains.of.Goals as goal

pub loop-e-init : goal.loop-e-init
loop-e-init c = chained-none _ _ c.requires.0 _ refl

pub loop-e-preserved : goal.loop-e-preserved
loop-e-preserved c =
    let e : ℕ = c.loop-e.e - 1 in
    chained_more _ _ c.requires.0 _ _ e _ c.loop-e.e (omega arith) refl (c.requires.1 e (omega arith)) c.loop-e.invariant

pub returns : goal.returns
returns c = let none : c.loop-e.e ≡ 0 = omega arith in chained-all _ _ c.requires.0 _ (rw none at c.loop-e.invariant)
