-- Hops along which a rank falls close no ring. Assumes nothing.
use Prim.Native.Nat.{ℕ, ◌≤◌, ◌<◌}
use native.Mathlib.Omega.{arith}
use Rattle.protocol.specs.Rings.{Trail, stay, cross, NoRing}

module _ (Hops : ℕ → ℕ → ℕ → Type 0) (rank : ℕ → ℕ) (falls : (y l z : ℕ) → Hops y l z → rank z < rank y) where
  -- by any number of hops it does not grow
  trail-rank : {y k w : ℕ} → Trail Hops y k w → rank w ≤ rank y
  trail-rank stay = omega arith
  trail-rank (cross {y = y} {l = l} {z = z} first rest) = omega (arith, falls y l z first, trail-rank rest)

  pub falling-no-ring : NoRing Hops
  falling-no-ring y k (cross {l = l} {z = z} first rest) = omega (arith, falls y l z first, trail-rank rest)
