-- Rings of hops, whatever makes the hops. A relation of hops says from which bridge, over which link, to which bridge. Assumes nothing.
use Rattle.std.specs.Prelude.{ℕ, suc}

-- from one bridge, by k hops, to another
pub data Trail (Hops : ℕ → ℕ → ℕ → Type 0) : ℕ → ℕ → ℕ → Type 0 where
  stay : {y : ℕ} → Trail Hops y 0 y
  cross : {y l z k w : ℕ} → Hops y l z → Trail Hops z k w → Trail Hops y (suc k) w

-- no "ring": one or more hops from a bridge are never back at the start
abbrev pub NoRing : (ℕ → ℕ → ℕ → Type 0) → Type 0
NoRing Hops = (y k : ℕ) → Trail Hops y (suc k) y → ⊥
