-- The limit tables that a caller lends: a row of 16 limits for each end, of which the first `bridges` are limits. Assumes nothing.
use Rattle.std.specs.Prelude.{ℕ, ◌+◌, ◌%◌, min, Bool, cond, ◌&&◌, not, List, eqb, ltb}
use Rattle.distances.specs.View.{NONE}
use Rattle.distances.specs.Table.{rewritten, is_in_row}
use Rattle.agreement.specs.declared.Rewrite.{Rewrite}
use Rattle.agreement.specs.declared.Rewrite.TheVariants.{Keep, Lower, Renew, Empty}

-- the table in which the limits of end e are f, and every other number is as before
unfoldable pub with_limits : ℕ → ℕ → (ℕ → ℕ) → List ℕ → List ℕ
with_limits bridges e f t = rewritten (is_in_row bridges e) (λ p. f (p % 16)) t

-- what becomes of a limit: it stays, it becomes the lesser of itself and the offer, it becomes the offer, it becomes NONE
unfoldable pub limit_after : Rewrite → ℕ → ℕ → ℕ
limit_after Keep old offer = old
limit_after Lower old offer = min old offer
limit_after Renew old offer = offer
limit_after Empty old offer = NONE

-- what becomes of a row
unfoldable pub row_after : Rewrite → (ℕ → ℕ) → (ℕ → ℕ) → ℕ → ℕ
row_after how offers row d = limit_after how (row d) (offers d)

-- an offer as a number that a limit holds: of a link with this cost, for a bridge at distance `near` whose far bridge is at distance
-- `far`; NONE where the sum is beyond NONE, which no distance in the ranges leads to
unfoldable pub limit_of : ℕ → ℕ → ℕ → ℕ
limit_of cost near far = min NONE (cond (not (eqb cost 0) && ltb near far) (cost + near) NONE)

-- a row becomes the offers, or stays
abbrev pub renewed : Bool → Rewrite
renewed test = cond test Renew Keep
