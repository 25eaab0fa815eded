-- One direction of a link: what the holder's record r says of the far bridge, whose agreement number is n and which was on view h m
-- under number m. What is held and what the far bridge still counts as sent stand as predicates, so that another rule with other rows
-- of limits can use the same lemmas: N says that nothing is held, H v that what view v gives is held, C v that the far bridge still
-- counts view v as sent. Assumes nothing.
use Prim.Native.Nat.{ℕ, ◌≤◌}
use mathlib.Core.Path.{◌≡◌}
use mathlib.Core.Logic.{◌⊎◌}
use Rattle.agreement.specs.declared.EndRecord.{EndRecord}
use Rattle.agreement.specs.declared.Agreement.{Agreement}
use Rattle.agreement.specs.Record.{no_view}

pub record Direction (N : Type 0) (H C : ℕ → Type 0) (h : ℕ → ℕ) (n : ℕ) (r : EndRecord) : Type 0 where
  -- the highest received number is one of the far bridge's, and a received view is the one that it had under that number
  pub received : r.received ≤ n
  pub known : (r.view ≡ no_view → ⊥) → (1 ≤ r.received) × (r.view ≡ h r.received)
  pub discarded : r.discarded ≤ r.received
  -- nothing is held, or the view of the discarded number is
  pub holds : N ⊎ ((1 ≤ r.discarded) × H (h r.discarded))
  -- the far bridge still counts every view from the discarded number on
  pub counts : (m : ℕ) → 1 ≤ m → r.discarded ≤ m → m ≤ n → C (h m)

-- a message in flight from the far bridge, s being the record of the end that sent it
pub record InFlight (h : ℕ → ℕ) (n : ℕ) (s : EndRecord) (m : Agreement) : Type 0 where
  pub least : 1 ≤ m.number
  pub most : m.number ≤ n
  pub view : m.view ≡ h m.number
  pub discarded : m.discarded ≤ s.discarded
