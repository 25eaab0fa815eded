-- An update that is turned down, that changes nothing, that moves its bridge. Assumes nothing.
use Prim.Native.Nat.{ℕ}
use mathlib.Core.Path.{◌≡◌, ◌∙◌}
use mathlib.Core.Bool.{true}
use mathlib.Core.List.{[]}
use borrow.Author.Tests.{eq-eqb, ne_eqb}
use lib.ListN.{get_or}
use Rattle.protocol.specs.Calls.{change, update, refuse}
use Rattle.bench.specs.State.{State}
use Rattle.bench.specs.Private.Views.{network_of}
use Rattle.bench.specs.Private.Changes.{ChangeOutcome, change_outcome, update_of}
use Rattle.bench.specs.Ranges.{network_in_range}
use Rattle.bench.specs.Private.Changes.{moved_to}
use Rattle.bench.proofs.EntryOutcomes.{goes_on}
use Rattle.bench.proofs.ChangeEntry.{update_same}

module _ (s : State) (y t k : ℕ) (ok : network_in_range s ≡ true) (is : k ≡ refuse (network_of s.bench []) (change (update y t))) where
  abbrev unmoved : ℕ → ChangeOutcome
  unmoved j = change_outcome j s.bench s.sent s.held

  pub changes-nothing : k ≡ 0 → get_or s.bench.view y 0 ≡ t → unmoved 0 ≡ update_of s y t
  unfolding update_of
  changes-nothing none there = rw (eq-eqb _ _ there) (goes_on _ _ _ unmoved _ ok _ (is ∙ update_same s _ _) none)

  pub moves-it : k ≡ 0 → (get_or s.bench.view y 0 ≡ t → ⊥) → moved_to s y t ≡ update_of s y t
  unfolding update_of
  moves-it none elsewhere = rw (ne_eqb _ _ elsewhere) (goes_on _ _ _ unmoved _ ok _ (is ∙ update_same s _ _) none)
