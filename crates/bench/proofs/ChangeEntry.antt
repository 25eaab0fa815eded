-- What the entry checks and the table tell the calls that rewrite a bench. Assumes nothing.
use Prim.Native.Nat.{ℕ, ◌<◌}
use native.Mathlib.Omega.{arith}
use mathlib.Core.Path.{◌≡◌, refl, sym, ◌∙◌}
use mathlib.Core.Bool.{true, ◌&&◌, false≢true}
use mathlib.Core.List.{List, []}
use borrow.Author.Tests.{eq-eqb, ne_eqb}
use Rattle.distances.proofs.Booleans.{both_true}
use Rattle.protocol.specs.Net.{Network}
use Rattle.protocol.specs.Calls.{change, update, no_such_bridge, no_such_view, no_number_left, change_checks, checks, refuse, accepted}
use Rattle.bench.specs.State.{State, network}
use Rattle.bench.specs.Private.Views.{network_of}
use Rattle.bench.specs.Ranges.{graph_in_range, costs_in_range, limits_long}
use Rattle.bench.specs.declared.Bench.{Bench}
use Rattle.protocol.proofs.Accepted.{UpdateExists, update-listed}
use Rattle.bench.proofs.TieRanges.{LastingOf, lasting-told}

module _ (b : Bench) (costs : List ℕ) (sent held : ℕ) where
  -- what no call changes, told by the parts of an entry check
  rows-lasting : graph_in_range b ≡ true → (costs_in_range b costs && limits_long sent held) ≡ true → LastingOf b costs
  rows-lasting graph ok = lasting-told b costs graph (both_true (costs_in_range b costs) _ ok).0

  -- what `fresh` checks
  pub plan-lasting : (graph_in_range b && (costs_in_range b costs && limits_long sent held)) ≡ true → LastingOf b costs
  plan-lasting ok = let g = both_true (graph_in_range b) _ ok in rows-lasting g.0 g.1

-- an update's checks read the bench alone
pub update_same : (s : State) (y t : ℕ) → refuse (network_of s.bench []) (change (update y t)) ≡ refuse (network s) (change (update y t))
unfolding refuse checks change_checks no_such_bridge no_such_view no_number_left
update_same s y t = refl

module _ (n : Network) (y t : ℕ) where
  pub update-told : {k : ℕ} → k ≡ refuse n (change (update y t)) → k ≡ 0 → UpdateExists n y t
  unfolding accepted
  update-told e none = update-listed n y t (eq-eqb _ _ (sym e ∙ none))

  -- a bridge that goes to another view has a number left
  pub number-left : UpdateExists n y t → n.number y < 65536 → (n.view y ≡ t → ⊥) → n.number y < 65535
  number-left listed fits other =
      let some : n.number y ≡ 65535 → ⊥ = λ e. false≢true (sym (rw (eq-eqb _ _ e, ne_eqb _ _ other) at listed.number_left)) in
      omega arith
