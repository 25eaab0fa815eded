-- Cut and restore as one call: what turns it down, and what it does. Assumes nothing.
use Prim.Native.Nat.{ℕ, ◌*◌, ◌<◌}
use mathlib.Core.Path.{◌≡◌, refl, ◌∙◌, ap}
use mathlib.Core.Bool.{Bool, true, false, cond, not, beq}
use mathlib.Core.List.{List, [], ◌∷◌}
use Rattle.protocol.specs.Net.{Network}
use Rattle.protocol.specs.Calls.{change, refusal, no_such_bridge, no_such_link, not_on_link, already, change_checks, checks, refuse, end_of, with_end, after_change}
use Rattle.protocol.proofs.Links.{end_of-below}
use Rattle.bench.specs.State.{State, network}
use Rattle.bench.specs.Private.Views.{network_of}
use Rattle.bench.specs.Private.Changes.{switch, own_end}
use Rattle.bench.specs.Ranges.{bench_in_range}
use Rattle.bench.specs.Outcomes.{ready_for}
use Rattle.bench.specs.declared.Bench.{Bench}
use Rattle.bench.proofs.EntryOutcomes.{link-listed}

-- a flag that is as wanted: it stands, or it does not
pub as-flag : (x down : Bool) → beq x down ≡ cond down x (not x)
as-flag true true = refl
as-flag true false = refl
as-flag false true = refl
as-flag false false = refl

module _ (y l : ℕ) where
  pub switch-checks : (n : Network) (down : Bool) → no_such_bridge n y ∷ no_such_link n l ∷ not_on_link n y l ∷ already n down (end_of n.plan.graph y l) ∷ [] ≡ change_checks n (switch down y l)
  unfolding change_checks
  switch-checks n true = refl
  switch-checks n false = refl

  pub switch-refuses :
      (n : Network) (down : Bool) {k : ℕ} →
      k ≡ refusal (no_such_bridge n y ∷ no_such_link n l ∷ not_on_link n y l ∷ already n down (end_of n.plan.graph y l) ∷ []) →
      k ≡ refuse n (change (switch down y l))
  unfolding refuse checks
  switch-refuses n down same = same ∙ ap refusal (switch-checks n down)

  pub switch-after : (n : Network) (down : Bool) → after_change n (switch down y l) ≡ with_end n (end_of n.plan.graph y l) down
  unfolding after_change
  switch-after n true = refl
  switch-after n false = refl

  pub switch-range : (s : State) (down : Bool) → ready_for s (change (switch down y l)) ≡ bench_in_range s.bench
  unfolding ready_for
  switch-range s true = refl
  switch-range s false = refl

  -- the bench alone tells the refusal
  pub switch-same : (s : State) (down : Bool) → refuse (network_of s.bench []) (change (switch down y l)) ≡ refuse (network s) (change (switch down y l))
  unfolding refuse checks change_checks no_such_bridge no_such_link not_on_link already
  switch-same s true = refl
  switch-same s false = refl

  -- an accepted one is at an end that there is
  pub switch-listed : (n : Network) (down : Bool) → refuse n (change (switch down y l)) ≡ 0 → l < n.plan.graph.links
  unfolding refuse checks
  switch-listed n down none = link-listed n y l _ (ap refusal (switch-checks n down) ∙ none)

  pub switch-end : (b : Bench) (m : List ℕ) (down : Bool) → refuse (network_of b m) (change (switch down y l)) ≡ 0 → own_end b y l < 2 * b.links
  switch-end b m down none = end_of-below _ y l b.links (switch-listed (network_of b m) down none)
