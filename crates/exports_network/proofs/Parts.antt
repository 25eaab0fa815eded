-- A list whose element at each place is f of the number at that place of a part. Assumes nothing.
use Prim.Native.Nat.{ℕ, zero, suc, ◌+◌, ◌<◌, ◌≤◌}
use native.Mathlib.Omega.{arith}
use mathlib.Core.List.{List}
use mathlib.Core.Path.{◌≡◌, refl, sym, ◌∙◌}
use lib.ListN.{length, get_or, take, drop}
use lib.Seq.{take-suc, take_all}
use Rattle.std.proofs.lemmas.List.{get_or-take, get_or-drop}
use Rattle.encoding.specs.Numbers.{tabulated}
use lib.Dec.{ltb}
use mathlib.Core.Bool.{Bool}
use native.Mathlib.Numerals.{add-one}
use lib.ListN.{length-drop}
use Rattle.std.specs.List.{list_all}
use Rattle.std.proofs.lemmas.List.Folds.{list_all_more}
use Rattle.distances.specs.Call.{all_below}
use Rattle.exports_network.specs.Network.{each, each_below}

module _ {B : Type 0} (f : ℕ → B) (d : B) (xs ps : List ℕ) (ys : List B) where
  fronts : (g : ℕ → B) (m : ℕ) → m ≤ length ys → ((i : ℕ) → i < m → get_or ys i d ≡ g i) → take m ys ≡ tabulated m g
  unfolding tabulated
  fronts g zero few here = refl
  fronts g (suc m) few here = rw (take-suc ys m d (omega arith), fronts g m (omega arith) (λ i h. here i (omega arith)), here m (omega arith))

  pub each_is : (n k : ℕ) → ps ≡ take n (drop k xs) → length ys ≡ n → ((i : ℕ) → i < n → get_or ys i d ≡ f (get_or ps i 0)) → ys ≡ each n k f xs
  each_is n k part long here =
      sym (take_all n ys (omega arith))
      ∙ fronts (λ i. f (get_or xs (k + i) 0)) n (omega arith) (λ i h. here i h ∙ rw (part, get_or-take n (drop k xs) i 0 h, get_or-drop k xs i 0))
