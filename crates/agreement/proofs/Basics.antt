-- Small laws of lists and tests. Assumes nothing.
use Prim.Native.Nat.{ℕ, zero, suc, ◌+◌, ◌<◌}
use native.Mathlib.Nat.{not-suc-le-zero, le_of_suc-le-suc}
use native.Mathlib.Numerals.{add-one}
use mathlib.Core.Bool.{Bool, ◌&&◌}
use mathlib.Core.List.{List, [], ◌∷◌}
use mathlib.Core.Path.{◌≡◌, refl, ◌∙◌}
use lib.ListN.{length, get_or}
use Rattle.distances.specs.Call.{all_below}
use Rattle.distances.proofs.Ranges.{all_below-more}

-- inside a list the default does not matter
pub get_d_default : {A : Type 0} (l : List A) (i : ℕ) (d e : A) → i < length l → get_or l i d ≡ get_or l i e
get_d_default [] i d e h = absurd (not-suc-le-zero h)
get_d_default (x ∷ xs) zero d e h = refl
get_d_default (x ∷ xs) (suc i) d e h = get_d_default xs i d e (le_of_suc-le-suc h)

-- ---- a test of every number below n

pub all_more : (n : ℕ) (test : ℕ → Bool) {ok t r : Bool} → r ≡ (ok && t) → ok ≡ all_below n test → t ≡ test n → r ≡ all_below (n + 1) test
all_more n test e d h = e ∙ rw (add-one, all_below-more, d, h)
