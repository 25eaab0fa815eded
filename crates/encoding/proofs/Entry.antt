-- What a test at entry tells where the code goes on (`passed`) and where it turns back (`failed`). Assumes nothing.
use mathlib.Core.Bool.{Bool, true, false}
use mathlib.Core.Path.{◌≡◌, sym, ◌∙◌}

module _ {r test : Bool} (says : r ≡ test) where
  pub passed : r ≡ true → test ≡ true
  passed left = sym says ∙ left

  pub failed : r ≡ false → test ≡ false
  failed taken = sym says ∙ taken
