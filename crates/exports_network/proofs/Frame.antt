-- What follows either way of a test, from what is known in each. Assumes nothing.
use Rattle.std.proofs.Common.{◌≡◌, Bool, true, false, MatchBool, refl}

pub either_way : {P Q R : Type 0} (b : Bool) → MatchBool b P Q → (b ≡ true → P → R) → (b ≡ false → Q → R) → R
either_way true p f g = f refl p
either_way false q f g = g refl q

-- the same, where only the test is known
pub in_both : {R : Type 0} (b : Bool) → (b ≡ true → R) → (b ≡ false → R) → R
in_both true f g = f refl
in_both false f g = g refl
