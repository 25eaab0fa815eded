-- What an exported call does: its reply's number, and every list that it may write. Assumes nothing.
use Rattle.std.specs.Prelude.{ℕ, Bool, cond, List, [], ◌∷◌, eqb}
use Rattle.std.proofs.lemmas.List.Edits.{sets}
use Rattle.agreement.specs.Call.{Response}

-- a reply's number, and the lists that the call may write, afterwards
pub record CallOutcome : Type 0 where
  pub reply : ℕ
  pub lists : List (List ℕ)

abbrev pub call_outcome : ℕ → List (List ℕ) → CallOutcome
call_outcome reply lists = record { reply = reply; lists = lists }

-- the numbers of what a reply brings stand at the front of the list; it is as before where the reply brings nothing
unfoldable pub with_value : {A : Type 0} → (A → List ℕ) → List ℕ → List A → List ℕ
with_value numbers old [] = old
with_value numbers old (x ∷ xs) = sets old 0 (numbers x)

abbrev pub value_reply : {A : Type 0} → (A → List ℕ) → List ℕ → Response A → CallOutcome
value_reply numbers out s = call_outcome s.number (with_value numbers out s.value ∷ [])

-- the new numbers stand at the front of the list where the call was not refused, else it is as before
abbrev pub with_numbers : ℕ → List ℕ → List ℕ → List ℕ
with_numbers reply old new = cond (eqb reply 0) (sets old 0 new) old

-- refused with every list as it was, where the test fails
abbrev pub if_long : Bool → List (List ℕ) → CallOutcome → CallOutcome
if_long test lists t = cond test t (call_outcome 17 lists)
