-- A bridge's own part of an update: what turns it down, whether the view changes, and the rise of its agreement number (docs/PROTOCOL.md,
-- "Events" and "What is refused"). What becomes of its ends is in Record. Assumes nothing.
use Rattle.std.specs.Prelude.{ℕ, suc, Bool, cond, ◌&&◌, not, List, [], ◌∷◌, eqb, ltb, Option, None, Some}
use Rattle.distances.specs.Refusal.{Check, check, refusal}
use Rattle.agreement.specs.Ranges.{is_view}
use Rattle.agreement.specs.Call.{Response, says}

-- "number is 65,535 and the view differs"
abbrev pub numbers_used_up : ℕ → ℕ → ℕ → Bool
numbers_used_up number present t = eqb number 65535 && not (eqb present t)

-- "the number rises by one"
abbrev pub next_number : ℕ → ℕ
next_number number = suc number

-- the rows of the table, from the top down: entry, then no such view, then no number left
unfoldable pub bridge_update_checks : ℕ → ℕ → ℕ → ℕ → List Check
bridge_update_checks views present number t =
    check (not (is_view views present)) 17 ∷ check (not (ltb t views)) 10 ∷ check (numbers_used_up number present t) 16 ∷ []

-- "If t is the present view, nothing changes. Otherwise the number rises by one": the number on the other view, None where the bridge stays
unfoldable pub bridge_updated : ℕ → ℕ → ℕ → Option ℕ
bridge_updated present number t = cond (eqb present t) None (Some (next_number number))

-- Update to view t of a bridge that is on view `present` of so many with this agreement number
unfoldable pub bridge_update_outcome : ℕ → ℕ → ℕ → ℕ → Response (Option ℕ)
bridge_update_outcome views present number t =
    let k : ℕ = refusal (bridge_update_checks views present number t) in
    cond (eqb k 0) (says (bridge_updated present number t)) (record { number = k; value = [] })

-- what it says in two numbers: whether the bridge moves to another view, and its agreement number there (0 where it stays)
abbrev pub bridge_update_numbers : Option ℕ → List ℕ
bridge_update_numbers None = 0 ∷ 0 ∷ []
bridge_update_numbers (Some number) = 1 ∷ number ∷ []
