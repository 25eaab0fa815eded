-- What each exported call over messages as structs does, for every input: the call of the same name over the first 320 numbers of the
-- messages; fewer are refused first. Assumes nothing.
use Rattle.std.specs.Prelude.{ℕ, List, [], ◌∷◌, ◌++◌, length, take, drop, leb}
use Rattle.encoding.specs.Replies.{CallOutcome, call_outcome, if_long}
use Rattle.exports_network.specs.Network.{net_send_reply, net_lose_reply, net_deliver_reply, net_repeat_reply}
use Rattle.bench.specs.Sizes.{flight_numbers}

-- the rest behind the last list
abbrev pub followed : List ℕ → List (List ℕ) → List (List ℕ)
followed rest [] = []
followed rest (l ∷ []) = (l ++ rest) ∷ []
followed rest (l ∷ m ∷ ls) = l ∷ followed rest (m ∷ ls)

-- the call over the first 320 numbers of the messages, which it tells last; the rest is as it was, and where there are fewer, every list is
abbrev pub over_first : List (List ℕ) → List ℕ → (List ℕ → CallOutcome) → CallOutcome
over_first lists messages call =
    let t : CallOutcome = call (take flight_numbers messages) in
    if_long (leb flight_numbers (length messages)) lists (call_outcome t.reply (followed (drop flight_numbers messages) t.lists))

abbrev pub slice_send_reply : List ℕ → List ℕ → ℕ → ℕ → CallOutcome
slice_send_reply xs messages y l = over_first (xs ∷ messages ∷ []) messages (λ m. net_send_reply xs m y l)

abbrev pub slice_lose_reply : List ℕ → List ℕ → ℕ → CallOutcome
slice_lose_reply xs messages p = over_first (xs ∷ messages ∷ []) messages (λ m. net_lose_reply xs m p)

abbrev pub slice_deliver_reply : List ℕ → List ℕ → List ℕ → List ℕ → List ℕ → List ℕ → ℕ → CallOutcome
slice_deliver_reply xs costs sent held messages out p =
    over_first (xs ∷ out ∷ sent ∷ held ∷ messages ∷ []) messages (λ m. net_deliver_reply xs costs sent held m out p)

abbrev pub slice_repeat_reply : List ℕ → List ℕ → List ℕ → List ℕ → List ℕ → List ℕ → ℕ → CallOutcome
slice_repeat_reply xs costs sent held messages out p =
    over_first (xs ∷ out ∷ sent ∷ held ∷ messages ∷ []) messages (λ m. net_repeat_reply xs costs sent held m out p)
