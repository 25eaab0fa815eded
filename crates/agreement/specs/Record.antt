-- The record of a link end and what becomes of it and of its two rows of limits (document 01, "Records of a bridge" and "Events").
-- A row of limits is a function of the destination. Assumes nothing.
use Rattle.std.specs.Prelude.{ℕ, min, Bool, true, false, cond, ◌&&◌, not, List, [], ◌∷◌, eqb, ltb}
use Rattle.distances.specs.View.{NONE}
use Rattle.agreement.specs.declared.EndRecord.{EndRecord}
use Rattle.agreement.specs.declared.Agreement.{Agreement}
use Rattle.agreement.specs.declared.Answer.{Answer}
use Rattle.agreement.specs.declared.Answer.TheVariants.{Stale, Agreed, Noted}

-- the received view of a record that has received none
abbrev pub no_view : ℕ
no_view = 255

-- a fresh end: numbers 0, no view received, nothing held
abbrev pub fresh_record : EndRecord
fresh_record = record { received = 0; view = no_view; discarded = 0; holding = false }

-- "held limit": NONE if none is held, whatever the row has
abbrev pub held_limit : EndRecord → (ℕ → ℕ) → ℕ → ℕ
held_limit r held d = cond r.holding (held d) NONE

-- Update to view t, which differs from the present one.
-- At an end whose last received view is t, t becomes the held view and the discarded number the highest received number
unfoldable pub updated : ℕ → EndRecord → EndRecord
updated t r =
    cond (eqb r.view t)
    (record { received = r.received; view = r.view; discarded = r.received; holding = true })
    r

-- each sent limit becomes the lesser of itself and the offer in t
unfoldable pub sent_updated : (ℕ → ℕ) → (ℕ → ℕ) → ℕ → ℕ
sent_updated offers sent d = min (sent d) (offers d)

-- the held row: the far bridge's offers in t where t is now held, else as before
unfoldable pub held_updated : ℕ → EndRecord → (ℕ → ℕ) → (ℕ → ℕ) → ℕ → ℕ
held_updated t r far_offers held d = cond (eqb r.view t) (far_offers d) (held d)

-- what a send carries
abbrev pub carried : ℕ → ℕ → EndRecord → Agreement
carried view number r = record { view = view; number = number; discarded = r.discarded }

-- A delivery to a bridge on view v with agreement number n.
-- "stale": its number is below the highest received; "agreed": its view is the receiver's
unfoldable pub is_stale : EndRecord → Agreement → Bool
is_stale r m = ltb m.number r.received

unfoldable pub is_agreed : ℕ → Agreement → Bool
is_agreed v m = eqb m.view v

-- "noted" otherwise
unfoldable pub answer : ℕ → EndRecord → Agreement → Answer
answer v r m =
    cond (is_stale r m) Stale (cond (is_agreed v m) (Agreed m.number m.view) (Noted m.number m.view))

-- what a delivery answered, in three numbers: 0 stale; 1 agreed, 2 noted, with the number and the view taken
abbrev pub answer_numbers : Answer → List ℕ
answer_numbers Stale = 0 ∷ 0 ∷ 0 ∷ []
answer_numbers (Agreed n v) = 1 ∷ n ∷ v ∷ []
answer_numbers (Noted n v) = 2 ∷ n ∷ v ∷ []

-- the record afterwards, by the answer: unless stale the number and view are recorded; when agreed that view is the one held
-- and the discarded number is the message's number
unfoldable pub recorded : EndRecord → Answer → EndRecord
recorded r Stale = r
recorded r (Agreed number view) = record { received = number; view = view; discarded = number; holding = true }
recorded r (Noted number view) = record { received = number; view = view; discarded = r.discarded; holding = r.holding }

-- unless stale, if its discarded number equals the receiver's own agreement number, the sent limits are cleared:
-- they become the offers in the receiver's present view
unfoldable pub is_clearing : ℕ → EndRecord → Agreement → Bool
is_clearing n r m = not (is_stale r m) && eqb m.discarded n

unfoldable pub sent_delivered : ℕ → EndRecord → Agreement → (ℕ → ℕ) → (ℕ → ℕ) → ℕ → ℕ
sent_delivered n r m offers sent d = cond (is_clearing n r m) (offers d) (sent d)

-- when agreed, the held row becomes the sender's offers in that view, which is the receiver's
unfoldable pub held_delivered : ℕ → EndRecord → Agreement → (ℕ → ℕ) → (ℕ → ℕ) → ℕ → ℕ
held_delivered v r m far_offers held d = cond (not (is_stale r m) && is_agreed v m) (far_offers d) (held d)
