-- Rounds within a list of calls (document 01, "Events", last part; document 02, Change 1). A message is named by its place, followed through later calls.
-- Assumes nothing.
use Rattle.std.specs.Prelude.{ℕ, ◌*◌, ◌-◌, Bool, true, false, cond, ◌&&◌, ◌||◌, not, List, [], ◌∷◌, length, eqb, ltb}
use Rattle.distances.specs.Call.{all_below}
use Rattle.agreement.specs.Forwarding.{is_up}
use Rattle.protocol.specs.Net.{Network}
use Rattle.protocol.specs.Calls.{Call, change, send, deliver, repeat, lose, port, verdict, report, path, accepted, step, end_of}

-- what becomes of a message by a call: it is delivered (and may stay in), it is lost, or it waits, perhaps at another place
pub data MessageStatus : Type 0 where
  taken lost : MessageStatus
  waits : ℕ → MessageStatus

-- later ones move up by one
unfoldable pub moved_up : ℕ → ℕ → ℕ
moved_up q p = cond (ltb q p) (p - 1) p

-- of the message at place p, by an accepted call
unfoldable pub message_status : Call → ℕ → MessageStatus
message_status (change x) p = waits p
message_status (send b l) p = waits p
message_status (deliver q) p = cond (eqb q p) taken (waits (moved_up q p))
message_status (repeat q) p = cond (eqb q p) taken (waits p)
message_status (lose q) p = cond (eqb q p) lost (waits (moved_up q p))
message_status (port b d) p = waits p
message_status (verdict b d) p = waits p
message_status (report d) p = waits p
message_status (path s d) p = waits p

-- by any call: a refused one leaves it where it is
unfoldable pub status_by : Network → Call → ℕ → MessageStatus
status_by n c p = cond (accepted n c) (message_status c p) (waits p)

unfoldable pub or_later : (ℕ → Bool) → MessageStatus → Bool
or_later later taken = true
or_later later lost = false
or_later later (waits q) = later q

-- the message at place p is delivered by some accepted deliver or repeat of the list
unfoldable pub is_delivered : Network → List Call → ℕ → Bool
is_delivered n [] p = false
is_delivered n (c ∷ cs) p = or_later (is_delivered (step n c) cs) (status_by n c p)

-- the call is an accepted send from end e
unfoldable pub is_send_from : Network → ℕ → Call → Bool
is_send_from n e (change x) = false
is_send_from n e (send b l) = accepted n (send b l) && eqb (end_of n.plan.graph b l) e
is_send_from n e (deliver q) = false
is_send_from n e (repeat q) = false
is_send_from n e (lose q) = false
is_send_from n e (port b d) = false
is_send_from n e (verdict b d) = false
is_send_from n e (report d) = false
is_send_from n e (path s d) = false

-- some accepted send of the list is from end e, and its message is delivered later in the list
unfoldable pub is_sent_and_delivered : Network → List Call → ℕ → Bool
is_sent_and_delivered n [] e = false
is_sent_and_delivered n (c ∷ cs) e = is_send_from n e c && is_delivered (step n c) cs (length n.messages) || is_sent_and_delivered (step n c) cs e

-- the list holds a "round": "every bridge sends over each of its uncut links, and all those messages are delivered". By ends: over each of its
-- links that is up at its end; where every link is uncut or cut, as in the settling statement, these are the same
unfoldable pub has_round : Network → List Call → Bool
has_round n cs = all_below (2 * n.plan.graph.links) (λ e. not (is_up n.records e) || is_sent_and_delivered n cs e)

-- update, cut and restore
unfoldable pub is_change : Call → Bool
is_change (change x) = true
is_change (send b l) = false
is_change (deliver q) = false
is_change (repeat q) = false
is_change (lose q) = false
is_change (port b d) = false
is_change (verdict b d) = false
is_change (report d) = false
is_change (path s d) = false

-- the list has no accepted update, cut or restore
unfoldable pub has_no_change : Network → List Call → Bool
has_no_change n [] = true
has_no_change n (c ∷ cs) = not (is_change c && accepted n c) && has_no_change (step n c) cs
