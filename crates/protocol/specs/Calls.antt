-- The calls, what turns each down, and what each does (document 01, "Events" and "Where input is turned down"; document 02, Changes 1 and 2).
-- Assumes nothing.
use Rattle.std.specs.Prelude.{ℕ, suc, ◌+◌, ◌*◌, ◌%◌, Bool, true, false, cond, ◌||◌, not, List, [], ◌∷◌, ◌++◌, length, get_or, take, drop, eqb, leb, ltb}
use Rattle.distances.specs.View.{Graph}
-- the table of refusals: a row is a condition and its number; the first that applies
pub use Rattle.distances.specs.Refusal.{Check}
unfoldable pub use Rattle.distances.specs.Refusal.{refusal}
use Rattle.agreement.specs.Offer.{opposite}
use Rattle.agreement.specs.Record.{carried, updated, sent_updated, held_updated, answer, recorded, sent_delivered, held_delivered}
use Rattle.agreement.specs.Update.{numbers_used_up, next_number}
use Rattle.agreement.specs.Forwarding.{Records, is_down}
use Rattle.agreement.specs.declared.Answer.{Answer}
use Rattle.agreement.specs.declared.EndRecord.{EndRecord}
use Rattle.protocol.specs.Net.{Network, Message, receiver, offer_in}

-- update b t, cut b l, restore b l: those that the settling statement bars
pub data Change : Type 0 where
  update cut restore : ℕ → ℕ → Change

-- send b l; deliver, repeat, lose at a place; port b d, verdict b d, report d and path s d only ask
pub data Call : Type 0 where
  change : Change → Call
  send : ℕ → ℕ → Call
  deliver repeat lose : ℕ → Call
  port verdict : ℕ → ℕ → Call
  report : ℕ → Call
  path : ℕ → ℕ → Call

-- 10: no such bridge, view or link
unfoldable pub no_such_bridge : Network → ℕ → Check
no_such_bridge n b = record { when = not (ltb b n.plan.graph.bridges); number = 10 }

unfoldable pub no_such_view : Network → ℕ → Check
no_such_view n t = record { when = not (ltb t n.plan.views); number = 10 }

unfoldable pub no_such_link : Network → ℕ → Check
no_such_link n l = record { when = not (ltb l n.plan.graph.links); number = 10 }

-- 16: the number is 65,535 and the view differs
unfoldable pub no_number_left : Network → ℕ → ℕ → Check
no_number_left n b t = record { when = numbers_used_up (n.number b) (n.view b) t; number = 16 }

-- 11: the bridge is not on the link
unfoldable pub not_on_link : Network → ℕ → ℕ → Check
not_on_link n b l =
    record { when = not (eqb (n.plan.graph.bridge_at (2 * l)) b || eqb (n.plan.graph.bridge_at (2 * l + 1)) b); number = 11 }

-- the end of link l at bridge b
unfoldable pub end_of : Graph → ℕ → ℕ → ℕ
end_of g b l = cond (eqb (g.bridge_at (2 * l)) b) (2 * l) (2 * l + 1)

-- 13: the end concerned is down
unfoldable pub end_down : Network → ℕ → Check
end_down n e = record { when = is_down n.records e; number = 13 }

-- 14: already 64 in flight
unfoldable pub no_room : Network → Check
no_room n = record { when = leb 64 (length n.messages); number = 14 }

-- 15: no message at that place
unfoldable pub no_message : Network → ℕ → Check
no_message n p = record { when = not (ltb p (length n.messages)); number = 15 }

-- 12: the end is already so, down or up
unfoldable pub already : Network → Bool → ℕ → Check
already n down e = record { when = cond down (is_down n.records e) (not (is_down n.records e)); number = 12 }

-- what stands for a message at a place where there is none
abbrev pub no_message_there : Message
no_message_there = record { link = 0; direction = 0; agreement = record { view = 0; number = 0; discarded = 0 } }

-- the message at place p
abbrev pub message_at : Network → ℕ → Message
message_at n p = get_or n.messages p no_message_there

unfoldable pub change_checks : Network → Change → List Check
change_checks n (update b t) = no_such_bridge n b ∷ no_such_view n t ∷ no_number_left n b t ∷ []
change_checks n (cut b l) = no_such_bridge n b ∷ no_such_link n l ∷ not_on_link n b l ∷ already n true (end_of n.plan.graph b l) ∷ []
change_checks n (restore b l) = no_such_bridge n b ∷ no_such_link n l ∷ not_on_link n b l ∷ already n false (end_of n.plan.graph b l) ∷ []

unfoldable pub checks : Network → Call → List Check
checks n (change x) = change_checks n x
checks n (send b l) = no_such_bridge n b ∷ no_such_link n l ∷ not_on_link n b l ∷ end_down n (end_of n.plan.graph b l) ∷ no_room n ∷ []
checks n (deliver p) = no_message n p ∷ end_down n (receiver (message_at n p)) ∷ []
checks n (repeat p) = no_message n p ∷ end_down n (receiver (message_at n p)) ∷ []
checks n (lose p) = no_message n p ∷ []
checks n (port b d) = no_such_bridge n b ∷ no_such_bridge n d ∷ []
checks n (verdict b d) = no_such_bridge n b ∷ no_such_bridge n d ∷ []
checks n (report d) = no_such_bridge n d ∷ []
checks n (path s d) = no_such_bridge n s ∷ no_such_bridge n d ∷ []

unfoldable pub refuse : Network → Call → ℕ
refuse n c = refusal (checks n c)

unfoldable pub accepted : Network → Call → Bool
accepted n c = eqb (refuse n c) 0

-- the network with other records, or with other messages
abbrev pub with_records : Network → Records → Network
with_records n r = record { plan = n.plan; view = n.view; number = n.number; records = r; messages = n.messages }

abbrev pub with_messages : Network → List Message → Network
with_messages n ms = record { plan = n.plan; view = n.view; number = n.number; records = n.records; messages = ms }

-- Update of bridge b to view t, which is not the present one: its number rises by one, and each of its ends is updated
unfoldable pub moved : Network → ℕ → ℕ → Network
moved n b t =
    record {
      plan = n.plan;
      view = λ z. cond (eqb z b) t (n.view z);
      number = λ z. cond (eqb z b) (next_number (n.number z)) (n.number z);
      records =
          record {
            down = n.records.down;
            ends = λ e. cond (eqb (n.plan.graph.bridge_at e) b) (updated t (n.records.ends e)) (n.records.ends e);
            sent =
                λ e. cond (eqb (n.plan.graph.bridge_at e) b) (sent_updated (offer_in n.plan t e) (n.records.sent e))
                (n.records.sent e);
            held =
                λ e. cond (eqb (n.plan.graph.bridge_at e) b)
                (held_updated t (n.records.ends e) (offer_in n.plan t (opposite e)) (n.records.held e))
                (n.records.held e);
          };
      messages = n.messages;
    }

-- "If t is the present view, nothing changes"
unfoldable pub updated_to : Network → ℕ → ℕ → Network
updated_to n b t = cond (eqb (n.view b) t) n (moved n b t)

-- Cut and restore "act on that end": records and messages in flight are retained
unfoldable pub with_end : Network → ℕ → Bool → Network
with_end n e down =
    with_records n
    (record {
      down = λ k. cond (eqb k e) down (n.records.down k);
      ends = n.records.ends;
      sent = n.records.sent;
      held = n.records.held;
    })

-- Send of bridge b over link l
unfoldable pub message_of : Network → ℕ → ℕ → Message
message_of n b l =
    record {
      link = l;
      direction = end_of n.plan.graph b l % 2;
      agreement = carried (n.view b) (n.number b) (n.records.ends (end_of n.plan.graph b l));
    }

unfoldable pub sent_over : Network → ℕ → ℕ → Network
sent_over n b l = with_messages n (n.messages ++ (message_of n b l ∷ []))

-- the messages without the one at place p: later ones move up by one
unfoldable pub without : ℕ → List Message → List Message
without p ms = take p ms ++ drop (suc p) ms

-- what a delivery of message m at end e answers: stale, agreed or noted, by the record and the view there
abbrev pub answer_to : Network → ℕ → Message → Answer
answer_to n e m = answer (n.view (n.plan.graph.bridge_at e)) (n.records.ends e) m.agreement

-- what the message at place p is answered, if it is delivered: at the end opposite to its sender
abbrev pub answer_at : Network → ℕ → Answer
answer_at n p = answer_to n (receiver (message_at n p)) (message_at n p)

-- Message m at end e
unfoldable pub received_at : Network → ℕ → Message → Network
received_at n e m =
    let b : ℕ = n.plan.graph.bridge_at e in
    let old : EndRecord = n.records.ends e in
    with_records n
    (record {
      down = n.records.down;
      ends = λ k. cond (eqb k e) (recorded old (answer_to n e m)) (n.records.ends k);
      sent =
          λ k. cond (eqb k e)
          (sent_delivered (n.number b) old m.agreement (offer_in n.plan (n.view b) e) (n.records.sent e))
          (n.records.sent k);
      held =
          λ k. cond (eqb k e)
          (held_delivered (n.view b) old m.agreement (offer_in n.plan (n.view b) (opposite e)) (n.records.held e))
          (n.records.held k);
    })

-- Delivery of message m, at the end opposite to its sender
unfoldable pub after_delivery : Network → Message → Network
after_delivery n m = received_at n (receiver m) m

-- what an accepted call makes of the network
unfoldable pub after_change : Network → Change → Network
after_change n (update b t) = updated_to n b t
after_change n (cut b l) = with_end n (end_of n.plan.graph b l) true
after_change n (restore b l) = with_end n (end_of n.plan.graph b l) false

unfoldable pub act : Network → Call → Network
act n (change x) = after_change n x
act n (send b l) = sent_over n b l
act n (deliver p) = with_messages (after_delivery n (message_at n p)) (without p n.messages)
act n (repeat p) = after_delivery n (message_at n p)
act n (lose p) = with_messages n (without p n.messages)
act n (port b d) = n
act n (verdict b d) = n
act n (report d) = n
act n (path s d) = n

-- one call: a refused call leaves the network as it was
unfoldable pub step : Network → Call → Network
step n c = cond (accepted n c) (act n c) n

-- a list of calls: each gets the network as the last call left it
unfoldable pub run : Network → List Call → Network
run n [] = n
run n (c ∷ cs) = run (step n c) cs
