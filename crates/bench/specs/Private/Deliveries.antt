-- What deliver and repeat answer, and make of the bench, the limit tables and the messages, number by number. Assumes nothing.
use Rattle.std.specs.Prelude.{ℕ, ◌-◌, ◌<◌, ◌≡◌, true, ◌&&◌, List, get_or, set}
use Rattle.agreement.specs.Record.{fresh_record}
use Rattle.agreement.specs.Call.{Response, deliver_outcome, lent_end_in_range}
use Rattle.agreement.specs.Ranges.{delivery_in_range}
use Rattle.agreement.specs.declared.Agreement.{Agreement}
use Rattle.agreement.specs.declared.Answer.{Answer}
use Rattle.protocol.specs.Net.{receiver}
use Rattle.protocol.specs.Calls.{deliver, repeat}
use Rattle.bench.specs.State.{State, state, network, message_from}
use Rattle.bench.specs.Private.Views.{lent_view}
use Rattle.bench.specs.Ranges.{state_in_range}
use Rattle.bench.specs.Outcomes.{refused_by, refusal_of, or_refused}
use Rattle.bench.specs.Private.Changes.{bench_with_records}
use Rattle.bench.specs.Private.Queue.{with_count, taken_out}
use Rattle.bench.specs.declared.Bench.{Bench}

-- a bench, the limit tables and the messages after a call
pub record DeliveryOutcome : Type 0 where
  pub reply : Response Answer
  pub bench : Bench
  pub sent : List ℕ
  pub held : List ℕ
  pub messages : List ℕ

abbrev pub delivery_outcome : Response Answer → Bench → List ℕ → List ℕ → List ℕ → DeliveryOutcome
delivery_outcome reply bench sent held messages =
    record { reply = reply; bench = bench; sent = sent; held = held; messages = messages }

-- what a message carries, at end e, as layer 2 takes it there in the view of the end's bridge
unfoldable pub delivery_at : State → ℕ → Agreement → DeliveryOutcome
delivery_at s e m =
    let b : Bench = s.bench in
    let y : ℕ = get_or b.ends e 0 in
    let t : ℕ = get_or b.view y 0 in
    let o =
    deliver_outcome (lent_view b s.costs t) b.views t (get_or b.number y 0) e
    (get_or b.records e fresh_record) m s.sent s.held in
    delivery_outcome o.reply (bench_with_records b (set b.records e o.end)) o.sent o.held s.messages

-- the end where the message at place p arrives
abbrev pub arrival_end : List ℕ → ℕ → ℕ
arrival_end m p = receiver (message_from m p)

-- the message at place p goes over one of 32 links, one way or the other
abbrev pub LinkFits : List ℕ → ℕ → Type 0
LinkFits m p = ((message_from m p).link < 32) × ((message_from m p).direction < 2)

-- what it carries fits its types
abbrev pub MessageFits : List ℕ → ℕ → Type 0
MessageFits m p =
    ((message_from m p).agreement.view < 256)
    × ((message_from m p).agreement.number < 65536)
    × ((message_from m p).agreement.discarded < 65536)

-- layer 2 takes what a message carries, at end e
abbrev pub Takes : State → ℕ → Agreement → Type 0
Takes s e m =
    let y : ℕ = get_or s.bench.ends e 0 in
    let t : ℕ = get_or s.bench.view y 0 in
    (lent_end_in_range (lent_view s.bench s.costs t) s.sent s.held e
    && delivery_in_range s.bench.views t (get_or s.bench.records e fresh_record) m.view)
    ≡ true

-- the state with what a delivery has made of it
abbrev pub with_delivered : State → DeliveryOutcome → State
with_delivered s o = state o.bench s.costs o.sent o.held o.messages

abbrev pub received : State → ℕ → DeliveryOutcome
received s p = delivery_at s (arrival_end s.messages p) (message_from s.messages p).agreement

abbrev pub delivery_refused : State → ℕ → DeliveryOutcome
delivery_refused s k = delivery_outcome (refused_by k) s.bench s.sent s.held s.messages

unfoldable pub repeat_of : State → ℕ → DeliveryOutcome
repeat_of s p = or_refused (refusal_of (state_in_range s) (network s) (repeat p)) (delivery_refused s) (received s p)

unfoldable pub deliver_of : State → ℕ → DeliveryOutcome
deliver_of s p =
    let r : DeliveryOutcome = received s p in
    let count : ℕ = s.bench.messages in
    or_refused (refusal_of (state_in_range s) (network s) (deliver p)) (delivery_refused s)
    (delivery_outcome r.reply (with_count r.bench (count - 1)) r.sent r.held (taken_out count p s.messages))
