-- Laws of the calls on messages in flight: what an accepted one tells, and what it comes to. Assumes nothing.
use Prim.Native.Nat.{ℕ, ◌*◌, ◌%◌, ◌<◌}
use native.Mathlib.Omega.{arith}
use mathlib.Core.Path.{◌≡◌, sym, ◌∙◌, ap}
use mathlib.Core.Bool.{Bool, true, ◌&&◌}
use mathlib.Core.List.{List, [], ◌∷◌}
use borrow.Author.Tests.{eq-eqb, not-false}
use lib.ListN.{length, get_or}
use Rattle.distances.proofs.Booleans.{true-both}
use Rattle.agreement.specs.Record.{fresh_record}
use Rattle.agreement.specs.Call.{Response, says, carry_outcome}
use Rattle.agreement.specs.declared.Agreement.{Agreement}
use Rattle.agreement.specs.declared.EndRecord.{EndRecord}
use Rattle.agreement.proofs.Basics.{get_d_default}
use Rattle.protocol.specs.Net.{Network}
use Rattle.protocol.specs.Calls.{Call, send, lose, refuse, accepted, checks, no_such_bridge, no_such_link, not_on_link, end_down, no_room, no_message, message_of}
use Rattle.bench.specs.Private.Views.{network_of}
use Rattle.bench.specs.Ranges.{bench_in_range, messages_in_range}
use Rattle.bench.specs.Outcomes.{refusal_of}
use Rattle.bench.specs.Private.Changes.{own_end}
use Rattle.bench.specs.State.{numbers_of}
use Rattle.bench.specs.declared.Bench.{Bench}
use Rattle.agreement.proofs.Outcomes.{carry-accepted}
use Rattle.protocol.proofs.Links.{end_of-below}
use Rattle.distances.proofs.Checks.{passed}
use Rattle.protocol.proofs.Accepted.{send-listed, place-listed}
use Rattle.bench.proofs.TieQueue.{messages-length}
use Rattle.bench.proofs.QueueRanges.{BenchFacts, view-told, flight-told}

-- ---- refusals

-- nothing turns the call down
pub refusal-none : (ok : Bool) (n : Network) (c : Call) → refusal_of ok n c ≡ 0 → (ok ≡ true) × (refuse n c ≡ 0)
unfolding refusal_of refuse
refusal-none ok n c e =
    let h = passed _ (checks n c) (omega arith) e in
    (not-false ok h.0, h.1)

-- how many messages are in flight does not lie in their numbers
module _ (b : Bench) (m : List ℕ) where
  pub send-same : (y l : ℕ) → refuse (network_of b []) (send y l) ≡ refuse (network_of b m) (send y l)
  unfolding refuse checks no_such_bridge no_such_link not_on_link end_down no_room
  send-same y l = rw (messages-length 0 b.messages [], messages-length 0 b.messages m)

  pub lose-same : (p : ℕ) → refuse (network_of b []) (lose p) ≡ refuse (network_of b m) (lose p)
  unfolding refuse checks no_message
  lose-same p = rw (messages-length 0 b.messages [], messages-length 0 b.messages m)

-- ---- lose

-- an accepted place
pub lose-told : (b : Bench) (m : List ℕ) (p : ℕ) → refuse (network_of b m) (lose p) ≡ 0 → p < b.messages
unfolding refuse checks
lose-told b m p none = rw messages-length at (place-listed (network_of b m) p _ none)

-- ---- send

-- an accepted send: all is listed, and layer 2 does not refuse to carry
pub record SendFacts (b : Bench) (m : List ℕ) (y l : ℕ) : Type 0 where
  pub bridge : y < 16
  pub there : l < b.links
  pub link : l < 32
  pub room : b.messages < 64
  pub carries :
      carry_outcome b.views (get_or b.view y 0) (get_or b.number y 0) (get_or b.records (own_end b y l) fresh_record)
      ≡ says (message_of (network_of b m) y l).agreement

pub send-told : (b : Bench) (m : List ℕ) (y l : ℕ) → BenchFacts b → refuse (network_of b m) (send y l) ≡ 0 → SendFacts b m y l
unfolding accepted message_of
send-told b m y l told none =
    let h = send-listed (network_of b m) y l (eq-eqb _ 0 none) in
    let low : own_end b y l < 2 * b.links = end_of-below _ y l b.links h.link in
    record {
      bridge = omega (arith, told.counted.bridges, h.bridge);
      there = h.link;
      link = omega (arith, told.counted.links, h.link);
      room = rw messages-length at h.room;
      carries = carry-accepted _ _ _ _ (true-both (view-told b told y h.bridge) (told.records (own_end b y l) low));
    }

-- what its end carries
pub send-carries :
    (b : Bench) (m : List ℕ) (y l e : ℕ) →
    (bench_in_range b && messages_in_range b m) ≡ true →
    0 ≡ refuse (network_of b []) (send y l) →
    e ≡ own_end b y l →
    e < length b.records →
    (d : EndRecord) →
    carry_outcome b.views (get_or b.view y 0) (get_or b.number y 0) (get_or b.records e d) ≡ says (message_of (network_of b m) y l).agreement
send-carries b m y l e ok none own there d = rw (get_d_default b.records e d fresh_record there, own) (send-told b m y l (flight-told _ _ ok).0 (sym (none ∙ send-same b m y l))).carries

-- the five numbers that it appends
pub sent-numbers :
    (b : Bench) (m : List ℕ) (y l e : ℕ) (x : Agreement) →
    e ≡ own_end b y l →
    x ≡ (message_of (network_of b m) y l).agreement →
    l ∷ (e % 2) ∷ x.view ∷ x.number ∷ x.discarded ∷ [] ≡ numbers_of (message_of (network_of b m) y l)
unfolding message_of
sent-numbers b m y l e x end same = rw (same, end)

-- what is said twice is the same
pub said_same : {A : Type 0} (x y : A) → says x ≡ says y → x ≡ y
said_same {A} x y e = ap (λ (r : Response A). get_or r.value 0 x) e
