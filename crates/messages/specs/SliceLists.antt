-- Demand 3 for whoever keeps the messages in a slice of structs: the calls on messages over the slice, the others as the bench has them.
-- Assumes nothing.
use Rattle.std.specs.Prelude.{ℕ, ◌≤◌, ◌≡◌, List, [], ◌∷◌, length, drop}
use Rattle.agreement.specs.Call.{says}
use Rattle.protocol.specs.Calls.{Call}
use Rattle.bench.specs.State.{State, state, network}
use Rattle.bench.specs.Outcomes.{left_by, fresh_of}
use Rattle.bench.specs.Whole.{Meets}
use Rattle.bench.specs.declared.Bench.{Bench}
use Rattle.messages.specs.declared.Message.{Message}
use Rattle.messages.specs.Slices.{flight}
use Rattle.bench.specs.Sizes.{most_messages}

-- what a caller keeps and lends: the bench's state, with a slice for the numbers of the messages
pub record Kept : Type 0 where
  pub bench : Bench
  pub costs : List ℕ
  pub sent : List ℕ
  pub held : List ℕ
  pub messages : List Message

abbrev pub kept : Bench → List ℕ → List ℕ → List ℕ → List Message → Kept
kept bench costs sent held messages =
    record { bench = bench; costs = costs; sent = sent; held = held; messages = messages }

-- the same with the slice's numbers
abbrev pub numbered : Kept → State
numbered s = state s.bench s.costs s.sent s.held (flight s.messages)

-- a call takes what is kept from s to t: its numbers as the call's contract has them, and what lies past 64 messages as it was
pub record Leads (s : Kept) (c : Call) (t : Kept) : Type 0 where
  pub numbers : numbered t ≡ left_by (numbered s) c
  pub rest : drop most_messages t.messages ≡ drop most_messages s.messages

-- a call, and what holds of what it leaves
pub record Next (s : Kept) (c : Call) (Later : Kept → Type 0) : Type 0 where
  pub left : Kept
  pub leads : Leads s c left
  pub later : Later left

-- the calls one after the other take what is kept from s to t
unfoldable pub Lead : Kept → List Call → Kept → Type 0
Lead s [] t = t ≡ s
Lead s (c ∷ cs) t = Next s c (λ u. Lead u cs t)

-- `fresh` of what was kept at first was accepted, and left s
pub record Starts (first s : Kept) : Type 0 where
  pub accepted : (fresh_of (numbered first)).reply ≡ says tt
  pub room : most_messages ≤ length first.messages
  pub numbers : numbered s ≡ (fresh_of (numbered first)).state

-- demand 3, of the network that stands in what is kept at the end
abbrev pub WholeSlices : Type 0
WholeSlices = (first s t : Kept) (cs : List Call) → Starts first s → Lead s cs t → Meets (numbered t) (network (numbered first)).plan cs

-- whoever lends 64 messages or more can begin so, and every list of calls leads somewhere
pub record SlicesLead : Type 0 where
  pub begin : (first : Kept) → most_messages ≤ length first.messages → (fresh_of (numbered first)).reply ≡ says tt → (s : Kept) × (most_messages ≤ length s.messages) × Starts first s
  pub go : (s : Kept) → most_messages ≤ length s.messages → (cs : List Call) → (t : Kept) × Lead s cs t
