-- The lent buffers of a run, and the bench's state that stands in them. Assumes nothing.
use Rattle.std.specs.Prelude.{ℕ, ◌≡◌, Bool, ◌&&◌, List, length, drop, leb}
use Rattle.std.proofs.lemmas.List.Edits.{sets}
use Rattle.agreement.specs.Call.{SameTables}
use Rattle.bench.specs.State.{State, state}
use Rattle.bench.specs.declared.Bench.{Bench}
use Rattle.messages.specs.Slices.{flight}
use Rattle.plan.specs.declared.Progress.{Progress}
use Rattle.runner.specs.declared.Memory.{Memory}
use Rattle.runner.specs.declared.Runner.{Runner}
use Rattle.agreement.specs.Sizes.{limit_numbers}
use Rattle.bench.specs.Sizes.{cost_numbers, flight_numbers, most_messages}
use Rattle.text.specs.Writing.{longest_text}

-- costs, the two limit tables, the messages, and the bytes to be printed
pub record Buffers : Type 0 where
  pub costs : List ℕ
  pub sent : List ℕ
  pub held : List ℕ
  pub messages : List ℕ
  pub out : List ℕ

abbrev pub buffers : List ℕ → List ℕ → List ℕ → List ℕ → List ℕ → Buffers
buffers costs sent held messages out = record { costs = costs; sent = sent; held = held; messages = messages; out = out }

-- what lies in the memory that is lent, beside the bytes to be printed
abbrev pub buffers_of : Memory → List ℕ → Buffers
buffers_of m out = buffers m.costs.now m.limits.sent.now m.limits.held.now (flight m.messages.now) out

-- this is the memory that was lent: each reference is the one that it was, so that who lent it has what is written there; and what lies behind
-- the messages that a run reads is as it was
abbrev pub SameMemory : Memory → Memory → Type 0
SameMemory old new =
    (new.costs.ghost_name ≡ old.costs.ghost_name)
    × SameTables old.limits new.limits
    × (new.messages.ghost_name ≡ old.messages.ghost_name)
    × (drop most_messages new.messages.now ≡ drop most_messages old.messages.now)

-- each is as long as a run needs
unfoldable pub buffers_long : Buffers → Bool
buffers_long k =
    leb cost_numbers (length k.costs)
    && (leb limit_numbers (length k.sent)
    && (leb limit_numbers (length k.held)
    && (leb flight_numbers (length k.messages) && leb longest_text (length k.out))))

-- the bench's state in the buffers
abbrev pub state_on : Bench → Buffers → State
state_on b k = state b k.costs k.sent k.held k.messages

-- the buffers with another state and a text to be printed
abbrev pub buffers_with : State → List ℕ → Buffers → Buffers
buffers_with s text k = buffers s.costs s.sent s.held s.messages (sets k.out 0 text)

-- how far the reader has come
abbrev pub progress_of : Runner → Progress
progress_of r =
    record { stage = r.stage; bridges = r.bench.bridges; links = r.bench.links; views = r.bench.views }
