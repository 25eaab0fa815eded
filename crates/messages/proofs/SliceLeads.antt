-- Every list of calls over a slice of 64 messages or more leads somewhere: the slice in which the numbers of a state stand. Assumes nothing.
use Prim.Native.Nat.{ℕ, zero, suc, ◌+◌, ◌*◌, ◌≤◌}
use native.Mathlib.Omega.{arith}
use mathlib.Core.Path.{◌≡◌, refl, sym, ◌∙◌, ap}
use mathlib.Core.List.{List, [], ◌∷◌, ◌++◌}
use lib.ListN.{length, take, drop, length-append, length-drop}
use lib.Seq.{length-take-le, take_at, drop_at, take_all}
use Rattle.protocol.specs.Calls.{Call}
use Rattle.bench.specs.State.{State, state}
use Rattle.bench.specs.Outcomes.{left_by, fresh_of}
use Rattle.bench.proofs.FreshStands.{fresh-messages}
use Rattle.bench.proofs.RunSteps.{left-messages}
use Rattle.messages.specs.declared.Message.{Message}
use Rattle.messages.specs.Slices.{numbers_in, flight}
use Rattle.messages.specs.SliceLists.{Kept, kept, numbered, Lead, SlicesLead}
use Rattle.messages.proofs.Flight.{message, numbers-length, five, take_two}

-- the messages that the first of a list's fives are
messages_of : ℕ → List ℕ → List Message
messages_of zero l = []
messages_of (suc n) l = message (take 5 l) ∷ messages_of n (drop 5 l)

messages-count : (n : ℕ) (l : List ℕ) → length (messages_of n l) ≡ n
unfolding messages_of
messages-count zero l = refl
messages-count (suc n) l = ap suc (messages-count n (drop 5 l))

-- the messages that numbers are, in numbers again
numbers-again : (n : ℕ) (l : List ℕ) → 5 * n ≤ length l → numbers_in (messages_of n l) ≡ take (5 * n) l
unfolding numbers_in messages_of
numbers-again zero l long = refl
numbers-again (suc n) l long =
    let next : 5 * suc n ≡ 5 + 5 * n = omega arith in
    (λ i. five (take 5 l) (length-take-le 5 l (omega arith)) i ++ numbers-again n (drop 5 l) (omega (arith, length-drop 5 l)) i)
    ∙ take_two 5 (5 * n) l
    ∙ ap (λ (j : ℕ). take j l) (sym next)

-- what is kept of state u, where the messages ms were kept
abbrev kept_in : State → List Message → Kept
kept_in u ms = kept u.bench u.costs u.sent u.held (messages_of 64 u.messages ++ drop 64 ms)

module _ (u : State) (ms : List Message) (full : 64 ≤ length ms) (many : length u.messages ≡ length (flight ms)) where
  flight-length : length (flight ms) ≡ 320
  flight-length = omega (arith, numbers-length (take 64 ms), length-take-le 64 ms full)

  kept-numbers : numbered (kept_in u ms) ≡ u
  kept-numbers =
      ap (state u.bench u.costs u.sent u.held)
      (ap numbers_in (take_at (messages_of 64 u.messages) (drop 64 ms) 64 (messages-count 64 u.messages))
      ∙ numbers-again 64 u.messages (omega (arith, many, flight-length))
      ∙ take_all 320 u.messages (omega (arith, many, flight-length)))

  kept-behind : drop 64 (kept_in u ms).messages ≡ drop 64 ms
  kept-behind = drop_at (messages_of 64 u.messages) (drop 64 ms) 64 (messages-count 64 u.messages)

  kept_full : 64 ≤ length (kept_in u ms).messages
  kept_full = omega (arith, length-append (messages_of 64 u.messages) (drop 64 ms), messages-count 64 u.messages)

leads-on : (cs : List Call) (s : Kept) → 64 ≤ length s.messages → (t : Kept) × Lead s cs t
unfolding Lead
leads-on [] s full = (s, refl)
leads-on (c ∷ cs) s full =
    let u : State = left_by (numbered s) c in
    let many = left-messages (numbered s) c in
    let later = leads-on cs (kept_in u s.messages) (kept_full u s.messages full many) in (
      later.0,
      record {
        left = kept_in u s.messages;
        leads = record { numbers = kept-numbers u s.messages full many; rest = kept-behind u s.messages full many };
        later = later.1;
      },
    )

pub slices-lead : SlicesLead
slices-lead =
    record {
      begin = λ first full accepted.
          let u : State = (fresh_of (numbered first)).state in
          let many = fresh-messages (numbered first) in (
            kept_in u first.messages,
            kept_full u first.messages full many,
            record { accepted = accepted; room = full; numbers = kept-numbers u first.messages full many },
          );
      go = λ s full cs. leads-on cs s full;
    }
