-- Both forms of the messages in flight give the same; and a contract over the slice's numbers tells the whole slice. Assumes nothing.
use Prim.Native.Nat.{ℕ}
use native.Mathlib.Omega.{arith}
use mathlib.Core.Path.{◌≡◌, refl, sym, ◌∙◌, ap}
use mathlib.Core.List.{List, [], ◌∷◌, ◌++◌}
use lib.ListN.{length, take, drop, take-append-drop}
use Rattle.agreement.specs.Call.{Response}
use Rattle.bench.specs.State.{state}
use Rattle.bench.specs.Outcomes.{Outcome, outcome}
use Rattle.bench.specs.declared.Bench.{Bench}
use Rattle.messages.specs.declared.Message.{Message}
use Rattle.messages.specs.Slices.{numbers_in, flight}
use Rattle.messages.proofs.Flight.{message}

-- messages with the same numbers are the same
pub numbers-same : (ms ns : List Message) → numbers_in ms ≡ numbers_in ns → ms ≡ ns
unfolding numbers_in
numbers-same [] [] e = refl
numbers-same [] (n ∷ ns) e = absurd (omega (arith, ap length e))
numbers-same (m ∷ ms) [] e = absurd (omega (arith, ap length e))
numbers-same (m ∷ ms) (n ∷ ns) e =
    ap (λ (x : Message). x ∷ ms) (ap message e) ∙ ap (λ (l : List Message). n ∷ l) (numbers-same ms ns (ap (drop 5) e))

-- so what a contract says of a slice, its first 64 messages by their numbers and the rest, tells all of it
pub slice-same : (ms ns : List Message) → flight ms ≡ flight ns → drop 64 ms ≡ drop 64 ns → ms ≡ ns
slice-same ms ns first rest =
    sym (take-append-drop 64 ms) ∙ ap (λ (l : List Message). l ++ drop 64 ms) (numbers-same (take 64 ms) (take 64 ns) first)
    ∙ ap (λ (l : List Message). take 64 ns ++ l) rest
    ∙ take-append-drop 64 ns

-- the same call over a slice and over its numbers, each with the outcome that its contract names: reply, network and messages are the same
pub same_outcome :
    {A : Type 0} (o : Outcome A) (reply said : Response A) (b c : Bench) (costs sent held costs' sent' held' : List ℕ) (ms : List Message) (numbers : List ℕ) →
    outcome reply (state b costs sent held (flight ms)) ≡ o →
    outcome said (state c costs' sent' held' numbers) ≡ o →
    (reply ≡ said) × (b ≡ c) × (sent ≡ sent') × (held ≡ held') × (flight ms ≡ numbers)
same_outcome o reply said b c costs sent held costs' sent' held' ms numbers slice number =
    let e = slice ∙ sym number in
    (ap (λ x. x.reply) e, ap (λ x. x.state.bench) e, ap (λ x. x.state.sent) e, ap (λ x. x.state.held) e, ap (λ x. x.state.messages) e)
