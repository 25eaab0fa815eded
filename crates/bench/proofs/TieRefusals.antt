-- Refusals of one call, of a state that passes the entry check and of the network that stands in it. Assumes nothing.
use Prim.Native.Nat.{ℕ}
use mathlib.Core.Path.{◌≡◌, refl}
use mathlib.Core.Bool.{Bool, true, false, cond}
use lib.Dec.{eqb}
use borrow.Author.Tests.{eqb-true}
use Rattle.distances.proofs.Checks.{First.here, first, later}
use Rattle.protocol.specs.Net.{Network}
use Rattle.protocol.specs.Calls.{Call, checks, refuse, accepted, act, step}
use Rattle.bench.specs.State.{State}
use Rattle.bench.specs.Outcomes.{refusal_of, or_refused}
use Rattle.bench.proofs.Represents.{Represents}

-- out of range: 17
pub refusal-out : (ok : Bool) (n : Network) (c : Call) → ok ≡ false → 17 ≡ refusal_of ok n c
unfolding refusal_of
refusal-out ok n c e = first (here (rw e))

-- in range: the table's checks
pub refusal-ready : (ok : Bool) (n : Network) (c : Call) → ok ≡ true → refusal_of ok n c ≡ refuse n c
unfolding refusal_of refuse
refusal-ready ok n c e = later _ (checks n c) (rw e)

-- a reply that brings a value: the value matters only where the call is accepted
pub settled_same :
    {A B : Type 0} (reply : A → B) (k : ℕ) (refused : ℕ → A) (other : ℕ → B) (done : A) (value : B) →
    reply (refused k) ≡ other k →
    (k ≡ 0 → reply done ≡ value) →
    reply (or_refused k refused done) ≡ or_refused k other value
settled_same reply k refused other done value refuses does = go (eqb k 0) refl
  where
    go : (b : Bool) → eqb k 0 ≡ b → reply (cond b done (refused k)) ≡ cond b value (other k)
    go true e = does (eqb-true k 0 e)
    go false e = refuses

-- a call whose outcome is settled by a number that is the network's refusal: the old state where it is refused, and where it is accepted
-- what stands for the network that it makes
pub settled-step :
    {A : Type 0} (next : A → State) (n : Network) (c : Call) (k : ℕ) (refused : ℕ → A) (done : A) →
    k ≡ refuse n c →
    ((m : ℕ) → Represents (next (refused m)) n) →
    (accepted n c ≡ true → Represents (next done) (act n c)) →
    Represents (next (or_refused k refused done)) (step n c)
unfolding step accepted
settled-step next n c k refused done same stays goes = rw same (go (eqb (refuse n c) 0) refl)
  where
    go : (b : Bool) → accepted n c ≡ b → Represents (next (cond b done (refused (refuse n c)))) (cond b (act n c) n)
    go true e = goes e
    go false e = stays (refuse n c)
