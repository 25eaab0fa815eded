-- What a call comes to by the checks that it makes: 17 out of range, else the table's number, else what it does; and what its reply tells.
-- Assumes nothing.
use Prim.Native.Nat.{ℕ, ◌<◌}
use native.Mathlib.Omega.{arith}
use mathlib.Core.Path.{◌≡◌, refl, sym, ◌∙◌}
use mathlib.Core.Bool.{Bool, true, false, cond}
use mathlib.Core.List.{List, ◌∷◌}
use borrow.Author.Tests.{ne_eqb, eqb-true}
use lib.Dec.{eqb}
use Rattle.distances.proofs.Booleans.{below}
use Rattle.protocol.specs.Net.{Network}
use Rattle.protocol.specs.Calls.{Call, Check, refusal, refuse, no_such_bridge, no_such_link}
use Rattle.bench.specs.Outcomes.{refusal_of, or_refused}
use Rattle.distances.proofs.Checks.{passed}
use Rattle.bench.proofs.TieRefusals.{refusal-ready}

module _ {A : Type 0} (ok : Bool) (n : Network) (c : Call) (refused : ℕ → A) (done : A) where
  -- in range, and the table's number k
  module _ (e : ok ≡ true) (k : ℕ) (same : k ≡ refuse n c) where
    pub turned_down : (k ≡ 0 → ⊥) → refused k ≡ or_refused (refusal_of ok n c) refused done
    turned_down some = rw (refusal-ready ok n c e, ← same, ne_eqb k 0 some)

    pub goes_on : k ≡ 0 → done ≡ or_refused (refusal_of ok n c) refused done
    goes_on none = rw (refusal-ready ok n c e, ← same, none)

-- a call that is settled by the number k, and its reply's number
module _
    {A : Type 0}
    (reply : A → ℕ)
    (k : ℕ)
    (refused : ℕ → A)
    (done : A)
    (says : (j : ℕ) → reply (refused j) ≡ j)
    (zero : k ≡ 0 → reply done ≡ 0) where
  pub reply-is : reply (or_refused k refused done) ≡ k
  reply-is = go (eqb k 0) refl
    where
      go : (b : Bool) → eqb k 0 ≡ b → reply (cond b done (refused k)) ≡ k
      go true e = zero (eqb-true k 0 e) ∙ sym (eqb-true k 0 e)
      go false e = says k

-- a call that its first checks turn down
pub first-refused : (k : ℕ) (rest : List Check) (r : ℕ) → or_refused k (λ j. j) (refusal rest) ≡ r → (k ≡ 0 → ⊥) → k ≡ r
first-refused k rest r is some = rw (ne_eqb k 0 some) at is

-- the link of a call that the table lets pass
pub link-listed : (n : Network) (b l : ℕ) (cs : List Check) → refusal (no_such_bridge n b ∷ no_such_link n l ∷ cs) ≡ 0 → l < n.plan.graph.links
unfolding no_such_bridge no_such_link
link-listed n b l cs e =
    let rest = (passed (no_such_bridge n b) (no_such_link n l ∷ cs) (omega arith) e).1 in
    below l n.plan.graph.links (passed (no_such_link n l) cs (omega arith) rest).0
