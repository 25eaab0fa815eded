-- A list of one event: refused, or made. Assumes nothing.
use Prim.Native.Nat.{ℕ, ◌≤◌}
use native.Mathlib.Omega.{arith}
use mathlib.Core.Path.{◌≡◌, refl, sym, ap, subst, ◌∙◌}
use mathlib.Core.Bool.{Bool, true, false}
use mathlib.Core.List.{List, [], ◌∷◌, ◌++◌, append-nil}
use lib.ListN.{length, take, drop}
use lib.Seq.{take_at}
use Rattle.bench.specs.State.{State, network}
use Rattle.bench.specs.Ranges.{state_in_range}
use Rattle.bench.specs.Batches.{reply_of, answers_of, answer_size, complete, refused_with, ending_of, refusal_in, Batch, event_batch_in, batch_from, BatchOutcome, batch_outcome, batch_outcome_of, batch_of}
use Rattle.bench.specs.declared.Disposition.{Disposition}
use Rattle.distances.specs.Refusal.{number}
use Rattle.distances.specs.declared.refusals.Refusal.{Refusal}
use Rattle.bench.specs.declared.Event.{Event}
use Rattle.bench.proofs.BatchRuns.{First, full, refused, made, first_of, runs_none, runs-made, runs-unmade, accepted-ready, accepted-bridges, answers-length, refused-out, batch-in, batch-out, size_few}
use Rattle.runner.specs.Events.{state_after}
use Rattle.std.specs.Prelude.{Some}

-- what it leaves
pub data Alone (s : State) (e : Event) (first : List ℕ) : BatchOutcome → Type 0 where
  refused-alone : (k : ℕ) → k ≡ reply_of s e → (k ≡ 0 → ⊥) → Alone s e first (batch_outcome 0 0 (refused_with k) s first)
  carried-out :
      reply_of s e ≡ 0 →
      Alone s e first (batch_outcome 1 (length (answers_of (network s) e)) complete (state_after s e) (answers_of (network s) e ++ drop (length (answers_of (network s) e)) first))

module _ (s : State) (e : Event) (first : List ℕ) (room : 32 ≤ length first) where
  in-range : state_in_range s ≡ true → Alone s e first (batch_outcome_of (batch_from (length first) s (e ∷ [])) first)
  in-range ok = go (event_batch_in (length first) s e) refl (first_of (length first) s e)
    where
      go : (b : Batch) → event_batch_in (length first) s e ≡ b → First (length first) s e b → Alone s e first (batch_outcome_of (batch_from (length first) s (e ∷ [])) first)
      go b is (full few) = absurd (omega (arith, few, room, size_few s e ok))
      go b is (refused some) = rw (runs-unmade (length first) s e [] b is refl) (refused-alone _ refl some)
      go b is (made none fits) = rw (runs-made (length first) s e [] is, runs_none, append-nil) (carried-out none)

  pub alone : Alone s e first (batch_of s (e ∷ []) first)
  alone = go (state_in_range s) refl
    where
      go : (b : Bool) → state_in_range s ≡ b → Alone s e first (batch_of s (e ∷ []) first)
      go true q = rw (batch-in s (e ∷ []) first q) (in-range q)
      go false q = rw (batch-out s (e ∷ []) first q) (refused-alone 17 (sym (refused-out s e q)) (λ z. absurd (omega arith)))

-- ---- for the code

-- a refusal, and why a list ended
refusal-told : (how : Disposition) {r : Refusal} {k : ℕ} → refusal_in how ≡ Some r → ending_of how ≡ refused_with k → number r ≡ k
refusal-told Disposition.Complete some is = cc
refusal-told (Disposition.Refused q) some is = cc
refusal-told Disposition.Full some is = cc

none-told : (how : Disposition) {r : Refusal} → refusal_in how ≡ Some r → ending_of how ≡ complete → ⊥
none-told Disposition.Complete some is = absurd cc
none-told (Disposition.Refused q) some is = absurd cc
none-told Disposition.Full some is = absurd cc

some-told : (how : Disposition) {k : ℕ} → ((r : Refusal) → refusal_in how ≡ Some r → ⊥) → ending_of how ≡ refused_with k → ⊥
some-told Disposition.Complete none is = absurd cc
some-told (Disposition.Refused q) none is = none q refl
some-told Disposition.Full none is = absurd cc

module _ (s : State) (e : Event) (first : List ℕ) (room : 32 ≤ length first) {count answered : ℕ} (how : Disposition) {after : State} {answers : List ℕ}
    (is : batch_outcome count answered (ending_of how) after answers ≡ batch_of s (e ∷ []) first) where
  here : Alone s e first (batch_outcome count answered (ending_of how) after answers)
  here = subst (Alone s e first) (sym is) (alone s e first room)

  pub one-refused : {r : Refusal} → refusal_in how ≡ Some r → (number r ≡ reply_of s e) × (after ≡ s)
  one-refused {r} some = go _ here refl
    where
      go : (o : BatchOutcome) → Alone s e first o → batch_outcome count answered (ending_of how) after answers ≡ o → (number r ≡ reply_of s e) × (after ≡ s)
      go o (refused-alone n same other) q =
          (refusal-told how some (ap (λ (x : BatchOutcome). x.ending) q) ∙ same, ap (λ (x : BatchOutcome). x.state) q)
      go o (carried-out none) q = absurd (none-told how some (ap (λ (x : BatchOutcome). x.ending) q))

  pub record OneMade : Type 0 where
    pub none : reply_of s e ≡ 0
    pub state : after ≡ state_after s e
    pub counted : answered ≡ length (answers_of (network s) e)
    pub head : take answered answers ≡ answers_of (network s) e
    pub few : answered ≤ 32
    pub size : answer_size s.bench.bridges e ≤ length (take answered answers)
    pub bridges : s.bench.bridges ≤ 16

  pub one-made : ((r : Refusal) → refusal_in how ≡ Some r → ⊥) → OneMade
  one-made all = go _ here refl
    where
      go : (o : BatchOutcome) → Alone s e first o → batch_outcome count answered (ending_of how) after answers ≡ o → OneMade
      go o (refused-alone k same other) q = absurd (some-told how all (ap (λ (x : BatchOutcome). x.ending) q))
      go o (carried-out none) q =
          let long = answers-length s e in
          let counted = ap (λ (x : BatchOutcome). x.answered) q in
          let head = ap (λ (x : BatchOutcome). take x.answered x.answers) q ∙ take_at (answers_of (network s) e) _ _ refl in
          record {
            none = none;
            state = ap (λ (x : BatchOutcome). x.state) q;
            counted = counted;
            head = head;
            few = omega (arith, counted, long, size_few s e (accepted-ready s e none));
            size = rw head (omega (arith, long));
            bridges = (accepted-bridges s e none).1;
          }
