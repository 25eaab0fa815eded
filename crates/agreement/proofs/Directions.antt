-- What becomes of one direction of a link when its far bridge moves, when its holder moves, and when a message arrives at either end.
-- The predicates N, H and C of `Direction` may change with it: N', H' and C' stand for what they are afterwards. Assumes nothing.
use Prim.Native.Nat.{ℕ, suc, ◌≤◌}
use mathlib.Core.Path.{◌≡◌, refl, sym, ◌∙◌, subst}
use mathlib.Core.Logic.{◌⊎◌, inl, inr, ⊎_map}
use mathlib.Core.Bool.{Bool, true, false, cond}
use native.Mathlib.Omega.{arith}
use lib.Dec.{eqb, leb}
use borrow.Author.Tests.{eqb-true, ltb-false, leb-true, leb-false}
use Rattle.agreement.specs.declared.EndRecord.{EndRecord}
use Rattle.agreement.specs.declared.Agreement.{Agreement}
use Rattle.agreement.specs.declared.Answer.TheVariants.{Stale, Agreed, Noted}
use Rattle.agreement.specs.Record.{no_view, fresh_record, updated, is_stale, is_agreed, answer, recorded}
use Rattle.agreement.proofs.Direction.{Direction, InFlight}

-- a fresh record, of a bridge that counts every view it had
pub fresh-direction : {N : Type 0} {H C : ℕ → Type 0} {h : ℕ → ℕ} {n : ℕ} → N → ((m : ℕ) → 1 ≤ m → m ≤ n → C (h m)) → Direction N H C h n fresh_record
fresh-direction none counts =
    record {
      received = omega arith;
      known = λ known. absurd (known refl);
      discarded = omega arith;
      holds = inl none;
      counts = λ m least low most. counts m least most;
    }

module _ {N : Type 0} {H C : ℕ → Type 0} {h : ℕ → ℕ} {n : ℕ} {r : EndRecord} (old : Direction N H C h n r) where
  -- what the forwarding rule cites: nothing is held, or some view is held that the far bridge still counts
  pub counted : N ⊎ ((v : ℕ) × H v × C v)
  counted = go old.holds
    where
      go : N ⊎ ((1 ≤ r.discarded) × H (h r.discarded)) → N ⊎ ((v : ℕ) × H v × C v)
      go (inl none) = inl none
      go (inr q) =
          inr (h r.discarded, q.1, old.counts r.discarded q.0 (omega arith) (omega (arith, old.discarded, old.received)))

module _ {N N' : Type 0} {H H' C C' : ℕ → Type 0} {h : ℕ → ℕ} {n : ℕ} {r : EndRecord} (old : Direction N H C h n r) where
  -- the record and the numbers stay, and the far bridge counts what it must
  recounted : (N → N') → ((v : ℕ) → H v → H' v) → ((m : ℕ) → 1 ≤ m → r.discarded ≤ m → m ≤ n → C' (h m)) → Direction N' H' C' h n r
  unfolding ⊎_map
  recounted none held counts =
      record {
        received = old.received;
        known = old.known;
        discarded = old.discarded;
        holds = ⊎_map none (λ q. (q.0, held _ q.1)) old.holds;
        counts = counts;
      }

  -- the far bridge counts all that it counted
  pub kept : (N → N') → ((v : ℕ) → H v → H' v) → ((v : ℕ) → C v → C' v) → Direction N' H' C' h n r
  kept none held counts = recounted none held (λ m least low most. counts (h m) (old.counts m least low most))

  -- the far bridge counts its present view alone, every older one being discarded
  pub cleared : (N → N') → ((v : ℕ) → H v → H' v) → n ≤ r.discarded → C' (h n) → Direction N' H' C' h n r
  cleared none held all new = recounted none held (λ m least low most. let last : n ≡ m = omega arith in subst (λ (k : ℕ). C' (h k)) last new)

  -- the far bridge moves to the next number, and counts its new view as well
  pub raised : {h' : ℕ → ℕ} → (N → N') → ((v : ℕ) → H v → H' v) → ((v : ℕ) → C v → C' v) → ((m : ℕ) → m ≤ n → h' m ≡ h m) → C' (h' (suc n)) → Direction N' H' C' h' (suc n) r
  unfolding ⊎_map
  raised {h'} none held counts same new =
      record {
        received = omega (arith, old.received);
        known = λ known. let q = old.known known in (q.0, q.1 ∙ sym (same _ old.received));
        discarded = old.discarded;
        holds = ⊎_map none (λ q. (q.0, subst H' (sym (same _ (omega (arith, old.discarded, old.received)))) (held _ q.1))) old.holds;
        counts = λ m least low most. go m least low most (leb m n) refl;
      }
    where
      go : (m : ℕ) → 1 ≤ m → r.discarded ≤ m → m ≤ suc n → (b : Bool) → leb m n ≡ b → C' (h' m)
      go m least low most true e =
          let below : m ≤ n = leb-true m n e in
          subst C' (sym (same m below)) (counts (h m) (old.counts m least low below))
      go m least low most false e =
          let last : suc n ≡ m = omega (arith, leb-false m n e) in
          subst (λ (k : ℕ). C' (h' k)) last new

  -- the holder moves to the view that it received last
  pub adopted : (t : ℕ) → (t ≡ no_view → ⊥) → eqb r.view t ≡ true → H' t → ((v : ℕ) → C v → C' v) → Direction N' H' C' h n (updated t r)
  unfolding updated
  adopted t is_view same new counts =
      let seen : r.view ≡ t = eqb-true r.view t same in
      let known : (1 ≤ r.received) × (r.view ≡ h r.received) = old.known (λ none. is_view (sym seen ∙ none)) in
      rw same
      (record {
        received = old.received;
        known = old.known;
        discarded = omega arith;
        holds = inr (known.0, subst H' (sym seen ∙ known.1) new);
        counts = λ m least low most. counts (h m) (old.counts m least (omega (arith, old.discarded)) most);
      })

  -- the holder moves to another view
  pub unadopted : (t : ℕ) → eqb r.view t ≡ false → (N → N') → ((v : ℕ) → H v → H' v) → ((v : ℕ) → C v → C' v) → Direction N' H' C' h n (updated t r)
  unfolding updated
  unadopted t other none held counts = rw other (kept none held counts)

  module _ (v : ℕ) (m : Agreement) where
    -- a stale message changes nothing
    pub stale : is_stale r m ≡ true → (N → N') → ((v : ℕ) → H v → H' v) → ((v : ℕ) → C v → C' v) → Direction N' H' C' h n (recorded r (answer v r m))
    unfolding answer recorded
    stale is none held counts = rw is (kept none held counts)

    module _ {s : EndRecord} (flight : InFlight h n s m) (fresh : is_stale r m ≡ false) where
      -- a message with another view than the holder's
      pub noted : is_agreed v m ≡ false → (N → N') → ((v : ℕ) → H v → H' v) → ((v : ℕ) → C v → C' v) → Direction N' H' C' h n (recorded r (answer v r m))
      unfolding answer recorded is_stale ⊎_map
      noted other none held counts =
          let above : r.received ≤ m.number = ltb-false _ _ fresh in
          rw (fresh, other)
          (record {
            received = flight.most;
            known = λ known. (flight.least, flight.view);
            discarded = omega (arith, old.discarded);
            holds = ⊎_map none (λ q. (q.0, held _ q.1)) old.holds;
            counts = λ k least low most. counts (h k) (old.counts k least low most);
          })

      -- a message with the holder's view: that view is the one held
      pub agreed : is_agreed v m ≡ true → H' m.view → ((v : ℕ) → C v → C' v) → Direction N' H' C' h n (recorded r (answer v r m))
      unfolding answer recorded is_stale
      agreed same new counts =
          let above : r.received ≤ m.number = ltb-false _ _ fresh in
          rw (fresh, same)
          (record {
            received = flight.most;
            known = λ known. (flight.least, flight.view);
            discarded = omega arith;
            holds = inr (flight.least, subst H' flight.view new);
            counts = λ k least low most. counts (h k) (old.counts k least (omega (arith, old.discarded)) most);
          })

-- discarded numbers only grow: by the holder's move, and by a delivery
pub updated-grows : (r : EndRecord) (t : ℕ) → r.discarded ≤ r.received → r.discarded ≤ (updated t r).discarded
unfolding updated
updated-grows r t low = go (eqb r.view t)
  where
    go : (b : Bool) → r.discarded ≤ (cond b (record { received = r.received; view = r.view; discarded = r.received; holding = true }) r).discarded
    go true = low
    go false = omega arith

pub recorded-grows : (r : EndRecord) (v : ℕ) (m : Agreement) → r.discarded ≤ r.received → r.discarded ≤ (recorded r (answer v r m)).discarded
unfolding recorded answer is_stale
recorded-grows r v m low = go (is_stale r m) (is_agreed v m) refl
  where
    go : (b c : Bool) → is_stale r m ≡ b → r.discarded ≤ (recorded r (cond b Stale (cond c (Agreed m.number m.view) (Noted m.number m.view)))).discarded
    go true c e = omega arith
    go false true e = omega (arith, ltb-false m.number r.received e)
    go false false e = omega arith

-- a message stays in flight when its sender moves, and when the sending end's discarded number grows
pub flight-kept : {h h' : ℕ → ℕ} {n n' : ℕ} {s s' : EndRecord} {m : Agreement} → InFlight h n s m → n ≤ n' → ((k : ℕ) → k ≤ n → h' k ≡ h k) → s.discarded ≤ s'.discarded → InFlight h' n' s' m
flight-kept old more same grows =
    record {
      least = old.least;
      most = omega (arith, old.most);
      view = old.view ∙ sym (same _ old.most);
      discarded = omega (arith, old.discarded);
    }
