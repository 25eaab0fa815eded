-- One direction of a link with its parts named apart, and what becomes of it when the bridge at either side moves or receives.
-- e is the holder's end; `own` and `held` are its record and held row, `sent` is the row that the far bridge sent over the link.
-- Assumes nothing.
use Prim.Native.Nat.{ℕ, suc, ◌≤◌, min}
use mathlib.Core.Path.{◌≡◌, refl, ◌∙◌}
use mathlib.Core.Bool.{Bool, true, false, cond}
use native.Mathlib.Omega.{arith}
use lib.Dec.{eqb, ltb}
use borrow.Author.Tests.{lt-ltb, le-ltb}
use Rattle.agreement.specs.Offer.{opposite}
use Rattle.agreement.specs.Record.{no_view, updated, sent_updated, held_updated, is_stale, is_agreed, is_clearing, answer, recorded, sent_delivered, held_delivered}
use Rattle.agreement.specs.declared.EndRecord.{EndRecord}
use Rattle.agreement.specs.declared.Agreement.{Agreement}
use Rattle.agreement.proofs.Direction.{Direction, InFlight}
use Rattle.agreement.proofs.Directions.{kept, raised, cleared, adopted, unadopted, stale, noted, agreed}
use Rattle.agreement.proofs.RecordLaws.{updated-adopts, updated-keeps, held-adopts, held_keeps, sent-updated, agreed-view, stale-recorded, agreed-recorded, noted-recorded, stale-held, agreed-held, noted-held, clearing-told, sent-cleared, sent-kept}
use Rattle.protocol.specs.Net.{Plan, offer_in}

-- what view v gives is held
abbrev pub Held : Plan → ℕ → Bool → (ℕ → ℕ) → ℕ → Type 0
Held p e holding held v = (holding ≡ true) × ((d : ℕ) → held d ≡ offer_in p v (opposite e) d)

held_same :
    (p : Plan) (e : ℕ) (held held' : ℕ → ℕ) {a b : Bool} →
    b ≡ a →
    ((d : ℕ) → held' d ≡ held d) →
    (v : ℕ) →
    Held p e a held v →
    Held p e b held' v
held_same p e held held' end row v q = (end ∙ q.0, λ d. row d ∙ q.1 d)

abbrev pub Side : Plan → ℕ → EndRecord → (ℕ → ℕ) → (ℕ → ℕ) → (ℕ → ℕ) → ℕ → Type 0
Side p e own held sent h n =
    Direction
    (own.holding ≡ false)
    (Held p e own.holding held)
    (λ v. (d : ℕ) → sent d ≤ offer_in p v (opposite e) d)
    h
    n
    own

-- the history of a bridge that moves to view t, n being its number before
unfoldable pub raised_to : ℕ → ℕ → (ℕ → ℕ) → ℕ → ℕ
raised_to t n h m = cond (ltb n m) t (h m)

pub raised-before : (t n : ℕ) (h : ℕ → ℕ) (m : ℕ) → m ≤ n → raised_to t n h m ≡ h m
unfolding raised_to
raised-before t n h m low = rw (le-ltb n m low)

pub raised-new : (t n : ℕ) (h : ℕ → ℕ) → raised_to t n h (suc n) ≡ t
unfolding raised_to
raised-new t n h = rw (lt-ltb n (suc n) (omega arith))

module _ (p : Plan) (e : ℕ) {own : EndRecord} {held sent h : ℕ → ℕ} {n : ℕ} (old : Side p e own held sent h n) where
  -- the far bridge moves to view t
  pub far-moved : (t : ℕ) → Side p e own held (sent_updated (offer_in p t (opposite e)) sent) (raised_to t n h) (suc n)
  far-moved t =
      let now : (d : ℕ) → sent_updated (offer_in p t (opposite e)) sent d ≡ min (sent d) (offer_in p t (opposite e) d) = sent-updated _ _ in
      raised old (λ q. q) (λ v q. q) (λ v q d. omega (arith, q d, now d)) (raised-before t n h) (rw raised-new (λ d. omega (arith, now d)))

  -- the holder moves to view t
  pub own-moved : (t : ℕ) → (t ≡ no_view → ⊥) → Side p e (updated t own) (held_updated t own (offer_in p t (opposite e)) held) sent h n
  own-moved t is_view = go (eqb own.view t) refl
    where
      go : (b : Bool) → eqb own.view t ≡ b → Side p e (updated t own) (held_updated t own (offer_in p t (opposite e)) held) sent h n
      go true same =
          adopted old t is_view same (rw (updated-adopts t own same) refl, λ d. held-adopts t own _ held d same) (λ v q. q)
      go false other =
          let end : (updated t own).holding ≡ own.holding = rw (updated-keeps t own other) in
          unadopted old t other (λ q. end ∙ q) (held_same p e held _ end (λ d. held_keeps t own _ held d other)) (λ v q. q)

  -- the holder, on view v, receives m
  pub own-received : {s : EndRecord} {m : Agreement} → InFlight h n s m → (v : ℕ) → Side p e (recorded own (answer v own m)) (held_delivered v own m (offer_in p v (opposite e)) held) sent h n
  own-received {s} {m} flight v = go (is_stale own m) (is_agreed v m) refl refl
    where
      go : (b c : Bool) → is_stale own m ≡ b → is_agreed v m ≡ c → Side p e (recorded own (answer v own m)) (held_delivered v own m (offer_in p v (opposite e)) held) sent h n
      go true c is seen =
          let end : (recorded own (answer v own m)).holding ≡ own.holding = rw (stale-recorded v own m is) in
          stale old v m is (λ q. end ∙ q) (held_same p e held _ end (λ d. stale-held v own m _ held d is)) (λ u q. q)
      go false true is seen =
          agreed old v m flight is seen
          (rw (agreed-recorded v own m is seen) refl, λ d. agreed-held v own m _ held d is seen ∙ rw (agreed-view v m seen))
          (λ u q. q)
      go false false is seen =
          let end : (recorded own (answer v own m)).holding ≡ own.holding = rw (noted-recorded v own m is seen) in
          noted old v m flight is seen (λ q. end ∙ q) (held_same p e held _ end (λ d. noted-held v own m _ held d is seen)) (λ u q. q)

  -- the far bridge, on view v, receives at its end, whose record is r, a message with the holder's discarded number
  pub far-received : (r : EndRecord) (m : Agreement) (v : ℕ) → m.discarded ≤ own.discarded → v ≡ h n → Side p e own held (sent_delivered n r m (offer_in p v (opposite e)) sent) h n
  far-received r m v low present = go (is_clearing n r m) refl
    where
      go : (b : Bool) → is_clearing n r m ≡ b → Side p e own held (sent_delivered n r m (offer_in p v (opposite e)) sent) h n
      go true is =
          let all : m.discarded ≡ n = clearing-told n r m is in
          cleared old (λ q. q) (λ u q. q) (omega arith) (rw (← present) (λ d. omega (arith, sent-cleared n r m (offer_in p v (opposite e)) sent d is)))
      go false is = kept old (λ q. q) (λ u q. q) (λ u q d. omega (arith, q d, sent-kept n r m (offer_in p v (opposite e)) sent d is))
