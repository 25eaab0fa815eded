-- What an update and a delivery make of an end's record and of its two rows of limits, case by case. Assumes nothing.
use Prim.Native.Nat.{ℕ, min}
use mathlib.Core.Path.{◌≡◌, refl}
use mathlib.Core.Bool.{Bool, true, false, not}
use lib.Dec.{eqb}
use borrow.Author.Tests.{eqb-true}
use Rattle.distances.proofs.Booleans.{both_true}
use Rattle.agreement.specs.Record.{updated, sent_updated, held_updated, is_stale, is_agreed, answer, recorded, is_clearing, sent_delivered, held_delivered}
use Rattle.agreement.specs.declared.EndRecord.{EndRecord}
use Rattle.agreement.specs.declared.Agreement.{Agreement}

-- the record whose received view has become the one held
abbrev pub holding_received : EndRecord → EndRecord
holding_received r = record { received = r.received; view = r.view; discarded = r.received; holding = true }

-- the record after a message with the receiver's view, and after one with another
abbrev pub agreed_record : Agreement → EndRecord
agreed_record m = record { received = m.number; view = m.view; discarded = m.number; holding = true }

abbrev pub noted_record : EndRecord → Agreement → EndRecord
noted_record r m = record { received = m.number; view = m.view; discarded = r.discarded; holding = r.holding }

-- ---- an update to view t

module _ (t : ℕ) (r : EndRecord) where
  -- t is the view received last, or another
  pub updated-adopts : eqb r.view t ≡ true → updated t r ≡ holding_received r
  unfolding updated
  updated-adopts same = rw same

  pub updated-keeps : eqb r.view t ≡ false → updated t r ≡ r
  unfolding updated
  updated-keeps other = rw other

  -- what holds of the record, before and after that, holds of the updated one
  pub updated-by : (P : EndRecord → Type 0) → P r → P (holding_received r) → P (updated t r)
  updated-by P old new = go (eqb r.view t) refl
    where
      go : (b : Bool) → eqb r.view t ≡ b → P (updated t r)
      go true e = rw (updated-adopts e) new
      go false e = rw (updated-keeps e) old

  module _ (offers held : ℕ → ℕ) (d : ℕ) where
    pub held-adopts : eqb r.view t ≡ true → held_updated t r offers held d ≡ offers d
    unfolding held_updated
    held-adopts same = rw same

    pub held_keeps : eqb r.view t ≡ false → held_updated t r offers held d ≡ held d
    unfolding held_updated
    held_keeps other = rw other

pub sent-updated : (offers sent : ℕ → ℕ) (d : ℕ) → sent_updated offers sent d ≡ min (sent d) (offers d)
unfolding sent_updated
sent-updated offers sent d = refl

-- ---- a delivery of m to a bridge on view v

pub agreed-view : (v : ℕ) (m : Agreement) → is_agreed v m ≡ true → m.view ≡ v
unfolding is_agreed
agreed-view v m = eqb-true m.view v

module _ (v : ℕ) (r : EndRecord) (m : Agreement) where
  pub stale-recorded : is_stale r m ≡ true → recorded r (answer v r m) ≡ r
  unfolding answer recorded
  stale-recorded is = rw is

  pub agreed-recorded : is_stale r m ≡ false → is_agreed v m ≡ true → recorded r (answer v r m) ≡ agreed_record m
  unfolding answer recorded
  agreed-recorded fresh same = rw (fresh, same)

  pub noted-recorded : is_stale r m ≡ false → is_agreed v m ≡ false → recorded r (answer v r m) ≡ noted_record r m
  unfolding answer recorded
  noted-recorded fresh other = rw (fresh, other)

  -- what holds of the record, and of each that it may become, holds of the record afterwards
  pub recorded-by : (P : EndRecord → Type 0) → P r → P (agreed_record m) → P (noted_record r m) → P (recorded r (answer v r m))
  recorded-by P old agreed noted = go (is_stale r m) (is_agreed v m) refl refl
    where
      go : (b c : Bool) → is_stale r m ≡ b → is_agreed v m ≡ c → P (recorded r (answer v r m))
      go true c is seen = rw (stale-recorded is) old
      go false true is seen = rw (agreed-recorded is seen) agreed
      go false false is seen = rw (noted-recorded is seen) noted

  module _ (offers held : ℕ → ℕ) (d : ℕ) where
    pub stale-held : is_stale r m ≡ true → held_delivered v r m offers held d ≡ held d
    unfolding held_delivered
    stale-held is = rw is

    pub agreed-held : is_stale r m ≡ false → is_agreed v m ≡ true → held_delivered v r m offers held d ≡ offers d
    unfolding held_delivered
    agreed-held fresh same = rw (fresh, same)

    pub noted-held : is_stale r m ≡ false → is_agreed v m ≡ false → held_delivered v r m offers held d ≡ held d
    unfolding held_delivered
    noted-held fresh other = rw (fresh, other)

-- the receiver's number being n
module _ (n : ℕ) (r : EndRecord) (m : Agreement) where
  pub clearing-told : is_clearing n r m ≡ true → m.discarded ≡ n
  unfolding is_clearing
  clearing-told is = eqb-true m.discarded n (both_true (not (is_stale r m)) _ is).1

  module _ (offers sent : ℕ → ℕ) (d : ℕ) where
    pub sent-cleared : is_clearing n r m ≡ true → sent_delivered n r m offers sent d ≡ offers d
    unfolding sent_delivered
    sent-cleared is = rw is

    pub sent-kept : is_clearing n r m ≡ false → sent_delivered n r m offers sent d ≡ sent d
    unfolding sent_delivered
    sent-kept is = rw is

-- ---- a row at destination d depends only on the offer and the limit there

module _ (offers offers' row row' : ℕ → ℕ) (d : ℕ) (same : offers d ≡ offers' d) (old : row d ≡ row' d) where
  pub sent-updated-same : sent_updated offers row d ≡ sent_updated offers' row' d
  unfolding sent_updated
  sent-updated-same = rw (same, old)

  pub held-updated-same : (t : ℕ) (r : EndRecord) → held_updated t r offers row d ≡ held_updated t r offers' row' d
  unfolding held_updated
  held-updated-same t r = rw (same, old)

  pub sent-delivered-same : (n : ℕ) (r : EndRecord) (m : Agreement) → sent_delivered n r m offers row d ≡ sent_delivered n r m offers' row' d
  unfolding sent_delivered
  sent-delivered-same n r m = rw (same, old)

  pub held-delivered-same : (v : ℕ) (r : EndRecord) (m : Agreement) → held_delivered v r m offers row d ≡ held_delivered v r m offers' row' d
  unfolding held_delivered
  held-delivered-same v r m = rw (same, old)
