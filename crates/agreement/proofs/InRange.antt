-- The entry tests of views, records, ends, deliveries and the forwarding choice: when each passes, and what it tells. Assumes nothing.
use Prim.Native.Nat.{ℕ, ◌*◌, ◌≤◌, ◌<◌}
use mathlib.Core.Path.{◌≡◌, refl}
use mathlib.Core.Bool.{Bool, true, false, ◌||◌}
use mathlib.Core.List.{List}
use borrow.Author.Tests.{le-leb, leb-true, lt-ltb}
use lib.ListN.{get_or}
use lib.Dec.{eqb, leb}
use Rattle.distances.proofs.Booleans.{both_true, true-both}
use Rattle.distances.proofs.Ranges.{all_below-true, true-all_below}
use Rattle.agreement.specs.Record.{no_view, fresh_record, answer, recorded}
use Rattle.agreement.specs.Ranges.{view_in_range, is_view, record_in_range, records_in_range, end_in_range, delivery_in_range, port_in_range}
use Rattle.agreement.specs.declared.EndRecord.{EndRecord}
use Rattle.agreement.specs.declared.Agreement.{Agreement}
use Rattle.agreement.proofs.RecordLaws.{recorded-by}

module _ (views : ℕ) where
  pub view-passes : (t : ℕ) → 1 ≤ views → views ≤ 32 → t < views → is_view views t ≡ true
  unfolding is_view
  view-passes t least most low = true-both (le-leb _ _ least) (true-both (le-leb _ _ most) (lt-ltb _ _ low))

  -- a record: only its view is looked at
  pub record_same : (r s : EndRecord) → r.view ≡ s.view → record_in_range views r ≡ record_in_range views s
  unfolding record_in_range
  record_same r s e = rw e

  pub fresh-record-passes : record_in_range views fresh_record ≡ true
  unfolding record_in_range
  fresh-record-passes = refl

  pub record-passes : (r : EndRecord) → r.view < views → record_in_range views r ≡ true
  unfolding record_in_range
  record-passes r low = rw (lt-ltb r.view views low) (go (eqb r.view no_view))
    where
      go : (a : Bool) → (a || true) ≡ true
      go true = refl
      go false = refl

  -- the record after a delivery
  pub recorded-passes :
      (v : ℕ) (r : EndRecord) (m : Agreement) →
      record_in_range views r ≡ true →
      m.view < views →
      record_in_range views (recorded r (answer v r m)) ≡ true
  recorded-passes v r m old low = recorded-by v r m (λ x. record_in_range views x ≡ true) old (record-passes _ low) (record-passes _ low)

  -- the records of all ends
  module _ (links : ℕ) (records : List EndRecord) where
    abbrev pub EachInRange : Type 0
    EachInRange = (e : ℕ) → e < 2 * links → record_in_range views (get_or records e fresh_record) ≡ true

    pub records-pass : links ≤ 32 → EachInRange → records_in_range views links records ≡ true
    unfolding records_in_range
    records-pass few each = true-both (le-leb _ _ few) (true-all_below _ _ each)

    pub records-told : records_in_range views links records ≡ true → (links ≤ 32) × EachInRange
    unfolding records_in_range
    records-told ok = let h = both_true (leb links 32) _ ok in (leb-true _ _ h.0, all_below-true _ _ h.1)

  pub delivery-passes :
      (t : ℕ) (r : EndRecord) (received : ℕ) →
      is_view views t ≡ true →
      record_in_range views r ≡ true →
      received < views →
      delivery_in_range views t r received ≡ true
  unfolding delivery_in_range
  delivery-passes t r received view record-ok low = true-both view (true-both record-ok (lt-ltb _ _ low))

module _
    (bridges links : ℕ)
    (ends costs table : List ℕ)
    (sent held : ℕ)
    (view : view_in_range bridges links ends costs table ≡ true)
    (sent_long : 1024 ≤ sent)
    (held_long : 1024 ≤ held) where
  pub end-passes : (e : ℕ) → e < 2 * links → end_in_range bridges links ends costs table sent held e ≡ true
  unfolding end_in_range
  end-passes e low = true-both view (true-both (le-leb _ _ sent_long) (true-both (le-leb _ _ held_long) (lt-ltb _ _ low)))

  pub port-passes :
      (views : ℕ) (records : List EndRecord) (y d : ℕ) →
      1 ≤ views →
      views ≤ 32 →
      records_in_range views links records ≡ true →
      y < bridges →
      d < bridges →
      port_in_range bridges links ends costs table views records sent held y d ≡ true
  unfolding port_in_range
  port-passes views records y d least most each hy hd =
      true-both view
      (true-both (true-both (le-leb _ _ sent_long) (le-leb _ _ held_long))
      (true-both (true-both (le-leb _ _ least) (le-leb _ _ most)) (true-both each (true-both (lt-ltb _ _ hy) (lt-ltb _ _ hd)))))
