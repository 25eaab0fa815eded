-- What is in range stays so when the messages in flight change, and when a bridge moves to another view. Assumes nothing.
use Prim.Native.Nat.{ℕ, zero, suc, ◌+◌, ◌*◌, ◌-◌, ◌≤◌, ◌<◌}
use native.Mathlib.Omega.{arith}
use mathlib.Core.Path.{◌≡◌, refl, ◌∙◌}
use mathlib.Core.Bool.{Bool, true, false, cond}
use mathlib.Core.List.{List, [], ◌∷◌}
use lib.ListN.{length, get_or, set}
use lib.Seq.{sets, length-sets}
use lib.Dec.{eqb, ltb}
use borrow.Author.Tests.{ltb-true, ltb-false, lt-ltb}
use Rattle.agreement.specs.Record.{fresh_record, updated}
use Rattle.agreement.specs.Ranges.{record_in_range}
use Rattle.agreement.specs.Call.{ViewData}
use Rattle.agreement.specs.declared.EndRecord.{EndRecord}
use Rattle.agreement.proofs.RecordLaws.{holding_received, updated-by}
use Rattle.agreement.proofs.InRange.{view-passes, record_same}
use Rattle.protocol.specs.Net.{Message}
use Rattle.bench.specs.State.{State, state, message_from}
use Rattle.bench.specs.Private.Views.{lent_view}
use Rattle.bench.specs.Private.Changes.{Ends, ends, moved_ends, moved_bench}
use Rattle.bench.specs.State.{numbers_of}
use Rattle.bench.specs.Private.Queue.{with_count, taken_out}
use Rattle.protocol.proofs.Places.{skipped}
use Rattle.bench.proofs.TieRanges.{StateReady, few, lent-in-range}
use Rattle.bench.proofs.TieQueue.{taken-length, taken-message, taken-below, added-message, kept-message}
use Rattle.bench.proofs.TieChecks.{MessageFacts, message-told, told-message}
use Rattle.bench.proofs.TieMovedEnds.{EndsUpdated, EndsReady, turned-all}

-- what holds of a stored value and of those that were there holds of each afterwards
pub stored-keeps : {A : Type 0} (P : A → Type 0) (l : List A) (p : ℕ) (v : A) (q : ℕ) (d : A) → P v → P (get_or l q d) → P (get_or (set l p v) q d)
stored-keeps P [] p v q d new old = old
stored-keeps P (x ∷ l) zero v zero d new old = new
stored-keeps P (x ∷ l) zero v (suc q) d new old = old
stored-keeps P (x ∷ l) (suc p) v zero d new old = old
stored-keeps P (x ∷ l) (suc p) v (suc q) d new old = stored-keeps P l p v q d new old

-- ---- messages in flight

-- one added
added-told :
    (links views count : ℕ) (m : List ℕ) (x : Message) →
    5 * count + 5 ≤ length m →
    ((i : ℕ) → i < count → MessageFacts links views (message_from m i)) →
    MessageFacts links views x →
    (i : ℕ) →
    i < count + 1 →
    MessageFacts links views (message_from (sets m (5 * count) (numbers_of x)) i)
added-told links views count m x room each inside i low = go (ltb i count) refl
  where
    go : (b : Bool) → ltb i count ≡ b → MessageFacts links views (message_from (sets m (5 * count) (numbers_of x)) i)
    go true q = let h : i < count = ltb-true _ _ q in rw (kept-message count m x room i h) (each i h)
    go false q = let last : i ≡ count = omega (arith, ltb-false i count q) in rw (last, added-message count m x room) inside

-- the state with other messages in flight
abbrev pub with_flight : State → ℕ → List ℕ → State
with_flight s k m = state (with_count s.bench k) s.costs s.sent s.held m

module _ (s : State) (r : StateReady s) where
  flight-kept :
      (k : ℕ) (m : List ℕ) →
      k ≤ 64 →
      length m ≡ length s.messages →
      ((p : ℕ) → p < k → MessageFacts s.bench.links s.bench.views (message_from m p)) →
      StateReady (with_flight s k m)
  flight-kept k m few long each =
      record {
        lasting = r.lasting;
        sent_long = r.sent_long;
        held_long = r.held_long;
        count = few;
        view = r.view;
        records = r.records;
        messages_long = rw long r.messages_long;
        message = λ p h. told-message _ _ _ (each p h);
      }

  each-told : (p : ℕ) → p < s.bench.messages → MessageFacts s.bench.links s.bench.views (message_from s.messages p)
  each-told p h = message-told _ _ _ (r.message p h)

  -- one taken out
  pub taken-kept : (p : ℕ) → p < s.bench.messages → StateReady (with_flight s (s.bench.messages - 1) (taken_out s.bench.messages p s.messages))
  taken-kept p listed =
      let long : 5 * s.bench.messages ≤ length s.messages = omega (arith, r.count, r.messages_long) in
      flight-kept (s.bench.messages - 1) _ (omega (arith, r.count)) (taken-length s.bench.messages p s.messages)
      (λ i low. rw (taken-message s.bench.messages p s.messages listed long i low)
      (each-told (skipped p i) (taken-below s.bench.messages p s.messages listed long i low)))

  -- one added
  pub added-kept :
      (x : Message) →
      s.bench.messages < 64 →
      MessageFacts s.bench.links s.bench.views x →
      StateReady (with_flight s (s.bench.messages + 1) (sets s.messages (5 * s.bench.messages) (numbers_of x)))
  added-kept x free inside =
      flight-kept (s.bench.messages + 1) _ (omega arith) (length-sets s.messages (5 * s.bench.messages) (numbers_of x))
      (added-told s.bench.links s.bench.views s.bench.messages s.messages x (omega (arith, r.messages_long)) each-told inside)

  -- ---- bridge y moves to view t, another one

  module _ (y t : ℕ) where
    abbrev pub lent_of : ViewData
    lent_of = lent_view s.bench s.costs t

    abbrev pub ends_of : Ends
    ends_of = ends s.bench.records s.sent s.held

    abbrev pub ends_after : Ends
    ends_after = moved_ends lent_of s.bench.views y t (2 * s.bench.links) ends_of

    abbrev pub moved_state : State
    moved_state = let o = moved_bench s.bench y t ends_after in state o.bench s.costs o.sent o.held s.messages

    module _ (room : length s.bench.records ≡ 64) (view : t < s.bench.views) where
      ends-ready : EndsReady lent_of s.bench.views y t ends_of
      ends-ready =
          let counts = few s.bench _ r.lasting in
          record {
            few = counts.0;
            view = lent-in-range s.bench _ r.lasting t view;
            is_view = view-passes _ t r.lasting.views_least r.lasting.views_most view;
            records = r.records;
            links = counts.1;
            records_room = omega (arith, counts.1, room);
            sent_room = r.sent_long;
            held_room = r.held_long;
          }

      pub turned : EndsUpdated lent_of s.bench.views y t ends_of (2 * s.bench.links) ends_after
      turned = turned-all lent_of s.bench.views y t ends_of ends-ready (2 * s.bench.links) (omega arith)

      module _ (e : ℕ) (h : e < 2 * s.bench.links) where
        abbrev old : EndRecord
        old = get_or s.bench.records e fresh_record

        pub end_after : get_or ends_after.records e fresh_record ≡ cond (eqb (get_or s.bench.ends e 0) y) (updated t old) old
        end_after = rw (lt-ltb e (2 * s.bench.links) h) at (turned.end e)

        pub end-keeps : (P : EndRecord → Type 0) → P old → P (holding_received old) → P (get_or ends_after.records e fresh_record)
        end-keeps P before after = rw end_after (go (eqb (get_or s.bench.ends e 0) y))
          where
            go : (c : Bool) → P (cond c (updated t old) old)
            go true = updated-by t old P before after
            go false = before

      pub moved-kept : StateReady moved_state
      moved-kept =
          record {
            lasting = r.lasting;
            sent_long = rw turned.sent_long r.sent_long;
            held_long = rw turned.held_long r.held_long;
            count = r.count;
            view = λ z h. stored-keeps (λ (x : ℕ). x < s.bench.views) s.bench.view y t z 0 view (r.view z h);
            records = λ e h.
                end-keeps e h (λ (x : EndRecord). record_in_range s.bench.views x ≡ true) (r.records e h)
                (record_same s.bench.views (holding_received (old e h)) (old e h) refl ∙ r.records e h);
            messages_long = r.messages_long;
            message = r.message;
          }
