-- An update, end by end: after k turns the bridge's own ends below k are updated, and every other end is as before. Assumes nothing.
use Prim.Native.Nat.{ℕ, zero, suc, ◌+◌, ◌*◌, ◌≤◌, ◌<◌}
use native.Mathlib.Omega.{arith}
use mathlib.Core.Path.{◌≡◌, refl, sym, ◌∙◌, ap}
use mathlib.Core.Bool.{Bool, true, false, cond, ◌&&◌}
use mathlib.Core.List.{List}
use borrow.Author.Tests.{ltb-true, lt-ltb, le-ltb, eqb-true, eqb-false}
use lib.ListN.{length, get_or, length-set}
use lib.Seq.{get_or-set_same, get_or-set_other, set-get_or}
use lib.Dec.{eqb, ltb}
use Rattle.distances.specs.Table.{cell}
use Rattle.distances.proofs.Booleans.{true-both, not-both, same_test}
use Rattle.agreement.specs.Offer.{opposite}
use Rattle.agreement.specs.Record.{fresh_record, updated, sent_updated, held_updated}
use Rattle.agreement.specs.Limits.{with_limits}
use Rattle.agreement.specs.Ranges.{is_view, record_in_range}
use Rattle.agreement.specs.Call.{ViewData, lent_in_range, lent_offer, update_outcome, outcome}
use Rattle.agreement.specs.declared.EndRecord.{EndRecord}
use Rattle.agreement.proofs.LimitLaws.{with_limits-length, cell_same, cell_other}
use Rattle.agreement.proofs.RecordLaws.{sent-updated-same, held-updated-same}
use Rattle.agreement.proofs.InRange.{end-passes}
use Rattle.agreement.proofs.Outcomes.{update-accepted}
use Rattle.bench.specs.Private.Changes.{Ends, ended, end_into, moved_end, moved_ends}

-- is e an end of bridge y among those below k
abbrev turned : List ℕ → ℕ → ℕ → ℕ → Bool
turned places y k e = ltb e k && eqb (get_or places e 0) y

module _ (places : List ℕ) (y k : ℕ) where
  turned-other : (e : ℕ) → (e ≡ k → ⊥) → turned places y k e ≡ turned places y (suc k) e
  turned-other e apart =
      ap (λ (b : Bool). b && eqb (get_or places e 0) y)
      (same_test (ltb e k) (ltb e (suc k))
      (λ q. lt-ltb e (suc k) (omega (arith, ltb-true e k q)))
      (λ q. lt-ltb e k (omega (arith, ltb-true e (suc k) q))))

  -- an end of another bridge
  turned_apart : eqb (get_or places k 0) y ≡ false → (e : ℕ) → turned places y k e ≡ turned places y (suc k) e
  turned_apart apart e = go (eqb e k) refl
    where
      go : (b : Bool) → eqb e k ≡ b → turned places y k e ≡ turned places y (suc k) e
      go true q = rw (eqb-true e k q, apart) (not-both (ltb k k) false refl ∙ sym (not-both (ltb k (suc k)) false refl))
      go false q = turned-other e (eqb-false e k q)

  -- an end of y: it is new, and what stands at the others stays
  turned-own :
      {A : Type 0} (new old before after : ℕ → A) →
      eqb (get_or places k 0) y ≡ true →
      ((e : ℕ) → before e ≡ cond (turned places y k e) (new e) (old e)) →
      after k ≡ new k →
      ((e : ℕ) → (e ≡ k → ⊥) → after e ≡ before e) →
      (e : ℕ) →
      after e ≡ cond (turned places y (suc k) e) (new e) (old e)
  turned-own {A} new old before after own ih now others e = go (eqb e k) refl
    where
      go : (b : Bool) → eqb e k ≡ b → after e ≡ cond (turned places y (suc k) e) (new e) (old e)
      go true q = rw (eqb-true e k q, lt-ltb k (suc k) (omega arith), own) now
      go false q = rw (← turned-other e (eqb-false e k q)) (others e (eqb-false e k q) ∙ ih e)

module _ (v : ViewData) (views y t : ℕ) (x : Ends) where
  -- the record of end e before the first turn
  abbrev old_end : ℕ → EndRecord
  old_end e = get_or x.records e fresh_record

  -- what stands in z, as the first k turns leave it
  pub record EndsUpdated (k : ℕ) (z : Ends) : Type 0 where
    pub records_long : length z.records ≡ length x.records
    pub sent_long : length z.sent ≡ length x.sent
    pub held_long : length z.held ≡ length x.held
    pub end : (e : ℕ) → get_or z.records e fresh_record ≡ cond (turned v.ends y k e) (updated t (old_end e)) (old_end e)
    pub sent : (d : ℕ) → d < v.bridges → (e : ℕ) → cell z.sent e d ≡ cond (turned v.ends y k e) (sent_updated (lent_offer v e) (cell x.sent e) d) (cell x.sent e d)
    pub held : (d : ℕ) → d < v.bridges → (e : ℕ) → cell z.held e d ≡ cond (turned v.ends y k e) (held_updated t (old_end e) (lent_offer v (opposite e)) (cell x.held e) d) (cell x.held e d)

  -- what the layer below checks of each end, before the first turn
  pub record EndsReady : Type 0 where
    pub few : v.bridges ≤ 16
    pub view : lent_in_range v ≡ true
    pub is_view : is_view views t ≡ true
    pub records : (e : ℕ) → e < 2 * v.links → record_in_range views (old_end e) ≡ true
    pub links : v.links ≤ 32
    pub records_room : 2 * v.links ≤ length x.records
    pub sent_room : 1024 ≤ length x.sent
    pub held_room : 1024 ≤ length x.held

  turned_none : EndsUpdated 0 x
  turned_none =
      record {
        records_long = refl;
        sent_long = refl;
        held_long = refl;
        end = λ e. rw (le-ltb e 0 (omega arith));
        sent = λ d h e. rw (le-ltb e 0 (omega arith));
        held = λ d h e. rw (le-ltb e 0 (omega arith));
      }

  module _ (ok : EndsReady) (k : ℕ) (low : k < 2 * v.links) (z : Ends) (ih : EndsUpdated k z) where
    -- the end of this turn is as before
    abbrev now : EndRecord
    now = get_or z.records k fresh_record

    old-end : now ≡ old_end k
    old-end = rw (le-ltb k k (omega arith)) at (ih.end k)

    old-sent : (d : ℕ) → d < v.bridges → cell z.sent k d ≡ cell x.sent k d
    old-sent d h = rw (le-ltb k k (omega arith)) at (ih.sent d h k)

    old-held : (d : ℕ) → d < v.bridges → cell z.held k d ≡ cell x.held k d
    old-held d h = rw (le-ltb k k (omega arith)) at (ih.held d h k)

    abbrev new_sent : List ℕ
    new_sent = with_limits v.bridges k (sent_updated (lent_offer v k) (cell z.sent k)) z.sent

    abbrev new_held : List ℕ
    new_held = with_limits v.bridges k (held_updated t now (lent_offer v (opposite k)) (cell z.held k)) z.held

    update-is : update_outcome v views t k now z.sent z.held ≡ outcome 0 (updated t now) new_sent new_held
    update-is =
        update-accepted v k z.sent z.held views t now
        (true-both
        (end-passes _ _ _ _ _ _ _ ok.view (rw ih.sent_long ok.sent_room) (rw ih.held_long ok.held_room) k low)
        (true-both ok.is_view (rw old-end (ok.records k low))))

    own_turn : eqb (get_or v.ends k 0) y ≡ true → EndsUpdated (suc k) (end_into z k (ended (updated t now) new_sent new_held))
    own_turn own =
        let room : k < length z.records = omega (arith, ok.records_room, ih.records_long) in
        let sent_row : 16 * k + 16 ≤ length z.sent = omega (arith, ok.links, ok.sent_room, ih.sent_long) in
        let held_row : 16 * k + 16 ≤ length z.held = omega (arith, ok.links, ok.held_room, ih.held_long) in
        record {
          records_long = simp length-set ih.records_long;
          sent_long = with_limits-length _ _ _ _ ∙ ih.sent_long;
          held_long = with_limits-length _ _ _ _ ∙ ih.held_long;
          end =
              turned-own v.ends y k _ _ _ _ own ih.end (get_or-set_same z.records k _ fresh_record room ∙ ap (updated t) old-end)
              (λ e apart. get_or-set_other z.records k e _ fresh_record apart);
          sent =
              λ d h. turned-own v.ends y k _ _ _ _ own (ih.sent d h)
              (cell_same v.bridges k _ z.sent d h ok.few sent_row ∙ sent-updated-same _ _ _ _ d refl (old-sent d h))
              (λ e apart. cell_other v.bridges k _ z.sent e d apart (omega (arith, ok.few)));
          held =
              λ d h. turned-own v.ends y k _ _ _ _ own (ih.held d h)
              (cell_same v.bridges k _ z.held d h ok.few held_row ∙ rw old-end (held-updated-same _ _ _ _ d refl (old-held d h) t (old_end k)))
              (λ e apart. cell_other v.bridges k _ z.held e d apart (omega (arith, ok.few)));
        }

    other-turn : eqb (get_or v.ends k 0) y ≡ false → EndsUpdated (suc k) (end_into z k (ended now z.sent z.held))
    other-turn apart =
        record {
          records_long = simp length-set ih.records_long;
          sent_long = ih.sent_long;
          held_long = ih.held_long;
          end = λ e. rw (set-get_or, ← turned_apart v.ends y k apart e) (ih.end e);
          sent = λ d h e. rw (← turned_apart v.ends y k apart e) (ih.sent d h e);
          held = λ d h e. rw (← turned_apart v.ends y k apart e) (ih.held d h e);
        }

    turn : EndsUpdated (suc k) (end_into z k (moved_end v views t y k now z.sent z.held))
    unfolding moved_end
    turn = rw update-is (go (eqb (get_or v.ends k 0) y) refl)
      where
        go : (b : Bool) → eqb (get_or v.ends k 0) y ≡ b → EndsUpdated (suc k) (end_into z k (cond b (ended (updated t now) new_sent new_held) (ended now z.sent z.held)))
        go true q = own_turn q
        go false q = other-turn q

  pub turned-all : EndsReady → (k : ℕ) → k ≤ 2 * v.links → EndsUpdated k (moved_ends v views y t k x)
  unfolding moved_ends
  turned-all ok zero h = turned_none
  turned-all ok (suc k) h = turn ok k h (moved_ends v views y t k x) (turned-all ok k (omega arith))

pub records-long : (v : ViewData) (views y t k : ℕ) (x : Ends) → length (moved_ends v views y t k x).records ≡ length x.records
unfolding moved_ends
records-long v views y t zero x = refl
records-long v views y t (suc e) x =
    let z : Ends = moved_ends v views y t e x in
    length-set z.records e (moved_end v views t y e (get_or z.records e fresh_record) z.sent z.held).end ∙ records-long v views y t e x
