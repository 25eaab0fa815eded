-- Update, on the lists and in the network, with its reply. Assumes nothing.
use Prim.Native.Nat.{ℕ, suc, ◌+◌, ◌*◌, ◌≤◌, ◌<◌}
use native.Mathlib.Omega.{arith}
use mathlib.Core.Path.{◌≡◌, refl, sym, ◌∙◌, ap}
use mathlib.Core.Bool.{Bool, true, false, cond, ◌&&◌, not}
use borrow.Author.Tests.{lt-ltb, eqb-true, eqb-false}
use lib.ListN.{length, get_or, set, length-set}
use lib.Dec.{eqb}
use Rattle.distances.specs.Table.{cell}
use Rattle.distances.proofs.Booleans.{other-false}
use Rattle.agreement.specs.Offer.{opposite}
use Rattle.agreement.specs.Record.{fresh_record, updated, sent_updated, held_updated}
use Rattle.agreement.specs.Call.{ViewData, lent_offer}
use Rattle.agreement.specs.declared.EndRecord.{EndRecord}
use Rattle.agreement.proofs.RecordLaws.{holding_received, sent-updated-same, held-updated-same}
use Rattle.protocol.specs.Net.{Network, offer_in}
use Rattle.protocol.specs.Calls.{change, update, moved, updated_to, after_change, act, step}
use Rattle.bench.specs.State.{State, state}
use Rattle.bench.specs.Private.Views.{lent_view}
use Rattle.bench.specs.Private.Changes.{Ends, ends, moved_ends, moved_bench, ChangeOutcome, change_outcome, update_of}
use Rattle.bench.proofs.Represents.{Represents, Typed}
use Rattle.bench.specs.Private.ListSteps.{step_by}
use Rattle.protocol.proofs.Accepted.{UpdateExists, update-listed}
use Rattle.bench.proofs.TieRanges.{StateReady, get_d-stored, told, ready, network-ready, few, offer-stands}
use Rattle.bench.proofs.TieRefusals.{settled-step}
use Rattle.bench.proofs.TieChecks.{refusal-same}
use Rattle.bench.proofs.TieMovedEnds.{EndsUpdated}
use Rattle.bench.proofs.RangesKept.{lent_of, ends_of, ends_after, moved_state, turned, end_after, end-keeps, moved-kept}

-- bridge y moves to view t, another one
module _ (s : State) (n : Network) (r : Represents s n) (y t : ℕ) (low : y < s.bench.bridges) (view : t < s.bench.views) where
  pub is_ready : StateReady s
  is_ready = told s r.in_range

  counts : (s.bench.bridges ≤ 16) × (s.bench.links ≤ 32) × (2 * s.bench.links ≤ length s.bench.ends)
  counts = few s.bench _ is_ready.lasting

  abbrev lent_there : ViewData
  lent_there = lent_of s is_ready y t

  abbrev after : Ends
  after = ends_after s is_ready y t

  ends_after_update : EndsUpdated lent_there s.bench.views y t (ends_of s is_ready y t) (2 * s.bench.links) after
  ends_after_update = turned s is_ready y t r.typed.records view

  module _ (e : ℕ) (h : e < 2 * s.bench.links) where
    abbrev own : Bool
    own = eqb (get_or s.bench.ends e 0) y

    abbrev old : EndRecord
    old = get_or s.bench.records e fresh_record

    bridge-at : n.plan.graph.bridge_at e ≡ get_or s.bench.ends e 0
    bridge-at = rw r.plan

    own-end : get_or after.records e fresh_record ≡ cond own (updated t old) old
    own-end = end_after s is_ready y t r.typed.records view e h

    keeps : (P : EndRecord → Type 0) → P old → P (holding_received old) → P (get_or after.records e fresh_record)
    keeps = end-keeps s is_ready y t r.typed.records view e h

    module _ (d : ℕ) (k : d < s.bench.bridges) where
      sent-by :
          (c : Bool) →
          cond c (sent_updated (offer_in n.plan t e) (n.records.sent e)) (n.records.sent e) d
          ≡ cond c (sent_updated (lent_offer lent_there e) (cell s.sent e) d) (cell s.sent e d)
      sent-by true = sent-updated-same _ _ _ _ d (offer-stands s n r t view e d h k) (r.sent e d h k)
      sent-by false = r.sent e d h k

      sent-after : cond own (sent_updated (offer_in n.plan t e) (n.records.sent e)) (n.records.sent e) d ≡ cell after.sent e d
      sent-after = sent-by own ∙ sym (rw (lt-ltb e (2 * s.bench.links) h) at (ends_after_update.sent d k e))

      held_by :
          (c : Bool) →
          cond c (held_updated t (n.records.ends e) (offer_in n.plan t (opposite e)) (n.records.held e)) (n.records.held e) d
          ≡ cond c (held_updated t old (lent_offer lent_there (opposite e)) (cell s.held e) d) (cell s.held e d)
      held_by true =
          rw (r.ends e h) (held-updated-same _ _ _ _ d (offer-stands s n r t view (opposite e) d (omega arith) k) (r.held e d h k) t old)
      held_by false = r.held e d h k

      held_after :
          cond own (held_updated t (n.records.ends e) (offer_in n.plan t (opposite e)) (n.records.held e)) (n.records.held e) d
          ≡ cell after.held e d
      held_after = held_by own ∙ sym (rw (lt-ltb e (2 * s.bench.links) h) at (ends_after_update.held d k e))

  module _ (more : get_or s.bench.number y 0 < 65535) where
    number-after : (z : ℕ) → get_or (set s.bench.number y (get_or s.bench.number y 0 + 1)) z 0 ≡ cond (eqb z y) (suc (get_or s.bench.number z 0)) (get_or s.bench.number z 0)
    number-after z = get_d-stored s.bench.number y _ z 0 (omega (arith, counts.0, r.typed.numbers)) ∙ go (eqb z y) refl
      where
        go : (b : Bool) → eqb z y ≡ b → cond b (get_or s.bench.number y 0 + 1) (get_or s.bench.number z 0) ≡ cond b (suc (get_or s.bench.number z 0)) (get_or s.bench.number z 0)
        go true q = rw (eqb-true z y q) (omega arith)
        go false q = refl

    number_fits : (z : ℕ) → get_or s.bench.number z 0 < 65536 → cond (eqb z y) (suc (get_or s.bench.number z 0)) (get_or s.bench.number z 0) < 65536
    number_fits z old = go (eqb z y) refl
      where
        go : (b : Bool) → eqb z y ≡ b → cond b (suc (get_or s.bench.number z 0)) (get_or s.bench.number z 0) < 65536
        go true q = rw (eqb-true z y q) (omega arith)
        go false q = old

    abbrev state_after : State
    state_after = moved_state s is_ready y t

    typed-after : Typed state_after.bench
    typed-after =
        record {
          views = simp length-set r.typed.views;
          numbers = simp length-set r.typed.numbers;
          records = ends_after_update.records_long ∙ r.typed.records;
          flags = r.typed.flags;
          number = λ z h. rw (number-after z) (number_fits z (r.typed.number z h));
          received = λ e h. keeps e h (λ (x : EndRecord). x.received < 65536) (r.typed.received e h) (r.typed.received e h);
          discarded = λ e h. keeps e h (λ (x : EndRecord). x.discarded < 65536) (r.typed.discarded e h) (r.typed.received e h);
        }

    pub kept-moved : Represents state_after (moved n y t)
    unfolding moved
    kept-moved =
        record {
          in_range = ready state_after (moved-kept s is_ready y t r.typed.records view);
          typed = typed-after;
          plan = r.plan;
          view = λ z h. rw (r.view z h) (sym (get_d-stored s.bench.view y t z 0 (omega (arith, counts.0, r.typed.views))));
          number = λ z h. rw (r.number z h) (sym (number-after z));
          down = r.down;
          ends = λ e h. rw (r.plan, r.ends e h) (sym (own-end e h));
          sent = λ e d h k. rw (bridge-at e h) (sent-after e h d k);
          held = λ e d h k. rw (bridge-at e h) (held_after e h d k);
          messages = r.messages;
        }

module _ (s : State) (n : Network) (r : Represents s n) (y t : ℕ) where
  -- the state with what an update leaves
  abbrev with_rewritten : ChangeOutcome → State
  with_rewritten o = state o.bench s.costs o.sent o.held s.messages

  abbrev update_done : Bool → ChangeOutcome
  update_done same =
      cond same (change_outcome 0 s.bench s.sent s.held)
      (moved_bench s.bench y t
      (moved_ends (lent_view s.bench s.costs t) s.bench.views y t (2 * s.bench.links) (ends s.bench.records s.sent s.held)))

  -- an accepted one
  kept-update : UpdateExists n y t → Represents (with_rewritten (update_done (eqb (get_or s.bench.view y 0) t))) (updated_to n y t)
  unfolding updated_to
  kept-update listed = rw (r.view y low) (go (eqb (get_or s.bench.view y 0) t) refl)
    where
      low : y < s.bench.bridges
      low = rw r.plan at listed.bridge

      number : eqb (get_or s.bench.number y 0) 65535 && not (eqb (get_or s.bench.view y 0) t) ≡ false
      number = rw (r.number y low, r.view y low) at listed.number_left

      more : eqb (get_or s.bench.view y 0) t ≡ false → get_or s.bench.number y 0 < 65535
      more q = omega (arith, r.typed.number y low, eqb-false (get_or s.bench.number y 0) 65535 (other-false _ (not (eqb (get_or s.bench.view y 0) t)) (ap not number) (rw q)))

      go : (same : Bool) → eqb (get_or s.bench.view y 0) t ≡ same → Represents (with_rewritten (update_done same)) (cond same n (moved n y t))
      go true q = r
      go false q = kept-moved s n r y t low (rw r.plan at listed.view) (more q)

  pub update-represents : Represents (step_by s (change (update y t))) (step n (change (update y t)))
  unfolding step_by update_of act after_change
  update-represents =
      settled-step with_rewritten n (change (update y t)) _ (λ k. change_outcome k s.bench s.sent s.held) (update_done (eqb (get_or s.bench.view y 0) t))
      (refusal-same s n r _ (change (update y t)) (network-ready s (told s r.in_range)))
      (λ m. r)
      (λ a. kept-update (update-listed n y t a))
