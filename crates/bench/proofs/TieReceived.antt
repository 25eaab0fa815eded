-- Layer 2 takes a message in range at an end of a state in range, and the network still stands in the state. Assumes nothing.
use Prim.Native.Nat.{ℕ, ◌+◌, ◌*◌, ◌≤◌, ◌<◌}
use native.Mathlib.Omega.{arith}
use mathlib.Core.Path.{◌≡◌, sym}
use mathlib.Core.Bool.{true, cond, ◌&&◌}
use mathlib.Core.List.{List}
use lib.ListN.{length, get_or, set, length-set}
use lib.Dec.{eqb}
use Rattle.distances.specs.Table.{cell}
use Rattle.distances.proofs.Booleans.{true-both}
use Rattle.agreement.specs.Offer.{opposite}
use Rattle.agreement.specs.Record.{fresh_record, answer, recorded, sent_delivered, held_delivered}
use Rattle.agreement.specs.Limits.{with_limits}
use Rattle.agreement.specs.Ranges.{record_in_range, delivery_in_range}
use Rattle.agreement.specs.Call.{ViewData, lent_offer, lent_end_in_range, deliver_outcome, outcome, says}
use Rattle.agreement.specs.declared.EndRecord.{EndRecord}
use Rattle.agreement.proofs.Ends.{opposite-below}
use Rattle.agreement.proofs.LimitLaws.{with_limits-length}
use Rattle.agreement.proofs.RecordLaws.{recorded-by, sent-delivered-same, held-delivered-same}
use Rattle.agreement.proofs.InRange.{view-passes, recorded-passes, end-passes, delivery-passes}
use Rattle.agreement.proofs.Outcomes.{deliver-accepted}
use Rattle.protocol.specs.Net.{Network, Message, offer_in}
use Rattle.protocol.specs.Calls as calls
use Rattle.bench.specs.State.{State, state}
use Rattle.bench.specs.Private.Views.{lent_view}
use Rattle.bench.specs.Private.Changes.{bench_with_records}
use Rattle.bench.specs.Private.Deliveries.{delivery_at}
use Rattle.bench.proofs.Represents.{Represents, Typed}
use Rattle.bench.proofs.CallSteps.{with_delivered}
use Rattle.bench.proofs.TieRanges.{StateReady, ready, few, are-bridges, lent-in-range, lent-offer-in, get_d-stored}
use Rattle.bench.proofs.TieChecks.{MessageFacts}
use Rattle.bench.proofs.TieRows.{row_at}
use Rattle.bench.proofs.RangesKept.{stored-keeps}

-- a message x at end e
module _
    (s : State)
    (before : StateReady s)
    (e : ℕ)
    (he : e < 2 * s.bench.links)
    (x : Message)
    (inside : MessageFacts s.bench.links s.bench.views x) where
  -- the end's bridge, its view and number, and the end's record
  abbrev bridge : ℕ
  bridge = get_or s.bench.ends e 0

  abbrev view : ℕ
  view = get_or s.bench.view bridge 0

  abbrev number : ℕ
  number = get_or s.bench.number bridge 0

  abbrev old : EndRecord
  old = get_or s.bench.records e fresh_record

  abbrev new : EndRecord
  new = recorded old (answer view old x.agreement)

  abbrev lent_there : ViewData
  lent_there = lent_view s.bench s.costs view

  is-bridge : bridge < s.bench.bridges
  is-bridge = are-bridges s.bench s.costs before.lasting e he

  is_view : view < s.bench.views
  is_view = before.view bridge is-bridge

  small : (s.bench.bridges ≤ 16) × (s.bench.links ≤ 32) × (2 * s.bench.links ≤ length s.bench.ends)
  small = few s.bench s.costs before.lasting

  pub taken : (lent_end_in_range lent_there s.sent s.held e && delivery_in_range s.bench.views view old x.agreement.view) ≡ true
  taken =
      true-both
      (end-passes _ _ _ _ _ _ _ (lent-in-range s.bench s.costs before.lasting view is_view) before.sent_long before.held_long e he)
      (delivery-passes _ view old x.agreement.view (view-passes _ view before.lasting.views_least before.lasting.views_most is_view) (before.records e he) inside.view)

  abbrev sent_now : List ℕ
  sent_now = with_limits s.bench.bridges e (sent_delivered number old x.agreement (lent_offer lent_there e) (cell s.sent e)) s.sent

  abbrev held_now : List ℕ
  held_now =
      with_limits s.bench.bridges e (held_delivered view old x.agreement (lent_offer lent_there (opposite e)) (cell s.held e))
      s.held

  outcome-is :
      deliver_outcome lent_there s.bench.views view number e old x.agreement s.sent s.held
      ≡ outcome (says (answer view old x.agreement)) new sent_now held_now
  outcome-is = deliver-accepted lent_there e s.sent s.held s.bench.views view old number x.agreement taken

  abbrev after : State
  after = state (bench_with_records s.bench (set s.bench.records e new)) s.costs sent_now held_now s.messages

  each-record :
      (P : EndRecord → Type 0) (k : ℕ) →
      P new →
      P (get_or s.bench.records k fresh_record) →
      P (get_or (set s.bench.records e new) k fresh_record)
  each-record P k now same = stored-keeps P s.bench.records e new k fresh_record now same

  after-ready : StateReady after
  after-ready =
      record {
        lasting = before.lasting;
        sent_long = rw with_limits-length before.sent_long;
        held_long = rw with_limits-length before.held_long;
        count = before.count;
        view = before.view;
        records = λ k hk.
            each-record (λ z. record_in_range s.bench.views z ≡ true) k
            (recorded-passes s.bench.views view old x.agreement (before.records e he) inside.view)
            (before.records k hk);
        messages_long = before.messages_long;
        message = before.message;
      }

  module _ (n : Network) (r : Represents s n) where
    -- a record afterwards
    record-at : (k : ℕ) → get_or (set s.bench.records e new) k fresh_record ≡ cond (eqb k e) new (get_or s.bench.records k fresh_record)
    record-at k = get_d-stored s.bench.records e new k fresh_record (omega (arith, small, r.typed.records))

    after-typed : Typed after.bench
    after-typed =
        record {
          views = r.typed.views;
          numbers = r.typed.numbers;
          records = rw length-set r.typed.records;
          flags = r.typed.flags;
          number = r.typed.number;
          received = λ k hk.
              each-record (λ z. z.received < 65536) k
              (recorded-by view old x.agreement (λ z. z.received < 65536) (r.typed.received e he) inside.number inside.number)
              (r.typed.received k hk);
          discarded = λ k hk.
              each-record (λ z. z.discarded < 65536) k
              (recorded-by view old x.agreement (λ z. z.discarded < 65536) (r.typed.discarded e he) inside.number (r.typed.discarded e he))
              (r.typed.discarded k hk);
        }

    -- what the network has there
    same-bridge : n.plan.graph.bridge_at e ≡ bridge
    same-bridge = rw r.plan

    same_view : n.view (n.plan.graph.bridge_at e) ≡ view
    same_view = rw same-bridge (r.view bridge is-bridge)

    same_number : n.number (n.plan.graph.bridge_at e) ≡ number
    same_number = rw same-bridge (r.number bridge is-bridge)

    same-offer : (k d : ℕ) → k < 2 * s.bench.links → d < s.bench.bridges → offer_in n.plan view k d ≡ lent_offer lent_there k d
    same-offer k d hk hd =
        rw r.plan
        (sym
        (lent-offer-in s.bench s.costs before.lasting view is_view k d hk hd))

    -- the answer
    pub received-answer : (delivery_at s e x.agreement).reply ≡ says (calls.answer_to n e x)
    unfolding delivery_at
    received-answer = rw (outcome-is, same_view, r.ends e he)

    -- the row of e is in the tables
    row_fits : (l : List ℕ) → 1024 ≤ length l → 16 * e + 16 ≤ length l
    row_fits l long = omega (arith, small)

    after-represents : Represents after (calls.received_at n e x)
    unfolding calls.received_at
    after-represents =
        record {
          in_range = ready after after-ready;
          typed = after-typed;
          plan = r.plan;
          view = r.view;
          number = r.number;
          down = r.down;
          ends = λ k hk. rw (record-at k, same_view, r.ends e he, r.ends k hk);
          sent =
              λ k d hk hd. row_at s.bench.bridges e s.sent _ n.records.sent _ k d small.0 (row_fits s.sent before.sent_long) hd
              (rw (same_number, same_view, r.ends e he)
              (sent-delivered-same _ _ _ _ d (same-offer e d he hd) (r.sent e d he hd) number old x.agreement))
              (r.sent k d hk hd);
          held =
              λ k d hk hd. row_at s.bench.bridges e s.held _ n.records.held _ k d small.0 (row_fits s.held before.held_long) hd
              (rw (same_view, r.ends e he)
              (held-delivered-same _ _ _ _ d (same-offer (opposite e) d (opposite-below e _ he) hd) (r.held e d he hd) view old x.agreement))
              (r.held k d hk hd);
          messages = r.messages;
        }

    pub received-represents : Represents (with_delivered s (delivery_at s e x.agreement)) (calls.received_at n e x)
    unfolding delivery_at
    received-represents = rw outcome-is after-represents
