-- A message at an end, as layer 2 takes it by plain numbers. Assumes nothing.
use Prim.Native.Nat.{ℕ, ◌+◌, ◌*◌, ◌/◌, ◌<◌}
use native.Mathlib.Omega.{arith}
use mathlib.Core.Path.{◌≡◌, sym, ap, ◌∙◌}
use mathlib.Core.Bool.{true}
use mathlib.Core.List.{List, []}
use lib.ListN.{length, get_or, set}
use Rattle.distances.proofs.Booleans.{both_true}
use Rattle.agreement.specs.Record.{fresh_record}
use Rattle.agreement.specs.Offer.{opposite}
use Rattle.agreement.specs.Call.{Response, Outcome, outcome, deliver_outcome}
use Rattle.agreement.specs.Ends.{between, deliver_between}
use Rattle.agreement.specs.declared.Agreement.{Agreement}
use Rattle.agreement.specs.declared.Answer.{Answer}
use Rattle.agreement.specs.declared.EndRecord.{EndRecord}
use Rattle.agreement.proofs.Basics.{get_d_default}
use Rattle.agreement.proofs.BetweenLaws.{deliver-between}
use Rattle.bench.specs.State.{State, state, message_from}
use Rattle.bench.specs.Outcomes as outcomes
use Rattle.bench.specs.Private.Views.{lent_view, distance_table}
use Rattle.bench.specs.Private.Changes.{bench_with_records}
use Rattle.bench.specs.Private.Deliveries.{arrival_end, DeliveryOutcome, delivery_outcome, delivery_at, Takes, received, with_delivered}
use Rattle.bench.specs.Ranges.{state_in_range}
use Rattle.bench.specs.declared.Bench.{Bench}
use Rattle.bench.proofs.TieRanges.{StateReady, told, part_at}
use Rattle.bench.proofs.TieChecks.{MessageFacts, message-told}
use Rattle.bench.proofs.TieReceived.{taken}

-- what layer 2 makes of an end of a bench, with the view's table as it is lent
module _
    (b : Bench)
    (costs sent held table : List ℕ)
    (e far cost : ℕ)
    (m : Agreement)
    (low : e < 64)
    (filled : table ≡ distance_table b.bridges b.links b.ends costs (get_or b.view (get_or b.ends e 0) 0))
    (across : far ≡ get_or b.ends (opposite e) 0)
    (cost-is : cost ≡ get_or costs (32 * get_or b.view (get_or b.ends e 0) 0 + e / 2) 0)
    (takes : Takes (state b costs sent held []) e m) where
  abbrev bridge : ℕ
  bridge = get_or b.ends e 0

  abbrev its : ℕ
  its = get_or b.view bridge 0

  abbrev old : EndRecord
  old = get_or b.records e fresh_record

  by-the-view :
      {said : Response Answer} {end : EndRecord} {sent' held' : List ℕ} →
      outcome said end sent' held' ≡ deliver_between (between b.bridges bridge far cost table) b.views its (get_or b.number bridge 0) e old m sent held →
      outcome said end sent' held' ≡ deliver_outcome (lent_view b costs its) b.views its (get_or b.number bridge 0) e old m sent held
  by-the-view got =
      let link : e / 2 < 32 = omega arith in
      let row = part_at 32 its costs (e / 2) link in
      let law = deliver-between (lent_view b costs its) b.views its (get_or b.number bridge 0) e old m sent held (both_true _ _ takes).0 in
      rw (across, cost-is, filled) at got ∙ sym (rw row at law)

  pub received-between :
      {said : Response Answer} {end : EndRecord} {sent' held' : List ℕ} (d : EndRecord) →
      length b.records ≡ 64 →
      outcome said end sent' held' ≡ deliver_between (between b.bridges bridge far cost table) b.views its (get_or b.number bridge 0) e (get_or b.records e d) m sent held →
      delivery_outcome said (bench_with_records b (set b.records e end)) sent' held' [] ≡ delivery_at (state b costs sent held []) e m
  unfolding delivery_at
  received-between d records got =
      ap (λ (o : Outcome (Response Answer)). delivery_outcome o.reply (bench_with_records b (set b.records e o.end)) o.sent o.held [])
      (by-the-view (rw (get_d_default b.records e d fresh_record (rw records low)) at got))

-- ---- the message at place p of a state in range

module _
    (b : Bench)
    (costs sent held messages : List ℕ)
    (e p : ℕ)
    (ready : state_in_range (state b costs sent held messages) ≡ true)
    (there : p < b.messages)
    (arrives : e ≡ arrival_end messages p) where
  abbrev given : State
  given = state b costs sent held messages

  inside : StateReady given
  inside = told given ready

  its-numbers : MessageFacts b.links b.views (message_from messages p)
  its-numbers = message-told _ _ _ (inside.message p there)

  pub place-taken : Takes (state b costs sent held []) e (message_from messages p).agreement
  place-taken =
      taken given inside e (omega (arith, its-numbers.link, its-numbers.direction))
      (message_from messages p) its-numbers

  pub place-received :
      {reply : Response Answer} {b' : Bench} {costs' sent' held' : List ℕ} {x : Agreement} →
      let d : DeliveryOutcome = delivery_at (state b costs sent held []) e x in
      x ≡ (message_from messages p).agreement →
      outcomes.outcome reply (state b' costs' sent' held' []) ≡ outcomes.outcome d.reply (with_delivered (state b costs sent held []) d) →
      outcomes.outcome reply (state b' costs' sent' held' messages) ≡ outcomes.outcome (received given p).reply (with_delivered given (received given p))
  unfolding delivery_at
  place-received is got =
      rw (arrives, is) at (ap (λ (o : outcomes.Outcome Answer). outcomes.outcome o.reply (state o.state.bench o.state.costs o.state.sent o.state.held messages)) got)
