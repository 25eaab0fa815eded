-- The steps of the code that goes along a bridge's own ends: the next choice and the next end moved, up to the bridge's next end.
-- Assumes nothing.
use Prim.Native.Nat.{ℕ, suc, ◌+◌, ◌-◌, ◌*◌, ◌/◌, ◌≤◌, ◌<◌}
use native.Mathlib.Omega.{arith}
use native.Mathlib.Nat.{add-sub_cancel_left}
use native.Mathlib.Numerals.{add-one}
use mathlib.Core.Path.{◌≡◌, refl, sym, ap, ◌∙◌}
use mathlib.Core.Bool.{Bool, true, false, cond, ◌&&◌}
use mathlib.Core.List.{List}
use borrow.Author.Tests.{eq-eqb, ne_eqb}
use lib.ListN.{length, get_or, set, take, drop}
use lib.Seq.{set-get_or}
use Rattle.agreement.specs.Offer.{opposite}
use Rattle.distances.specs.Table.{cell}
use Rattle.agreement.specs.Call.{ViewData, view_data, Outcome, outcome, lent_end_in_range}
use Rattle.agreement.specs.Ends.{Between, between, between_at, between_in_range, near_offer, far_offer, update_between}
use Rattle.agreement.specs.Limits.{with_limits}
use Rattle.agreement.specs.Ranges.{end_in_range, is_view, record_in_range}
use Rattle.agreement.specs.Record.{updated, sent_updated, held_updated}
use Rattle.agreement.proofs.LimitLaws.{with_limits-length}
use Rattle.agreement.specs.declared.Choice.{Choice}
use Rattle.agreement.specs.declared.EndRecord.{EndRecord}
use Rattle.agreement.proofs.BetweenLaws.{update-between}
use Rattle.agreement.proofs.InRange.{end-passes}
use Rattle.bench.specs.State.{State, part}
use Rattle.bench.specs.Ranges.{parts_in_range}
use Rattle.bench.specs.Private.Changes.{Ends, ends, ended, moved_end, moved_ends, ends_in, with_ends}
use Rattle.bench.specs.Private.Chains.{IsNext}
use Rattle.bench.specs.Private.Steps.{IsFilled, choice_in}
use Rattle.bench.specs.declared.Bench.{Bench}
use Rattle.bench.proofs.TieRanges.{few, are-bridges, lent-in-range}
use Rattle.bench.proofs.ChainLaws.{same-until}
use Rattle.bench.proofs.ChangeSteps.{moved_more}
use Rattle.bench.proofs.TieMovedEnds.{records-long}
use Rattle.bench.proofs.ChoiceSteps.{lasting, limits, choice-other}

-- ---- choices

module _ (s : State) (d y : ℕ) where
  pub choice-until : {e n : ℕ} → IsNext s.bench.links s.bench.ends y e n → choice_in s d y e ≡ choice_in s d y n
  choice-until x = same-until (choice_in s d y) x (choice-other s d y)

  pub choice-next :
      {e n : ℕ} {c : Choice} →
      c ≡ choice_in s d y (e + 1) →
      IsNext s.bench.links s.bench.ends y (suc e) n →
      c ≡ choice_in s d y n
  choice-next {e} is x = is ∙ ap (choice_in s d y) (add-one e) ∙ choice-until x

-- ---- ends moved

module _ (v : ViewData) (views y t : ℕ) (start : Ends) where
  -- an end of another bridge
  moved_other : (e : ℕ) → (get_or v.ends e 0 ≡ y → ⊥) → moved_ends v views y t e start ≡ moved_ends v views y t (e + 1) start
  unfolding moved_ends moved_end
  moved_other e apart = rw (add-one, ne_eqb (get_or v.ends e 0) y apart, set-get_or)

  pub moved-until : {links e n : ℕ} → IsNext links v.ends y e n → moved_ends v views y t e start ≡ moved_ends v views y t n start
  moved-until x = same-until (λ e. moved_ends v views y t e start) x moved_other

  pub moved-first : {links n : ℕ} → IsNext links v.ends y 0 n → start ≡ moved_ends v views y t n start
  unfolding moved_ends
  moved-first x = moved-until x

  -- an end of the bridge, by the numbers that stand in the view; o is the other end of its link
  moved-own :
      (e o : ℕ) (old : EndRecord) (sent held : List ℕ) {sent' held' : List ℕ} {k : ℕ} {r : EndRecord} →
      lent_end_in_range v sent held e ≡ true →
      get_or v.ends e 0 ≡ y →
      o ≡ opposite e →
      outcome k r sent' held'
      ≡ update_between (between v.bridges y (get_or v.ends o 0) (get_or v.costs (e / 2) 0) v.table) views t e old sent held →
      ended r sent' held' ≡ moved_end v views t y e old sent held
  unfolding moved_end
  moved-own e o old sent held ok at other is =
      let same : between v.bridges y (get_or v.ends o 0) (get_or v.costs (e / 2) 0) v.table ≡ between_at v e = rw (at, other) in
      rw (eq-eqb (get_or v.ends e 0) y at)
      (ap (λ z. ended z.end z.sent z.held)
      (is ∙ ap (λ (w : Between). update_between w views t e old sent held) same ∙ sym (update-between v views t e old sent held ok)))

  pub moved-next :
      {links e n o : ℕ} (d : EndRecord) {records : List EndRecord} {sent held sent' held' : List ℕ} {k : ℕ} {r : EndRecord} →
      ends records sent held ≡ moved_ends v views y t e start →
      e < length records →
      lent_end_in_range v sent held e ≡ true →
      get_or v.ends e 0 ≡ y →
      o ≡ opposite e →
      outcome k r sent' held'
      ≡ update_between (between v.bridges y (get_or v.ends o 0) (get_or v.costs (e / 2) 0) v.table) views t e (get_or records e d) sent held →
      IsNext links v.ends y (suc e) n →
      ends (set records e r) sent' held' ≡ moved_ends v views y t n start
  moved-next {links} {e} {n} {o} d {records} {sent} {held} so room ok at other is x =
      moved_more v views y t e start d so room (moved-own e o (get_or records e d) sent held ok at other is)
      ∙ ap (λ (i : ℕ). moved_ends v views y t i start) (add-one e)
      ∙ moved-until x

-- no limit table becomes longer or shorter
module _ (w : Between) (views t e : ℕ) (old : EndRecord) (sent held : List ℕ) where
  pub update-lengths : (length (update_between w views t e old sent held).sent ≡ length sent) × (length (update_between w views t e old sent held).held ≡ length held)
  unfolding update_between
  update-lengths = go (between_in_range w sent held e && (is_view views t && record_in_range views old))
    where
      go :
          (b : Bool) →
          let o : Outcome ℕ = cond b
          (outcome 0 (updated t old) (with_limits w.bridges e (sent_updated (near_offer w) (cell sent e)) sent)
          (with_limits w.bridges e (held_updated t old (far_offer w) (cell held e)) held))
          (outcome 17 old sent held) in
          (length o.sent ≡ length sent) × (length o.held ≡ length held)
      go true = (with_limits-length _ _ _ _, with_limits-length _ _ _ _)
      go false = (refl, refl)

-- ---- a state, as its ends are moved in their place

module _ (s : State) (costs table : List ℕ) (y t : ℕ) where
  abbrev pub lent_so : ViewData
  lent_so = view_data s.bench.bridges s.bench.links s.bench.ends costs table

  -- with the ends below e moved
  abbrev pub at_end : ℕ → State
  at_end e = with_ends s (moved_ends lent_so s.bench.views y t e (ends_in s))

  pub ends-first : {n : ℕ} → IsNext s.bench.links s.bench.ends y 0 n → s ≡ at_end n
  ends-first x = ap (with_ends s) (moved-first lent_so s.bench.views y t (ends_in s) x)

  pub ends-next :
      (d : EndRecord) {z : State} {e n o k : ℕ} {r : EndRecord} {sent' held' : List ℕ} →
      z ≡ at_end e →
      length s.bench.records ≡ 64 →
      e < 64 →
      lent_end_in_range lent_so z.sent z.held e ≡ true →
      get_or s.bench.ends e 0 ≡ y →
      o ≡ opposite e →
      outcome k r sent' held'
      ≡ update_between (between z.bench.bridges y (get_or z.bench.ends o 0) (get_or costs (e / 2) 0) table) z.bench.views t e (get_or z.bench.records e d) z.sent z.held →
      IsNext s.bench.links s.bench.ends y (suc e) n →
      with_ends z (ends (set z.bench.records e r) sent' held') ≡ at_end n
  ends-next d {z} {e} {n} {o} {k} {r} {sent'} {held'} so long low ok own other is x =
      let bridges : z.bench.bridges ≡ s.bench.bridges = ap (λ (q : State). q.bench.bridges) so in
      let places : z.bench.ends ≡ s.bench.ends = ap (λ (q : State). q.bench.ends) so in
      let views : z.bench.views ≡ s.bench.views = ap (λ (q : State). q.bench.views) so in
      let room : length z.bench.records ≡ 64 = ap (λ (q : State). length q.bench.records) so ∙ records-long lent_so s.bench.views y t e (ends_in s) ∙ long in
      let taken = rw (bridges, places, views) at is in
      ap (λ (q : State). with_ends q (ends (set z.bench.records e r) sent' held')) so
      ∙ ap (with_ends s) (moved-next lent_so s.bench.views y t (ends_in s) d (ap ends_in so) (rw room low) ok own other taken x)

-- ---- what the entry check tells

-- the ends of the links are bridges, for their chains
pub ends-told :
    (b : Bench) (costs : List ℕ) (sent held : ℕ) →
    parts_in_range b costs sent held ≡ true →
    (b.links ≤ 32) × ((e : ℕ) → e < 2 * b.links → get_or b.ends e 0 < 16)
ends-told b costs sent held ok =
    let lasts = lasting b costs sent held ok in
    let counts = few b costs lasts in
    (counts.1, λ e low. omega (arith, counts.0, are-bridges b costs lasts e low))

-- the part of the costs and the table that are lent are in range at each end
pub parts-in-range :
    (b : Bench) (costs tables table : List ℕ) (t sent held : ℕ) →
    parts_in_range b costs sent held ≡ true →
    t < b.views →
    IsFilled b costs tables t →
    table ≡ part 256 t tables →
    (e : ℕ) →
    e < 2 * b.links →
    end_in_range b.bridges b.links b.ends (take (32 * t + 32 - 32 * t) (drop (32 * t) costs)) table sent held e ≡ true
parts-in-range b costs tables table t sent held ok low filled is e h =
    let long = limits b costs sent held ok in
    rw (add-sub_cancel_left (32 * t) 32, is, filled)
    (end-passes _ _ _ _ _ _ _ (lent-in-range b costs (lasting b costs sent held ok) t low) long.0 long.1 e h)
