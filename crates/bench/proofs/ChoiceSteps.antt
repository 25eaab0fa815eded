-- The steps of the code that makes verdicts of a bench's ends: what layer 2 answers, one end more in a loop, and the verdict that a choice by
-- all ends comes to. Assumes nothing.
use Prim.Native.Nat.{ℕ, ◌+◌, ◌*◌, ◌/◌, ◌≤◌, ◌<◌}
use native.Mathlib.Omega.{arith}
use mathlib.Core.Path.{◌≡◌, refl, sym, ap, ◌∙◌}
use mathlib.Core.Bool.{Bool, true, false, cond}
use mathlib.Core.List.{List}
use borrow.Author.Tests.{leb-true, le-leb, lt-ltb, eqb-true, eqb-false}
use lib.ListN.{length, get_or, set}
use lib.Dec.{eqb, leb}
use Rattle.distances.specs.View.{max_cost, costs_of}
use Rattle.distances.specs.Table.{cell}
use Rattle.distances.proofs.Booleans.{both_true, true-both}
use Rattle.distances.proofs.Tables.{cell-is}
use Rattle.agreement.specs.Offer.{opposite}
use Rattle.agreement.specs.Forwarding.{verdict}
use Rattle.std.specs.Prelude.{Result, Ok, Err}
use Rattle.std.specs.Result.{result_unwrap_or}
use Rattle.distances.specs.declared.refusals.Refusal.{Refusal}
use Rattle.agreement.specs.Call.{Response, ViewData, lent_graph, says, response}
use Rattle.agreement.specs.Choice.{first_choice, next_choice, verdict_by, next_outcome, choice_outcome}
use Rattle.agreement.specs.declared.Choice.{Choice}
use Rattle.agreement.specs.declared.LinkEnd.{LinkEnd}
use Rattle.agreement.specs.declared.Verdict.{Verdict}
use Rattle.agreement.proofs.Ends.{opposite-below}
use Rattle.agreement.proofs.InRange.{records-pass, port-passes}
use Rattle.agreement.proofs.Outcomes.{next-accepted, choice-accepted, verdict-accepted}
use Rattle.agreement.proofs.ChoiceLaws.{choice-none, choice-here, choice-away, choice-distance, choice-links, choice-is-verdict}
use Rattle.bench.specs.State.{State, network}
use Rattle.bench.specs.Private.Views.{lent_view}
use Rattle.bench.specs.Ranges.{graph_in_range, bench_in_range, costs_in_range, limits_long, parts_in_range}
use Rattle.bench.specs.Ranges.{network_in_range}
use Rattle.bench.specs.Private.Answers.{found, verdict_in}
use Rattle.bench.specs.Private.Steps.{PortsReady, IsFilled, choice_in, AreChoices, link_seen}
use Rattle.bench.specs.declared.Bench.{Bench}
use Rattle.bench.proofs.TieRanges.{LastingOf, lasting-told, few, lent-in-range, plan-in-range, part_at, get_d-stored}
use Rattle.bench.proofs.QueueRanges.{bench-told, network-bench, network-costs, network-told}
use Rattle.bench.proofs.QueueCalls.{said_same}
use Rattle.bench.proofs.Replies.{some_number}
use Rattle.bench.proofs.PathSteps.{own-cell}

-- ---- what the entry check tells

module _ (b : Bench) (costs : List ℕ) (sent held : ℕ) (ok : parts_in_range b costs sent held ≡ true) where
  pub lasting : LastingOf b costs
  unfolding bench_in_range
  lasting =
      lasting-told b costs (both_true (graph_in_range b) _ (network-bench b costs sent held ok)).0
      (network-costs b costs sent held ok)

  pub limits : (1024 ≤ sent) × (1024 ≤ held)
  unfolding parts_in_range limits_long
  limits =
      let h = both_true (leb 1024 sent) _ (both_true (costs_in_range b costs) _ (both_true (bench_in_range b) _ ok).1).1 in
      (leb-true 1024 sent h.0, leb-true 1024 held h.1)

pub ports-told : (s : State) → network_in_range s ≡ true → PortsReady s
ports-told s ok =
    let lasts = lasting s.bench s.costs (length s.sent) (length s.held) ok in
    let long = limits s.bench s.costs (length s.sent) (length s.held) ok in
    record {
      in_range = ok;
      ready = network-told s.bench s.costs (length s.sent) (length s.held) ok;
      sent_long = long.0;
      held_long = long.1;
      costs_most = λ t l ht hl. rw (part_at 32 t s.costs l (omega (arith, few s.bench s.costs lasts))) at (((plan-in-range s.bench s.costs lasts).costs t ht).most l hl);
    }

-- the bridge at the other end of a link
module _ {s : State} (told : PortsReady s) where
  pub far-low : (e : ℕ) → e < 2 * s.bench.links → get_or s.bench.ends (opposite e) 0 < 16
  far-low e h = omega (arith, told.ready.few_bridges, told.ready.are_bridges (opposite e) (opposite-below e s.bench.links h))

-- ---- what layer 2 answers

-- a reply that says x, unwrapped
unwrapped : {A : Type 0} (r : Result A Refusal) (x other : A) → response r ≡ says x → result_unwrap_or r other ≡ x
unwrapped (Ok z) x other e = said_same z x e
unwrapped {A} (Err r) x other e = absurd (some_number r (ap (λ (o : Response A). o.number) e))

pub next_said :
    (old : Choice) (end : LinkEnd) (r : Result Choice Refusal) →
    (end.link < 32) × (end.cost ≤ max_cost) →
    response r ≡ next_outcome old end →
    result_unwrap_or r old ≡ next_choice old end
next_said old end r low e =
    unwrapped r _ old (e ∙ next-accepted old end (true-both (lt-ltb end.link 32 low.0) (le-leb end.cost max_cost low.1)))

pub verdict_said :
    (c : Choice) (r : Result Verdict Refusal) (other : Verdict) →
    (c.link < 32) × (c.barring < 32) →
    response r ≡ choice_outcome c →
    result_unwrap_or r other ≡ verdict_by c
verdict_said c r other low e = unwrapped r _ other (e ∙ choice-accepted c (true-both (lt-ltb _ 32 low.0) (lt-ltb _ 32 low.1)))

-- ---- the verdict by layer 2's definition

module _ (s : State) (ok : network_in_range s ≡ true) (y d : ℕ) (hy : y < s.bench.bridges) (hd : d < s.bench.bridges) where
  abbrev pub lent_to : ViewData
  lent_to = lent_view s.bench s.costs (get_or s.bench.view y 0)

  pub verdict-in : verdict_in s y d ≡ verdict (lent_graph lent_to) (costs_of lent_to.costs) (cell lent_to.table) (network s).records y d
  unfolding verdict_in found
  verdict-in =
      let b : Bench = s.bench in
      let told = bench-told b (network-bench b s.costs (length s.sent) (length s.held) ok) in
      let long = limits b s.costs (length s.sent) (length s.held) ok in
      let lasts = lasting b s.costs (length s.sent) (length s.held) ok in
      let passes =
      port-passes _ _ _ _ _ _ _ (lent-in-range b s.costs lasts _ (told.view y hy)) long.0 long.1 b.views b.records y d
      told.least told.counted.views (records-pass _ b.links b.records told.counted.links told.records) hy hd in
      rw (verdict-accepted lent_to b.views b.down b.records s.sent s.held y d passes)

-- ---- one end more

module _ (s : State) (d y : ℕ) where
  abbrev own_view : ℕ
  own_view = get_or s.bench.view y 0

  -- no end yet; `own` is the bridge's distance
  pub choice-first :
      (tables : List ℕ) (own : ℕ) →
      IsFilled s.bench s.costs tables own_view →
      y < 16 →
      d < 16 →
      own ≡ get_or tables (256 * own_view + 16 * y + d) 0 →
      first_choice own (eqb y d) ≡ choice_in s d y 0
  unfolding choice_in
  choice-first tables own filled hy hd is = choice-none _ _ _ _ _ _ (is ∙ rw filled at (own-cell own_view y d tables hy hd))

  -- an end at the bridge, as it is seen
  pub choice-more :
      (tables : List ℕ) (e : ℕ) {old next : Choice} →
      IsFilled s.bench s.costs tables own_view →
      e < 64 →
      d < 16 →
      get_or s.bench.ends (opposite e) 0 < 16 →
      get_or s.bench.ends e 0 ≡ y →
      old ≡ choice_in s d y e →
      next ≡ next_choice old (link_seen s tables own_view e d) →
      next ≡ choice_in s d y (e + 1)
  unfolding choice_in
  choice-more tables e filled few hd far at so is =
      choice-here _ _ _ _ _ _ e so at
      (record {
        is_link = refl;
        is_cost = sym (part_at 32 own_view s.costs (e / 2) (omega arith));
        is_far = rw filled at (own-cell own_view (get_or s.bench.ends (opposite e) 0) d tables far hd);
        is_down = refl;
        is_holding = refl;
        is_sent = sym (cell-is s.sent e d);
        is_held = sym (cell-is s.held e d);
      })
      is

  -- an end at another bridge
  pub choice-other : (e : ℕ) → (get_or s.bench.ends e 0 ≡ y → ⊥) → choice_in s d y e ≡ choice_in s d y (e + 1)
  unfolding choice_in
  choice-other e apart = choice-away _ _ _ _ _ _ e apart

  -- the choice so far has the bridge's distance and some of the links
  pub choice-own : (e : ℕ) → (choice_in s d y e).distance ≡ cell (lent_view s.bench s.costs own_view).table y d
  unfolding choice_in
  choice-own e = choice-distance _ _ _ _ _ _ e

  pub choice-low : (e : ℕ) → e ≤ 64 → ((choice_in s d y e).link < 32) × ((choice_in s d y e).barring < 32)
  unfolding choice_in
  choice-low e few = choice-links _ _ _ _ _ _ e few

-- ---- all ends

module _ (s : State) (ok : network_in_range s ≡ true) (d y : ℕ) (hy : y < s.bench.bridges) (hd : d < s.bench.bridges) where
  pub choice-verdict : verdict_by (choice_in s d y (2 * s.bench.links)) ≡ verdict_in s y d
  unfolding choice_in
  choice-verdict = choice-is-verdict _ _ _ _ y d ∙ sym (verdict-in s ok y d hy hd)

-- ---- the choices of all bridges, in an array

module _ (s : State) (d : ℕ) (choices : List Choice) where
  pub choices-begun :
      (y : ℕ) (c : Choice) → y < length choices → AreChoices s d 0 y choices → c ≡ choice_in s d y 0 → AreChoices s d 0 (y + 1) (set choices y c)
  choices-begun y c room so is k low none = get_d-stored choices y c k none room ∙ go (eqb k y) refl
    where
      go : (b : Bool) → eqb k y ≡ b → cond b c (get_or choices k none) ≡ choice_in s d k 0
      go true q = rw (eqb-true k y q) is
      go false q = so k (omega (arith, eqb-false k y q)) none

  -- the end e is at bridge y, whose choice becomes c
  pub choices-more :
      (e n y : ℕ) (c : Choice) →
      y < length choices →
      get_or s.bench.ends e 0 ≡ y →
      AreChoices s d e n choices →
      c ≡ choice_in s d y (e + 1) →
      AreChoices s d (e + 1) n (set choices y c)
  choices-more e n y c room at so is k low none = get_d-stored choices y c k none room ∙ go (eqb k y) refl
    where
      go : (b : Bool) → eqb k y ≡ b → cond b c (get_or choices k none) ≡ choice_in s d k (e + 1)
      go true q = rw (eqb-true k y q) is
      go false q = so k low none ∙ choice-other s d k e (λ here. eqb-false k y q (sym here ∙ at))
