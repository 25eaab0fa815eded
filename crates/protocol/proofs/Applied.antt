-- What demands 2 and 3 tell of the worked examples: each is applied to them, and only numbers are computed. Assumes nothing.
use Prim.Native.Nat.{ℕ}
use native.Mathlib.Omega.{arith}
use mathlib.Core.Path.{◌≡◌, refl, sym}
use mathlib.Core.Logic.{◌⊎◌, inl, inr}
use mathlib.Core.List.{List, []}
use Rattle.distances.specs.View.{NONE}
use Rattle.distances.specs.Meaning.{IsLeast, IsDistance}
use Rattle.distances.specs.Examples.{triangle, view1}
use Rattle.agreement.specs.declared.Verdict.TheVariants.{IsDestination}
use Rattle.protocol.specs.Ports.{stays, hop}
use Rattle.protocol.specs.Rings.{Trail.stay, Trail.cross}
use Rattle.protocol.specs.Demand2.{ByTheRule, Demand2}
use Rattle.protocol.specs.Demand3.{Demand3}
use Rattle.protocol.specs.Calls.{Call}
use Rattle.protocol.specs.Examples.{plan, after, calls_e3, calls_one_end, calls_own_end, calls_e4, calls_e6, calls_e7}
use Rattle.protocol.specs.SettlingMet.{before, first, second, SettlingCanBeMet}
use Rattle.protocol.specs.Applied.{RuleAtExamples, ListsAtExamples, DemandsApply}
use Rattle.protocol.proofs.Hops.{stays-crosses}
use Rattle.protocol.proofs.Example.{computing}

-- a distance that is not NONE
reached : {i x : ℕ} → IsDistance triangle view1 i 0 x → (x ≡ NONE → ⊥) → IsLeast triangle view1 i 0 x
reached (inl p) some = p
reached (inr q) some = absurd (some q.none)

rule-applies : Demand2 → SettlingCanBeMet → RuleAtExamples
unfolding computing
rule-applies claim met =
    let at : (cs : List Call) → ByTheRule (after cs) = λ cs. claim.rule (after cs) (claim.in_range plan met.in_range cs) in
    let four = reached ((at calls_e4).distance 1 0 (omega arith)) (λ e. omega arith) in
    let three = reached ((at calls_e4).others 1 2 0 (omega arith)) (λ e. omega arith) in
    let by = (at calls_e3).forwards 2 0 1 refl in
    let crossing = (at calls_e3).crosses 0 2 1 1 refl in
    let stop = (at calls_e4).paths 2 0 in
    let dying = (at calls_one_end).paths 2 0 in
    record {
      attained = four.attained;
      least = four.least;
      other = three.least;
      forwards = by;
      opens = (at calls_e3).opens 2 0 1 by.0 by.1;
      crosses = crossing;
      crossed = (at calls_e3).crossed 0 2 1 1 crossing.0 crossing.1;
      dies = ((at calls_one_end).forwards 1 0 0 refl, λ z e w. stays-crosses 0 z ((at calls_one_end).crossed 0 1 0 z e w));
      closed = (at []).closed 2 0 (λ l e w. omega (arith, w.allowed.held));
      nothing = (at []).verdict 2 0;
      too_great = (at calls_e4).verdict 1 0;
      not_above = (at calls_e6).verdict 1 0;
      link_down = (at calls_own_end).verdict 1 0;
      is_destination = (at calls_e6).no_other_verdict 0 0 IsDestination refl;
      has_link = (at calls_e4).has_link 1 0;
      arrives = (at calls_e3).paths 2 0;
      stops = (stop.0, over stop.2);
      stops_dying = (dying.0, over-dying dying.2);
      sent = sym (claim.limits plan calls_e6 2 0).sent;
      held = sym (claim.limits plan calls_e6 2 0).held;
    }
  where
    over : (hop (after calls_e4) 0 1 ≡ stays) ⊎ (◌≡◌ {A = ℕ} 1 2) → hop (after calls_e4) 0 1 ≡ stays
    over (inl here) = here
    over (inr two) = absurd (omega arith)

    over-dying : (hop (after calls_one_end) 0 1 ≡ stays) ⊎ (◌≡◌ {A = ℕ} 1 2) → hop (after calls_one_end) 0 1 ≡ stays
    over-dying (inl here) = here
    over-dying (inr two) = absurd (omega arith)

lists-apply : Demand3 → SettlingCanBeMet → ListsAtExamples
unfolding computing
lists-apply claim met =
    let at = claim plan met.in_range in
    let settled = (at _).settles before first second 1 refl met.premises 1 0 (λ e. omega arith) (λ e. omega arith) in
    record {
      no_ring = λ l e. (at calls_e7).no_ring 0 1 1 (cross {l = 1} refl (cross e stay));
      short = (at calls_e7).path_short 1 0;
      counted = (at calls_e7).path_counted 1 0;
      ends = (at calls_e4).path_ends 2 0;
      ends_dying = (at calls_one_end).path_ends 2 0;
      forwards = settled.forwards;
      arrives = settled.arrives;
      shortest = settled.shortest;
    }

pub demands-apply : DemandsApply
demands-apply = record { demand2 = rule-applies; demand3 = lists-apply }
