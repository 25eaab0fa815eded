-- The chosen link and the verdict say what documents 01 and 02 do: the end that is found is the chosen link's, the verdict is so and no other is, and
-- the port is open on a link if and only if the bridge forwards on it. The bridge is y, the destination d, f the distances and c the costs of y's view.
-- Assumes nothing.
use Prim.Native.Nat.{ℕ, ◌+◌, ◌*◌, ◌≤◌, ◌<◌}
use mathlib.Core.Path.{◌≡◌, refl, sym, ap, subst, ◌∙◌}
use Rattle.std.specs.Prelude.{Some, None}
use mathlib.Core.Logic.{inl, inr}
use mathlib.Core.Bool.{Bool, true, false, cond, not}
use native.Mathlib.Omega.{arith}
use lib.Dec.{eqb, leb, ltb}
use borrow.Author.Tests.{eqb-true, eqb-false, eq-eqb, ne_eqb, ltb-true, ltb-false, lt-ltb, le-ltb, leb-true, le-leb, not-true, not-false}
use Rattle.distances.specs.View.{Graph, Costs, NONE, InRange}
use Rattle.distances.specs.Distance.{dist}
use Rattle.distances.specs.Meaning.{Joins}
use Rattle.distances.proofs.Booleans.{both_true}
use Rattle.distances.proofs.Laws.{next-hop}
use Rattle.distances.proofs.Joined.{AreEnds}
use Rattle.agreement.specs.Offer.{link_of, far_bridge}
use Rattle.agreement.specs.Record.{held_limit}
use Rattle.agreement.specs.Forwarding.{
  Records,
  UpAt,
  reaches,
  chosen_end,
  is_destination,
  has_no_link,
  holds_nothing,
  held_too_great,
  bars,
  barring_end,
  is_barred,
  first_of,
  verdict_from,
  verdict,
  Port,
  port_of,
  port,
}
use Rattle.agreement.specs.Rule.{Reaches, IsChosen, EndsDiffer, PortFollowsRule}
use Rattle.agreement.specs.Rule as rule
use Rattle.agreement.specs.Reasons.{Chooses, Bars, IsLowestBar, Means, VerdictIsSo, NoOtherVerdict, VerdictFollowsRule}
use Rattle.agreement.specs.declared.Verdict.{Verdict}
use Rattle.agreement.specs.declared.Verdict.TheVariants.{IsDestination, NoPath, NoLink, LinkDown, NothingHeld, HeldTooGreat, SentNotAbove, Forwards}
use Rattle.agreement.proofs.Firsts.{first_passes, first-at-most}

module _ (g : Graph) (c : Costs) (f : ℕ → ℕ → ℕ) (y d : ℕ) where
  reaches-told : (e : ℕ) → reaches g c f y d e ≡ true → Reaches g c f y d e
  unfolding reaches
  reaches-told e t =
      let one = both_true (eqb (g.bridge_at e) y) _ t in
      let two = both_true (not (eqb (c (link_of e)) 0)) _ one.1 in
      record {
        own = eqb-true (g.bridge_at e) y one.0;
        present = eqb-false (c (link_of e)) 0 (not-true _ two.0);
        sum = eqb-true (c (link_of e) + f (far_bridge g e) d) (f y d) two.1;
      }

  told-reaches : (e : ℕ) → Reaches g c f y d e → reaches g c f y d e ≡ true
  unfolding reaches
  told-reaches e r =
      rw (eq-eqb (g.bridge_at e) y r.own, ne_eqb (c (link_of e)) 0 r.present)
      (eq-eqb (c (link_of e) + f (far_bridge g e) d) (f y d) r.sum)

  -- the chosen end reaches the distance, and there is one where some end does
  chosen-reaches : chosen_end g c f y d < 2 * g.links → Reaches g c f y d (chosen_end g c f y d)
  unfolding chosen_end
  chosen-reaches h = reaches-told (chosen_end g c f y d) (first_passes (reaches g c f y d) (2 * g.links) h)

  chosen-at-most : (e : ℕ) → e < 2 * g.links → Reaches g c f y d e → chosen_end g c f y d ≤ e
  unfolding chosen_end
  chosen-at-most e h r = first-at-most (reaches g c f y d) (2 * g.links) e h (told-reaches e r)

  pub chosen-exists : (e : ℕ) → e < 2 * g.links → Reaches g c f y d e → chosen_end g c f y d < 2 * g.links
  chosen-exists e h r = omega (arith, chosen-at-most e h r)

  -- it is the lowest-numbered
  pub chosen_is : chosen_end g c f y d < 2 * g.links → IsChosen g c f y d (chosen_end g c f y d)
  chosen_is h = record { listed = h; reaches = chosen-reaches h; lowest = λ k b t. omega (arith, chosen-at-most k b t) }

  -- and no other end is: one on the same link is at another bridge
  chosen-unique : EndsDiffer g → (e : ℕ) → IsChosen g c f y d e → chosen_end g c f y d ≡ e
  chosen-unique differ e w = omega (arith, least, apart)
    where
      k : ℕ
      k = chosen_end g c f y d

      least : k ≤ e
      least = chosen-at-most e w.listed w.reaches

      first : Reaches g c f y d k
      first = chosen-reaches (chosen-exists e w.listed w.reaches)

      apart : k < e → ⊥
      apart below =
          let link : link_of e ≤ link_of k = w.lowest k (chosen-exists e w.listed w.reaches) first in
          let even : 2 * link_of e ≡ k = omega arith in
          let odd : e ≡ 2 * link_of e + 1 = omega arith in
          differ (link_of e) (omega (arith, w.listed)) (ap g.bridge_at even ∙ first.own ∙ sym w.reaches.own ∙ ap g.bridge_at odd)

  -- an end at y of a link to a bridge that is nearer by its cost reaches the distance
  pub link-reaches : (l z : ℕ) → Joins g c l y z → c l + f z d ≡ f y d → (e : ℕ) × (e < 2 * g.links) × Reaches g c f y d e
  link-reaches l z j sum = go j.joined
    where
      listed : l < g.links
      listed = j.listed

      at : (e : ℕ) → link_of e ≡ l → g.bridge_at e ≡ y → far_bridge g e ≡ z → Reaches g c f y d e
      at e link own far = record { own = own; present = rw link j.present; sum = rw (link, far) sum }

      go : AreEnds g l y z → (e : ℕ) × (e < 2 * g.links) × Reaches g c f y d e
      go (inl p) = (2 * l, omega (arith, listed), at (2 * l) (omega arith) p.0 (ap g.bridge_at (omega arith) ∙ p.1))
      go (inr p) = (2 * l + 1, omega (arith, listed), at (2 * l + 1) (omega arith) p.1 (ap g.bridge_at (omega arith) ∙ p.0))

-- ---- the sent limits that are not above the distance

module _ (g : Graph) (f : ℕ → ℕ → ℕ) (r : Records) (y d : ℕ) where
  bars-told : (k : ℕ) → bars g f r y d k ≡ true → Bars g f r y d k
  unfolding bars
  bars-told k t =
      let one = both_true (eqb (g.bridge_at k) y) _ t in
      let two = both_true (not (r.down k)) (leb (r.sent k d) (f y d)) one.1 in
      record {
        own = eqb-true (g.bridge_at k) y one.0;
        up = not-true (r.down k) two.0;
        limit = leb-true (r.sent k d) (f y d) two.1;
      }

  told-bars : (k : ℕ) → Bars g f r y d k → bars g f r y d k ≡ true
  unfolding bars
  told-bars k b = rw (eq-eqb (g.bridge_at k) y b.own, b.up) (le-leb (r.sent k d) (f y d) b.limit)

  barring-at-most : (k : ℕ) → k < 2 * g.links → Bars g f r y d k → barring_end g f r y d ≤ k
  unfolding barring_end
  barring-at-most k h b = first-at-most (bars g f r y d) (2 * g.links) k h (told-bars k b)

  -- the end that is found is the lowest link's
  barring-is : barring_end g f r y d < 2 * g.links → IsLowestBar g f r y d (link_of (barring_end g f r y d)) (barring_end g f r y d)
  unfolding barring_end
  barring-is h =
      record {
        listed = h;
        bars = bars-told (barring_end g f r y d) (first_passes (bars g f r y d) (2 * g.links) h);
        link = refl;
        lowest = λ j low b. omega (arith, barring-at-most j low b);
      }

  -- and on the link of any lowest one
  barring-link : {l k : ℕ} → IsLowestBar g f r y d l k → (barring_end g f r y d < 2 * g.links) × (link_of (barring_end g f r y d) ≡ l)
  barring-link {l} {k} w =
      let most : barring_end g f r y d ≤ k = barring-at-most k w.listed w.bars in
      let h : barring_end g f r y d < 2 * g.links = omega (arith, w.listed) in
      let least : link_of k ≤ link_of (barring_end g f r y d) = w.lowest (barring_end g f r y d) h (barring-is h).bars in
      (h, omega (arith, w.link))

  -- where none bars, the distance is below the sent limit of every link that is up
  none-bars : 2 * g.links ≤ barring_end g f r y d → (k : ℕ) → k < 2 * g.links → g.bridge_at k ≡ y → UpAt r k → f y d < r.sent k d
  none-bars past k low own up = go (ltb (f y d) (r.sent k d)) refl
    where
      go : (b : Bool) → ltb (f y d) (r.sent k d) ≡ b → f y d < r.sent k d
      go true e = ltb-true (f y d) (r.sent k d) e
      go false e =
          absurd
          (omega (
            arith,
            past,
            barring-at-most k low (record { own = own; up = up; limit = ltb-false (f y d) (r.sent k d) e }),
          ))

  bars-none : ((k : ℕ) → k < 2 * g.links → g.bridge_at k ≡ y → UpAt r k → f y d < r.sent k d) → is_barred g f r y d ≡ false
  unfolding is_barred
  bars-none above = le-ltb (barring_end g f r y d) (2 * g.links) (go (ltb (barring_end g f r y d) (2 * g.links)) refl)
    where
      go : (b : Bool) → ltb (barring_end g f r y d) (2 * g.links) ≡ b → 2 * g.links ≤ barring_end g f r y d
      go false e = ltb-false (barring_end g f r y d) (2 * g.links) e
      go true e =
          let h : barring_end g f r y d < 2 * g.links = ltb-true (barring_end g f r y d) (2 * g.links) e in
          let b = (barring-is h).bars in
          absurd (omega (arith, b.limit, above (barring_end g f r y d) h b.own b.up))

-- ---- the verdict is so

module _ (g : Graph) (c : Costs) (f : ℕ → ℕ → ℕ) (r : Records) (y d : ℕ) where
  abbrev chosen : ℕ
  chosen = chosen_end g c f y d

  -- no link reaches the distance
  unreached : 2 * g.links ≤ chosen → (e : ℕ) → e < 2 * g.links → Reaches g c f y d e → ⊥
  unreached past e low by = omega (arith, chosen-exists g c f y d e low by)

  chooses : (y ≡ d → ⊥) → (f y d ≡ NONE → ⊥) → chosen < 2 * g.links → Chooses g c f y d chosen
  chooses apart some h = record { not_destination = apart; has_path = some; chosen = chosen_is g c f y d h }

  -- the held limit of the chosen link
  abbrev limit : ℕ
  limit = held_limit (r.ends chosen) (r.held chosen) d

  -- by what the tests say
  is-so :
      (a b m w n t s : Bool) →
      is_destination y d ≡ a →
      eqb (f y d) NONE ≡ b →
      has_no_link g chosen ≡ m →
      r.down chosen ≡ w →
      holds_nothing r chosen ≡ n →
      ltb (f y d) limit ≡ t →
      is_barred g f r y d ≡ s →
      Means g c f r y d (first_of a b m w n t s (link_of chosen) (link_of (barring_end g f r y d)))
  unfolding first_of has_no_link holds_nothing is_barred
  is-so true b m w n t s p₁ p₂ p₃ p₄ p₅ p₆ p₇ = eqb-true y d p₁
  is-so false true m w n t s p₁ p₂ p₃ p₄ p₅ p₆ p₇ = (eqb-false y d p₁, eqb-true (f y d) NONE p₂)
  is-so false false true w n t s p₁ p₂ p₃ p₄ p₅ p₆ p₇ =
      (eqb-false y d p₁, eqb-false (f y d) NONE p₂, unreached (ltb-false chosen (2 * g.links) (not-true _ p₃)))
  is-so false false false w n t s p₁ p₂ p₃ p₄ p₅ p₆ p₇ =
      go w n t s p₄ p₅ p₆ p₇ (chooses (eqb-false y d p₁) (eqb-false (f y d) NONE p₂) (ltb-true chosen (2 * g.links) (not-false _ p₃)))
    where
      go :
          (w n t s : Bool) →
          r.down chosen ≡ w →
          not (r.ends chosen).holding ≡ n →
          ltb (f y d) limit ≡ t →
          ltb (barring_end g f r y d) (2 * g.links) ≡ s →
          Chooses g c f y d chosen →
          Means g c f r y d (first_of false false false w n t s (link_of chosen) (link_of (barring_end g f r y d)))
      go true n t s p₄ p₅ p₆ p₇ by = (chosen, by, refl, p₄)
      go false true t s p₄ p₅ p₆ p₇ by = (chosen, by, refl, p₄, not-true _ p₅)
      go false false true s p₄ p₅ p₆ p₇ by = (chosen, by, refl, p₄, not-false _ p₅, ltb-true (f y d) limit p₆)
      go false false false true p₄ p₅ p₆ p₇ by = (
        chosen,
        by,
        p₄,
        not-false _ p₅,
        ltb-false (f y d) limit p₆,
        (barring_end g f r y d, barring-is g f r y d (ltb-true (barring_end g f r y d) (2 * g.links) p₇)),
      )
      go false false false false p₄ p₅ p₆ p₇ by = (
        chosen,
        record {
          chosen = by.chosen;
          link = refl;
          allowed =
              record {
                not_destination = by.not_destination;
                has_path = by.has_path;
                up = p₄;
                held = ltb-false (f y d) limit p₆;
                sent = none-bars g f r y d (ltb-false (barring_end g f r y d) (2 * g.links) p₇);
              };
        },
      )

  verdict-says : Means g c f r y d (verdict g c f r y d)
  unfolding verdict verdict_from
  verdict-says = is-so _ _ _ _ _ _ _ refl refl refl refl refl refl refl

  -- ---- and no other is

  module _ (differ : EndsDiffer g) where
    -- before the chosen link
    goes_on : {e : ℕ} → Chooses g c f y d e →
        verdict g c f r y d
        ≡ first_of false false false (r.down e) (holds_nothing r e) (held_too_great (f y d) (held_limit (r.ends e) (r.held e) d)) (is_barred g f r y d)
        (link_of e) (link_of (barring_end g f r y d))
    unfolding verdict verdict_from has_no_link
    goes_on {e} by =
        rw (
          chosen-unique g c f y d differ e by.chosen,
          ne_eqb y d by.not_destination,
          ne_eqb (f y d) NONE by.has_path,
          lt-ltb e (2 * g.links) by.chosen.listed,
        )

    -- a limit that is at most a distance is that of a view held
    held-told : f y d ≤ NONE → (f y d ≡ NONE → ⊥) → (e : ℕ) → held_limit (r.ends e) (r.held e) d ≤ f y d → (r.ends e).holding ≡ true
    held-told most some e = go (r.ends e).holding refl
      where
        go : (b : Bool) → (r.ends e).holding ≡ b → cond b (r.held e d) NONE ≤ f y d → (r.ends e).holding ≡ true
        go true p h = p
        go false p h = absurd (some (omega arith))

    only : f y d ≤ NONE → (v : Verdict) → Means g c f r y d v → verdict g c f r y d ≡ v
    unfolding verdict verdict_from first_of has_no_link holds_nothing is_barred
    only most IsDestination w = rw (eq-eqb y d w)
    only most NoPath w = rw (ne_eqb y d w.0, eq-eqb (f y d) NONE w.1)
    only most NoLink w =
        rw (ne_eqb y d w.0, ne_eqb (f y d) NONE w.1, le-ltb chosen (2 * g.links) (past (ltb chosen (2 * g.links)) refl))
      where
        past : (b : Bool) → ltb chosen (2 * g.links) ≡ b → 2 * g.links ≤ chosen
        past false e = ltb-false chosen (2 * g.links) e
        past true e =
            let h : chosen < 2 * g.links = ltb-true chosen (2 * g.links) e in
            absurd (w.2 chosen h (chosen_is g c f y d h).reaches)
    only most (LinkDown l) w = goes_on w.1 ∙ rw (w.3, w.2)
    only most (NothingHeld l) w = goes_on w.1 ∙ rw (w.3, w.4, w.2)
    only most (HeldTooGreat l) w = goes_on w.1 ∙ rw (w.3, lt-ltb (f y d) _ w.5, w.4, w.2)
    only most (SentNotAbove l) w =
        let bar = barring-link g f r y d w.5.1 in
        goes_on w.1
        ∙ rw (w.2, le-ltb (f y d) _ w.4, w.3, lt-ltb (barring_end g f r y d) (2 * g.links) bar.0, bar.1)
    only most (Forwards l) w =
        let e : ℕ = w.0 in
        let met = w.1.allowed in
        goes_on (record { not_destination = met.not_destination; has_path = met.has_path; chosen = w.1.chosen })
        ∙ rw (met.up, le-ltb (f y d) _ met.held, held-told most met.has_path e met.held, bars-none g f r y d met.sent, w.1.link)

pub verdict-is-so : VerdictIsSo
verdict-is-so = verdict-says

pub no-other-verdict : NoOtherVerdict
no-other-verdict g differ c f r y d = only g c f r y d differ

pub verdict-follows-rule : VerdictFollowsRule
verdict-follows-rule g c f r y d l =
    (λ is. subst (Means g c f r y d) is (verdict-is-so g c f r y d), λ differ most w. no-other-verdict g differ c f r y d most (Forwards l) w)

-- ---- the port

-- it is open only where the verdict is that it forwards
pub open-verdict : (v : Verdict) (l : ℕ) → port_of v ≡ Some l → v ≡ Forwards l
open-verdict (Forwards k) l e = cc
open-verdict IsDestination l e = cc
open-verdict NoPath l e = cc
open-verdict NoLink l e = cc
open-verdict (LinkDown k) l e = cc
open-verdict (NothingHeld k) l e = cc
open-verdict (HeldTooGreat k) l e = cc
open-verdict (SentNotAbove k) l e = cc

module _ (g : Graph) (c : Costs) (f : ℕ → ℕ → ℕ) (r : Records) (y d : ℕ) where
  pub open-forwards : (l : ℕ) → port g c f r y d ≡ Some l → (e : ℕ) × rule.Forwards g c f r y d l e
  open-forwards l is = (verdict-follows-rule g c f r y d l).0 (open-verdict (verdict g c f r y d) l is)

  pub forwards-open : EndsDiffer g → f y d ≤ NONE → {l e : ℕ} → rule.Forwards g c f r y d l e → port g c f r y d ≡ Some l
  forwards-open differ most {l} {e} w = ap port_of ((verdict-follows-rule g c f r y d l).1 differ most (e, w))

  -- a port is closed or open
  none-closed : ((l e : ℕ) → rule.Forwards g c f r y d l e → ⊥) → port g c f r y d ≡ None
  none-closed none = go (port g c f r y d) refl
    where
      go : (p : Port) → port g c f r y d ≡ p → port g c f r y d ≡ None
      go None t = t
      go (Some l) t = let by = open-forwards l t in absurd (none l by.0 by.1)

pub port-follows-rule : PortFollowsRule
port-follows-rule g c f r y d =
    (open-forwards g c f r y d, λ differ most l w. forwards-open g c f r y d differ most w.1, none-closed g c f r y d)

-- a bridge with a path to another has a chosen link
pub chosen-for-path :
    (g : Graph) (c : Costs) → InRange g → (y d : ℕ) → (y ≡ d → ⊥) → (dist g c y d ≡ NONE → ⊥) → chosen_end g c (dist g c) y d < 2 * g.links
chosen-for-path g c range y d apart path =
    let t = next-hop g c range y d apart path in
    let w = link-reaches g c (dist g c) y d t.0 t.1 t.2 t.3 in
    chosen-exists g c (dist g c) y d w.0 w.1 w.2

pub verdict-has-link : (g : Graph) (c : Costs) → InRange g → (r : Records) (y d : ℕ) → verdict g c (dist g c) r y d ≡ NoLink → ⊥
verdict-has-link g c range r y d is =
    let none = subst (Means g c (dist g c) r y d) is (verdict-is-so g c (dist g c) r y d) in
    let h = chosen-for-path g c range y d none.0 none.1 in
    none.2 (chosen_end g c (dist g c) y d) h (chosen_is g c (dist g c) y d h).reaches
