-- The forwarding choice: what one end more comes to, and that the choice by all ends comes to the verdict. Assumes nothing.
use Prim.Native.Nat.{ℕ, zero, suc, ◌+◌, ◌*◌, ◌≤◌, ◌<◌}
use mathlib.Core.Path.{◌≡◌, refl, ◌∙◌}
use mathlib.Core.Bool.{Bool, true, false, cond, ◌&&◌, ◌||◌, not}
use borrow.Author.Tests.{eq-eqb, ne_eqb, ltb-true}
use native.Mathlib.Numerals.{add-one}
use native.Mathlib.Omega.{arith}
use lib.Dec.{eqb, ltb}
use Rattle.distances.specs.View.{Graph, Costs, NONE}
use Rattle.agreement.specs.Offer.{link_of, far_bridge}
use Rattle.agreement.specs.Tests.{first_below}
use Rattle.agreement.specs.Forwarding.{
  Records,
  reaches_distance,
  reaches,
  chosen_end,
  has_no_link,
  holds_nothing,
  sent_not_above,
  bars,
  barring_end,
  is_barred,
  first_of,
  verdict_from,
  verdict,
}
use Rattle.agreement.specs.Choice.{
  first_choice,
  next_choice,
  link_end,
  verdict_by,
  choice_with,
  choice_below,
  ChoiceIsVerdict,
}
use Rattle.agreement.specs.declared.Choice.{Choice}
use Rattle.agreement.specs.declared.LinkEnd.{LinkEnd}
use Rattle.agreement.proofs.Firsts.{at_first, found-more, at-first-more}

abbrev choice : ℕ → ℕ → ℕ → ℕ → Bool → Bool → Bool → Bool → Bool → Choice
choice distance held link barring destination found down holding barred =
    record {
      distance = distance;
      held = held;
      link = link;
      barring = barring;
      destination = destination;
      found = found;
      down = down;
      holding = holding;
      barred = barred;
    }

-- ---- one end more

module _ (old : Choice) (e : LinkEnd) where
  -- an end that may be at another bridge
  module _ (at : Bool) where
    -- it is the first that reaches the distance; the first that bars the bridge
    abbrev chosen_here : Bool
    chosen_here = not old.found && (at && reaches_distance e.cost e.far old.distance)

    abbrev barring_here : Bool
    barring_here = not old.barred && (at && sent_not_above e.down e.sent old.distance)

    abbrev next_if : Choice
    next_if =
        choice old.distance (cond chosen_here e.held old.held) (cond chosen_here e.link old.link)
        (cond barring_here e.link old.barring) old.destination (old.found || (at && reaches_distance e.cost e.far old.distance))
        (cond chosen_here e.down old.down) (cond chosen_here e.holding old.holding)
        (old.barred || (at && sent_not_above e.down e.sent old.distance))

  next-if : (at : Bool) → cond at (next_choice old e) old ≡ next_if at
  unfolding next_choice
  next-if true = refl
  next-if false = go old.found old.barred
    where
      go :
          (f b : Bool) →
          choice old.distance old.held old.link old.barring old.destination f old.down old.holding b
          ≡ choice old.distance (cond (not f && false) e.held old.held) (cond (not f && false) e.link old.link)
          (cond (not b && false) e.link old.barring) old.destination (f || false) (cond (not f && false) e.down old.down)
          (cond (not f && false) e.holding old.holding) (b || false)
      go true true = refl
      go true false = refl
      go false true = refl
      go false false = refl

-- ---- all ends

module _ (g : Graph) (c : Costs) (f : ℕ → ℕ → ℕ) (r : Records) (y d : ℕ) where
  abbrev holding_at : ℕ → Bool
  holding_at e = (r.ends e).holding

  abbrev held_at : ℕ → ℕ
  held_at e = r.held e d

  -- what the choice by the ends below n is
  abbrev by_ends : ℕ → Choice
  by_ends n =
      choice (f y d) (at_first (reaches g c f y d) n held_at 0) (at_first (reaches g c f y d) n link_of 0)
      (at_first (bars g f r y d) n link_of 0) (eqb y d) (ltb (first_below n (reaches g c f y d)) n)
      (at_first (reaches g c f y d) n r.down false) (at_first (reaches g c f y d) n holding_at false)
      (ltb (first_below n (bars g f r y d)) n)

  end_more : (n : ℕ) → cond (eqb (g.bridge_at n) y) (choice_with g c f r d n (by_ends n)) (by_ends n) ≡ by_ends (suc n)
  unfolding choice_with reaches bars
  end_more n =
      next-if (by_ends n) (link_end g c f r d n) (eqb (g.bridge_at n) y)
      ∙ rw (
        at-first-more (reaches g c f y d) held_at 0 n,
        at-first-more (reaches g c f y d) link_of 0 n,
        at-first-more (reaches g c f y d) r.down false n,
        at-first-more (reaches g c f y d) holding_at false n,
        at-first-more (bars g f r y d) link_of 0 n,
        found-more (reaches g c f y d) n,
        found-more (bars g f r y d) n,
      )

  by-ends : (n : ℕ) → choice_below g c f r y d n ≡ by_ends n
  unfolding choice_below first_choice first_below
  by-ends zero = refl
  by-ends (suc n) = rw (by-ends n) (end_more n)

  by-verdict : verdict_by (by_ends (2 * g.links)) ≡ verdict g c f r y d
  unfolding verdict_by verdict verdict_from first_of chosen_end has_no_link holds_nothing barring_end is_barred
  by-verdict = go (ltb e (2 * g.links)) (ltb k (2 * g.links)) refl refl
    where
      e : ℕ
      e = first_below (2 * g.links) (reaches g c f y d)

      k : ℕ
      k = first_below (2 * g.links) (bars g f r y d)

      -- a limit is asked for only where a view is held
      held-asked :
          (h t : Bool) →
          first_of (eqb y d) (eqb (f y d) NONE) false (r.down e) (not h) (ltb (f y d) (r.held e d)) t (link_of e) (cond t (link_of k) 0)
          ≡ first_of (eqb y d) (eqb (f y d) NONE) false (r.down e) (not h) (ltb (f y d) (cond h (r.held e d) NONE)) t (link_of e) (link_of k)
      held-asked true true = refl
      held-asked true false = refl
      held-asked false t = refl

      go : (b t : Bool) → ltb e (2 * g.links) ≡ b → ltb k (2 * g.links) ≡ t → verdict_by (by_ends (2 * g.links)) ≡ verdict_from g f r y d e
      go true t p q = rw (p, q) (held-asked (r.ends e).holding t)
      go false t p q = rw p

  -- its distance is the bridge's, and its links are some of those so far
  pub choice-distance : (n : ℕ) → (choice_below g c f r y d n).distance ≡ f y d
  choice-distance n = rw (by-ends n)

  first-link : (test : ℕ → Bool) (n : ℕ) → n ≤ 64 → at_first test n link_of 0 < 32
  first-link test n few = go (ltb k n) refl
    where
      k : ℕ
      k = first_below n test

      go : (b : Bool) → ltb k n ≡ b → cond b (link_of k) 0 < 32
      go true e = omega (arith, ltb-true k n e)
      go false e = omega arith

  pub choice-links : (n : ℕ) → n ≤ 64 → ((choice_below g c f r y d n).link < 32) × ((choice_below g c f r y d n).barring < 32)
  choice-links n few = rw (by-ends n) (first-link (reaches g c f y d) n few, first-link (bars g f r y d) n few)

-- ---- a loop over the ends

-- what a loop hands over of end e
pub record IsEnd (g : Graph) (c : Costs) (f : ℕ → ℕ → ℕ) (r : Records) (d e : ℕ) (x : LinkEnd) : Type 0 where
  pub is_link : x.link ≡ link_of e
  pub is_cost : x.cost ≡ c (link_of e)
  pub is_far : x.far ≡ f (far_bridge g e) d
  pub is_down : x.down ≡ r.down e
  pub is_holding : x.holding ≡ (r.ends e).holding
  pub is_sent : x.sent ≡ r.sent e d
  pub is_held : x.held ≡ r.held e d

pub end-is :
    {g : Graph} {c : Costs} {f : ℕ → ℕ → ℕ} {r : Records} {d e : ℕ} {x : LinkEnd} →
    IsEnd g c f r d e x →
    x ≡ link_end g c f r d e
end-is told =
    rw (
      ← told.is_cost,
      ← told.is_far,
      ← told.is_down,
      ← told.is_holding,
      ← told.is_sent,
      ← told.is_held,
      ← told.is_link,
    )

module _ (g : Graph) (c : Costs) (f : ℕ → ℕ → ℕ) (r : Records) (y d : ℕ) where
  -- no end yet; one end more, at y or not
  pub choice-none : {own : ℕ} → own ≡ f y d → first_choice own (eqb y d) ≡ choice_below g c f r y d 0
  unfolding choice_below
  choice-none e = rw e

  pub choice-next :
      (e : ℕ) {old next : Choice} {x : LinkEnd} →
      old ≡ choice_below g c f r y d e →
      g.bridge_at e ≡ y →
      x ≡ link_end g c f r d e →
      next ≡ next_choice old x →
      next ≡ choice_below g c f r y d (e + 1)
  unfolding choice_below choice_with
  choice-next e so at told is = is ∙ rw (told, so, add-one, eq-eqb (g.bridge_at e) y at)

  pub choice-here :
      (e : ℕ) {old next : Choice} {x : LinkEnd} →
      old ≡ choice_below g c f r y d e →
      g.bridge_at e ≡ y →
      IsEnd g c f r d e x →
      next ≡ next_choice old x →
      next ≡ choice_below g c f r y d (e + 1)
  choice-here e so at told is = choice-next e so at (end-is told) is

  pub choice-away : (e : ℕ) → (g.bridge_at e ≡ y → ⊥) → choice_below g c f r y d e ≡ choice_below g c f r y d (e + 1)
  unfolding choice_below
  choice-away e apart = rw (add-one, ne_eqb (g.bridge_at e) y apart)

pub choice-is-verdict : ChoiceIsVerdict
choice-is-verdict g c f r y d = rw (by-ends g c f r y d (2 * g.links)) (by-verdict g c f r y d)
