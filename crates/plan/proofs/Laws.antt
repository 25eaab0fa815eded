-- What a field that was read tells, for the layers above: the bytes that it takes, and what its checks say of it. Assumes nothing.
use Prim.Native.Nat.{ℕ, zero, suc, ◌+◌, ◌*◌, ◌≤◌, ◌<◌}
use native.Mathlib.Omega.{arith}
use mathlib.Core.Path.{◌≡◌, refl, sym, ap, subst, ◌∙◌}
use mathlib.Core.Logic.{⊎_elim}
use mathlib.Core.Bool.{Bool, true, false, cond, ◌&&◌, ◌||◌, not}
use mathlib.Core.List.{List, []}
use borrow.Author.Tests.{ltb-true, ltb-false, lt-leb, leb-true, leb-false, ne_eqb, eqb-true, eqb-false, not-true, not-false}
use lib.ListN.{length}
use lib.Dec.{eqb, leb, ltb}
use Rattle.bench.specs.declared.Event.{Event}
use Rattle.distances.specs.View.{max_cost}
use Rattle.distances.specs.Call.{all_below}
use Rattle.distances.specs.Refusal.{check, refusal}
use Rattle.distances.proofs.Booleans.{both_true, one-true}
use Rattle.distances.proofs.Ranges.{all_below-true, all_below-none, all_below-more}
use Rattle.plan.specs.Sizes.{least_bridges, most_bridges, most_links, most_views, header_bytes, cost_bytes}
use Rattle.plan.specs.Tags.{tags, may_come, length_fits, passes, known, is_setup, in_order, right_length}
use Rattle.plan.specs.Fields.{value, tag, value_length, size, cost_in, event_by, field_of}
use Rattle.plan.specs.Reading.{Read, header_checks, costs_fit, bridge_checks, link_checks, view_checks, value_checks, field_refusal, read_of, graph_counted, progress_in_range, read_reply}
use Rattle.plan.specs.declared.Progress.{Progress}
use Rattle.plan.specs.declared.Field.{Field}
use Rattle.distances.proofs.Checks.{passed}
use Rattle.plan.proofs.TagTable.{in-range, event-late, event-short}

-- what the checks of each field tell
pub record BridgesRead (p : Progress) (n : ℕ) : Type 0 where
  pub opening : p.stage ≡ 0
  pub least : least_bridges ≤ n
  pub most : n ≤ most_bridges

pub record LinkRead (p : Progress) (a b : ℕ) : Type 0 where
  pub counted : p.stage ≡ 1
  pub room : p.links < most_links
  pub first : a < p.bridges
  pub second : b < p.bridges
  pub differ : a ≡ b → ⊥

pub record ViewRead (rest : List ℕ) (p : Progress) : Type 0 where
  pub counted : 1 ≤ p.stage
  pub early : p.stage ≤ 2
  pub listed : p.links ≤ most_links
  pub room : p.views < most_views
  pub whole : header_bytes + cost_bytes * p.links ≤ length rest
  pub costs : (l : ℕ) → l < p.links → cost_in rest l ≤ max_cost

abbrev pub FieldRead : List ℕ → Progress → Field → Type 0
FieldRead rest p (Field.Bridges n) = BridgesRead p n
FieldRead rest p (Field.Link a b) = LinkRead p a b
FieldRead rest p Field.View = ViewRead rest p
FieldRead rest p (Field.Event v) = 2 ≤ p.stage

-- the tests of all costs, as the tests below a bound
pub fits_below : (rest : List ℕ) (k : ℕ) → costs_fit rest k ≡ all_below k (λ l. leb (cost_in rest l) max_cost)
unfolding costs_fit
fits_below rest zero = all_below-none _
fits_below rest (suc k) = rw (fits_below rest k, all_below-more)

-- a view's stage is 1 or 2
view-stage : (s : ℕ) → (eqb s 1 || eqb s 2) ≡ true → (1 ≤ s) × (s ≤ 2)
view-stage s e =
    ⊎_elim
    (λ h. omega (arith, eqb-true s 1 h))
    (λ h. omega (arith, eqb-true s 2 h))
    (one-true (eqb s 1) (eqb s 2) e)

-- how many bridges and links a progress in range has at most
record Few (p : Progress) : Type 0 where
  bridges : p.bridges ≤ most_bridges
  links : p.links ≤ most_links

counted-few : (p : Progress) → graph_counted p ≡ true → Few p
unfolding graph_counted
counted-few p e =
    let least = both_true (leb least_bridges p.bridges) _ e in
    let most = both_true (leb p.bridges most_bridges) _ least.1 in
    record { bridges = leb-true p.bridges most_bridges most.0; links = leb-true p.links most_links most.1 }

in-range-few : (p : Progress) → progress_in_range p ≡ true → Few p
unfolding progress_in_range
in-range-few p = go (eqb p.stage 0) (eqb p.stage 1)
  where
    go : (a b : Bool) →
        cond a (eqb p.bridges 0 && (eqb p.links 0 && eqb p.views 0)) (
        cond b (graph_counted p && eqb p.views 0) (
        leb p.stage 3 && (graph_counted p && (leb 1 p.views && leb p.views most_views)))) ≡ true →
        Few p
    go true b e =
        let bridges = both_true (eqb p.bridges 0) _ e in
        let links = both_true (eqb p.links 0) _ bridges.1 in
        record {
          bridges = omega (arith, eqb-true p.bridges 0 bridges.0);
          links = omega (arith, eqb-true p.links 0 links.0);
        }
    go false true e = counted-few p (both_true (graph_counted p) _ e).0
    go false false e = counted-few p (both_true (graph_counted p) _ (both_true (leb p.stage 3) _ e).1).0

pub few_links : (p : Progress) → progress_in_range p ≡ true → p.links ≤ most_links
few_links p e = (in-range-few p e).links

pub few_bridges : (p : Progress) → progress_in_range p ≡ true → p.bridges ≤ most_bridges
few_bridges p e = (in-range-few p e).bridges

-- a stop is no field
stops : {n : ℕ} {f : Field} {k : ℕ} → Read.Stop n ≡ Read.Field f k → ⊥
stops e = let z : ◌≡◌ {A = ℕ} 0 1 = cc in omega arith

module _ (rest : List ℕ) (p : Progress) where
  record Header : Type 0 where
    named : known (tag rest) ≡ true
    order : in_order (tag rest) p.stage ≡ true
    right : right_length (tag rest) p.links (value_length rest) ≡ true
    whole : size rest ≤ length rest

  header-told : refusal (header_checks rest p) ≡ 0 → Header
  unfolding header_checks
  header-told e =
      let one = passed (check (ltb (length rest) header_bytes) 1) _ (omega arith) e in
      let two = passed (check (not (known (tag rest))) 2) _ (omega arith) one.1 in
      let three = passed (check (not (in_order (tag rest) p.stage)) 4) _ (omega arith) two.1 in
      let four = passed (check (not (right_length (tag rest) p.links (value_length rest))) 3) _ (omega arith) three.1 in
      let five = passed (check (ltb (length rest) (size rest)) 1) _ (omega arith) four.1 in
      record {
        named = not-false _ two.0;
        order = not-false _ three.0;
        right = not-false _ four.0;
        whole = ltb-false (length rest) (size rest) five.0;
      }

  bridges-told : tag rest ≡ 1 → in_order (tag rest) p.stage ≡ true → refusal (bridge_checks rest) ≡ 0 → BridgesRead p (value rest 0)
  unfolding in_order passes tags may_come bridge_checks
  bridges-told t order e =
      let one = passed (check (not (leb least_bridges (value rest 0) && leb (value rest 0) most_bridges)) 5) [] (omega arith) e in
      let both = both_true (leb least_bridges (value rest 0)) (leb (value rest 0) most_bridges) (not-false _ one.0) in
      record {
        opening = eqb-true p.stage 0 (rw t at order);
        least = leb-true least_bridges (value rest 0) both.0;
        most = leb-true (value rest 0) most_bridges both.1;
      }

  link-told : tag rest ≡ 2 → in_order (tag rest) p.stage ≡ true → refusal (link_checks rest p) ≡ 0 → LinkRead p (value rest 0) (value rest 1)
  unfolding in_order passes tags may_come link_checks
  link-told t order e =
      let a = value rest 0 in
      let b = value rest 1 in
      let one = passed (check (leb most_links p.links) 6) _ (omega arith) e in
      let two = passed (check (not (ltb a p.bridges && (ltb b p.bridges && not (eqb a b)))) 7) [] (omega arith) one.1 in
      let both = both_true (ltb a p.bridges) _ (not-false _ two.0) in
      let more = both_true (ltb b p.bridges) _ both.1 in
      record {
        counted = eqb-true p.stage 1 (rw t at order);
        room = leb-false most_links p.links one.0;
        first = ltb-true a p.bridges both.0;
        second = ltb-true b p.bridges more.0;
        differ = eqb-false a b (not-true (eqb a b) more.1);
      }

  view-told : tag rest ≡ 3 → p.links ≤ most_links → Header → refusal (view_checks rest p) ≡ 0 → ViewRead rest p
  unfolding in_order right_length passes tags may_come length_fits view_checks
  view-told t listed header e =
      let one = passed (check (leb most_views p.views) 8) _ (omega arith) e in
      let two = passed (check (not (costs_fit rest p.links)) 9) [] (omega arith) one.1 in
      let stage = view-stage p.stage (rw t at header.order) in
      let costs = eqb-true (value_length rest) (cost_bytes * p.links) (rw t at header.right) in
      record {
        counted = stage.0;
        early = stage.1;
        listed = listed;
        room = leb-false most_views p.views one.0;
        whole = omega (arith, costs, header.whole);
        costs = λ l h.
            leb-true (cost_in rest l) max_cost
            (all_below-true p.links (λ l. leb (cost_in rest l) max_cost) (sym (fits_below rest p.links) ∙ not-false _ two.0) l h);
      }

  -- by the tag
  value-told : p.links ≤ most_links → Header → refusal (value_checks rest p) ≡ 0 → FieldRead rest p (field_of rest)
  unfolding value_checks field_of
  value-told listed header = go (eqb (tag rest) 1) (eqb (tag rest) 2) (eqb (tag rest) 3) refl refl refl
    where
      go : (a b c : Bool) → eqb (tag rest) 1 ≡ a → eqb (tag rest) 2 ≡ b → eqb (tag rest) 3 ≡ c →
          refusal (cond a (bridge_checks rest) (cond b (link_checks rest p) (cond c (view_checks rest p) []))) ≡ 0 →
          FieldRead rest p (cond a (Field.Bridges (value rest 0)) (cond b (Field.Link (value rest 0) (value rest 1)) (cond c Field.View (Field.Event (event_by (tag rest) (value rest 0) (value rest 1))))))
      go true b c one two three e = bridges-told (eqb-true (tag rest) 1 one) header.order e
      go false true c one two three e = link-told (eqb-true (tag rest) 2 two) header.order e
      go false false true one two three e = view-told (eqb-true (tag rest) 3 three) listed header e
      go false false false one two three e = event-late (tag rest) p.stage one two three header.order

  -- a field that was read: none of its checks applies
  record Passed (f : Field) (k : ℕ) : Type 0 where
    listed : p.links ≤ most_links
    field : field_of rest ≡ f
    taken : k ≡ size rest
    header : refusal (header_checks rest p) ≡ 0
    value : refusal (value_checks rest p) ≡ 0

  none-applies : {f : Field} {k : ℕ} → read_reply rest p ≡ Read.Field f k → Passed f k
  unfolding read_reply read_of field_refusal
  none-applies {f} {k} = go (progress_in_range p) (eqb (length rest) 0) (eqb (refusal (header_checks rest p)) 0) refl refl
    where
      -- the field or its number
      last : (b : Bool) (r : ℕ) → eqb r 0 ≡ b → cond b (Read.Field (field_of rest) (size rest)) (Read.Stop r) ≡ Read.Field f k →
          (field_of rest ≡ f) × (k ≡ size rest) × (r ≡ 0)
      last true r z e = (cc, cc, eqb-true r 0 z)
      last false r z e = absurd (stops e)

      go : (a b c : Bool) → progress_in_range p ≡ a → eqb (refusal (header_checks rest p)) 0 ≡ c →
          cond a (cond b (Read.Stop (cond (eqb p.views 0) 4 0)) (
          cond (eqb (cond c (refusal (value_checks rest p)) (refusal (header_checks rest p))) 0)
          (Read.Field (field_of rest) (size rest))
          (Read.Stop (cond c (refusal (value_checks rest p)) (refusal (header_checks rest p)))))) (Read.Stop 17) ≡ Read.Field f k →
          Passed f k
      go false b c l h e = absurd (stops e)
      go true true c l h e = absurd (stops e)
      go true false true l h e = let t = last _ (refusal (value_checks rest p)) refl e in
          record { listed = few_links p l; field = t.0; taken = t.1; header = eqb-true (refusal (header_checks rest p)) 0 h; value = t.2 }
      go true false false l h e = let t = last _ (refusal (header_checks rest p)) refl e in
          absurd (eqb-false (refusal (header_checks rest p)) 0 h t.2)

-- the bytes that a field takes are there, its header among them
pub field-size : (rest : List ℕ) (p : Progress) {f : Field} {k : ℕ} → read_reply rest p ≡ Read.Field f k → (header_bytes ≤ k) × (k ≤ length rest) × (k ≡ size rest)
field-size rest p e =
    let t = none-applies rest p e in
    let h = header-told rest p t.header in
    (omega arith, omega arith, t.taken)

-- an event has none of the three tags that set the network up
event-tag :
    (rest : List ℕ) {e : Event} → field_of rest ≡ Field.Event e →
    (eqb (tag rest) 1 ≡ false) × (eqb (tag rest) 2 ≡ false) × (eqb (tag rest) 3 ≡ false)
unfolding field_of
event-tag rest {e} = go (eqb (tag rest) 1) (eqb (tag rest) 2) (eqb (tag rest) 3)
  where
    is_event : Field → ℕ
    is_event (Field.Bridges n) = 0
    is_event (Field.Link a b) = 0
    is_event Field.View = 0
    is_event (Field.Event v) = 1

    other : {f : Field} → is_event f ≡ 0 → f ≡ Field.Event e → ⊥
    other none same = omega (arith, none, ap is_event same)

    go : (a b c : Bool) →
        cond a (Field.Bridges (value rest 0)) (cond b (Field.Link (value rest 0) (value rest 1)) (cond c Field.View (Field.Event (event_by (tag rest) (value rest 0) (value rest 1))))) ≡ Field.Event e →
        (a ≡ false) × (b ≡ false) × (c ≡ false)
    go true b c f = absurd (other refl f)
    go false true c f = absurd (other refl f)
    go false false true f = absurd (other refl f)
    go false false false f = (refl, refl, refl)

-- an event takes at most five
pub event-size : (rest : List ℕ) (p : Progress) {e : Event} {k : ℕ} → read_reply rest p ≡ Read.Field (Field.Event e) k → k ≤ 5
event-size rest p read =
    let t = none-applies rest p read in
    let h = header-told rest p t.header in
    let other = event-tag rest t.field in
    omega (arith, event-short (tag rest) p.links (value_length rest) other.0 other.1 other.2 h.right, t.taken)

-- ---- an event by its header and tag alone

-- no field is read whose header is refused
pub header-passed : (rest : List ℕ) (p : Progress) {f : Field} {k : ℕ} → read_reply rest p ≡ Read.Field f k → refusal (header_checks rest p) ≡ 0
header-passed rest p read = (none-applies rest p read).header

-- no event by a tag that sets the network up
pub event-no-setup : (rest : List ℕ) (p : Progress) {e : Event} {k : ℕ} → read_reply rest p ≡ Read.Field (Field.Event e) k → is_setup (tag rest) ≡ false
event-no-setup rest p read =
    let t = none-applies rest p read in
    let h = header-told rest p t.header in
    let other = event-tag rest t.field in
    lt-leb (tag rest) 3
    (omega (
      arith,
      (in-range (tag rest) h.named).0,
      eqb-false (tag rest) 1 other.0,
      eqb-false (tag rest) 2 other.1,
      eqb-false (tag rest) 3 other.2,
    ))

-- an event's value has no check, so it is read where the header's checks let it pass
pub event-read :
    (rest : List ℕ) (p : Progress) {e : Event} → progress_in_range p ≡ true → refusal (header_checks rest p) ≡ 0 → field_of rest ≡ Field.Event e →
    read_reply rest p ≡ Read.Field (Field.Event e) (size rest)
unfolding read_reply read_of field_refusal value_checks refusal
event-read rest p inside passes event =
    let whole = (header-told rest p passes).whole in
    let other = event-tag rest event in
    rw (inside, ne_eqb (length rest) 0 (λ z. omega arith), passes, other.0, other.1, other.2, event)

-- a field that was read is the one at the head
pub field-is : (rest : List ℕ) (p : Progress) {f : Field} {k : ℕ} → read_reply rest p ≡ Read.Field f k → field_of rest ≡ f
field-is rest p read = (none-applies rest p read).field

-- where a field was read the bridges are few
pub field-bridges : (rest : List ℕ) (p : Progress) {f : Field} {k : ℕ} → read_reply rest p ≡ Read.Field f k → p.bridges ≤ most_bridges
unfolding read_reply
field-bridges rest p {f} {k} = go (progress_in_range p) refl
  where
    go : (b : Bool) → progress_in_range p ≡ b → cond b (read_of rest p) (Read.Stop 17) ≡ Read.Field f k → p.bridges ≤ most_bridges
    go true l e = few_bridges p l
    go false l e = absurd (stops e)

pub field-read : (rest : List ℕ) (p : Progress) {f : Field} {k : ℕ} → read_reply rest p ≡ Read.Field f k → FieldRead rest p f
field-read rest p e =
    let t = none-applies rest p e in
    subst (FieldRead rest p) t.field (value-told rest p t.listed (header-told rest p t.header) t.value)
