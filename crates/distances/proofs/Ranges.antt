-- Laws of tests over a list, over the numbers below a bound and over the ends of links, and of the entry check: what a refused test,
-- a graph, costs or a call that pass tell, and what passes. Assumes nothing.
use Prim.Native.Nat.{ℕ, zero, suc, ◌+◌, ◌*◌, ◌/◌, ◌%◌, ◌≤◌, ◌<◌}
use native.Mathlib.Nat.{not-suc-le-zero}
use native.Mathlib.Omega.{arith}
use mathlib.Core.Path.{◌≡◌, refl, sym, subst, ◌∙◌}
use mathlib.Core.Logic.{◌⊎◌, inl, inr}
use mathlib.Core.Bool.{Bool, true, false, ◌&&◌, not}
use mathlib.Core.List.{List, [], ◌∷◌}
use borrow.Author.Tests.{ltb-true, leb-true, eqb-true, eqb-false, not-true, le-leb, lt-ltb, ne_eqb}
use lib.ListN.{length, get_or}
use lib.Bits.{bit_or, or_lt, or_add_and, and_le_l, and_le_r}
use lib.Dec.{eqb, leb, ltb}
use Rattle.distances.specs.Call.{every, all_below, link_passes, link_in_range, graph_passes, costs_pass, in_range}
use Rattle.distances.specs.View.{InRange, CostsInRange, graph_of, costs_of, max_cost}
use Rattle.distances.proofs.Booleans.{both_true, true-both, not-both, same_test}

pub refused : (i : ℕ) (bs : List Bool) → get_or bs i true ≡ false → false ≡ every bs
unfolding every
refused i [] e = sym e
refused zero (b ∷ bs) e = rw e
refused (suc i) (b ∷ bs) e = sym (not-both b (every bs) (sym (refused i bs e)))

pub every_true : (i : ℕ) (bs : List Bool) → every bs ≡ true → get_or bs i true ≡ true
unfolding every
every_true i [] e = refl
every_true zero (b ∷ bs) e = (both_true b (every bs) e).0
every_true (suc i) (b ∷ bs) e = every_true i bs (both_true b (every bs) e).1

pub all_below-true : (n : ℕ) (test : ℕ → Bool) → all_below n test ≡ true → (l : ℕ) → l < n → test l ≡ true
unfolding all_below
all_below-true zero test e l h = absurd (not-suc-le-zero h)
all_below-true (suc n) test e l h = go (eqb l n) refl (all_below-true n test (both_true (all_below n test) (test n) e).0 l)
  where
    go : (b : Bool) → eqb l n ≡ b → (l < n → test l ≡ true) → test l ≡ true
    go true d below = rw (eqb-true l n d) (both_true (all_below n test) (test n) e).1
    go false d below = below (omega (arith, eqb-false l n d))

pub all_below-none : (test : ℕ → Bool) → true ≡ all_below 0 test
unfolding all_below
all_below-none test = refl

-- below one number more: the test holds of that number too
pub all_below-more : (n : ℕ) (test : ℕ → Bool) → all_below (suc n) test ≡ (all_below n test && test n)
unfolding all_below
all_below-more n test = refl

pub true-all_below : (n : ℕ) (test : ℕ → Bool) → ((i : ℕ) → i < n → test i ≡ true) → all_below n test ≡ true
unfolding all_below
true-all_below zero test each = refl
true-all_below (suc n) test each = true-both (true-all_below n test (λ i h. each i (omega arith))) (each n (omega arith))

-- one number fails the test
pub all-fails : (n : ℕ) (test : ℕ → Bool) (k : ℕ) → k < n → test k ≡ false → false ≡ all_below n test
all-fails n test k h f = go (all_below n test) refl
  where
    go : (b : Bool) → all_below n test ≡ b → false ≡ b
    go true e = sym f ∙ all_below-true n test e k h
    go false e = refl

-- end e is one of the two ends of link e / 2
pub side : (e : ℕ) → (e ≡ 2 * (e / 2)) ⊎ (e ≡ 2 * (e / 2) + 1)
side e = go (eqb (e % 2) 0) refl
  where
    go : (b : Bool) → eqb (e % 2) 0 ≡ b → (e ≡ 2 * (e / 2)) ⊎ (e ≡ 2 * (e / 2) + 1)
    go true q = inl (omega (arith, eqb-true (e % 2) 0 q))
    go false q = inr (omega (arith, eqb-false (e % 2) 0 q))

-- what holds of both ends of every link holds of every end
pub each-end : (P : ℕ → Type 0) (links : ℕ) → ((l : ℕ) → l < links → P (2 * l) × P (2 * l + 1)) → (e : ℕ) → e < 2 * links → P e
each-end P links both e h = go (side e) (both (e / 2) (omega arith))
  where
    go : (e ≡ 2 * (e / 2)) ⊎ (e ≡ 2 * (e / 2) + 1) → P (2 * (e / 2)) × P (2 * (e / 2) + 1) → P e
    go (inl q) b = subst P (sym q) b.0
    go (inr q) b = subst P (sym q) b.1

-- every link joins two different bridges: every end is at a bridge, and the ends of each link differ
pub links_apart :
    (bridges links : ℕ) (ends : List ℕ) →
    (all_below (2 * links) (λ e. ltb (get_or ends e 0) bridges) && all_below links (λ l. not (eqb (get_or ends (2 * l) 0) (get_or ends (2 * l + 1) 0))))
    ≡ all_below links (link_in_range bridges ends)
unfolding link_in_range link_passes
links_apart bridges links ends = same_test _ _ whole parts
  where
    below : ℕ → Bool
    below e = ltb (get_or ends e 0) bridges

    differ : ℕ → Bool
    differ l = not (eqb (get_or ends (2 * l) 0) (get_or ends (2 * l + 1) 0))

    whole : (all_below (2 * links) below && all_below links differ) ≡ true → all_below links (link_in_range bridges ends) ≡ true
    whole t =
        let h = both_true (all_below (2 * links) below) _ t in
        let at = all_below-true (2 * links) below h.0 in
        true-all_below links _ (λ l low. true-both (at (2 * l) (omega arith)) (true-both (at (2 * l + 1) (omega arith)) (all_below-true links differ h.1 l low)))

    told : all_below links (link_in_range bridges ends) ≡ true → (l : ℕ) → l < links → (below (2 * l) ≡ true) × (below (2 * l + 1) ≡ true) × (differ l ≡ true)
    told t l low =
        let h = both_true (below (2 * l)) _ (all_below-true links (link_in_range bridges ends) t l low) in
        let k = both_true (below (2 * l + 1)) _ h.1 in (h.0, k.0, k.1)

    parts : all_below links (link_in_range bridges ends) ≡ true → (all_below (2 * links) below && all_below links differ) ≡ true
    parts t =
        true-both
        (true-all_below (2 * links) below (each-end (λ e. below e ≡ true) links (λ l low. let h = told t l low in (h.0, h.1))))
        (true-all_below links differ (λ l low. (told t l low).2))

-- ---- a graph that passes

module _ (bridges links : ℕ) (ends : List ℕ) (ok : graph_passes bridges links ends ≡ true) where
  pub counts : (bridges ≤ 16) × (links ≤ 32) × (2 * links ≤ length ends)
  unfolding graph_passes
  counts = (
    leb-true bridges 16 (every_true 1 _ ok),
    leb-true links 32 (every_true 2 _ ok),
    leb-true (2 * links) (length ends) (every_true 3 _ ok),
  )

  -- what the check tells of a link
  link-told :
      (l : ℕ) →
      l < links →
      (get_or ends (2 * l) 0 < bridges)
      × (get_or ends (2 * l + 1) 0 < bridges)
      × (get_or ends (2 * l) 0 ≡ get_or ends (2 * l + 1) 0 → ⊥)
  unfolding graph_passes link_in_range link_passes
  link-told l h =
      let e = all_below-true links (link_in_range bridges ends) (every_true 4 _ ok) l h in
      let d = both_true (ltb (get_or ends (2 * l) 0) bridges) _ e in
      let k = both_true (ltb (get_or ends (2 * l + 1) 0) bridges) _ d.1 in (
        ltb-true (get_or ends (2 * l) 0) bridges d.0,
        ltb-true (get_or ends (2 * l + 1) 0) bridges k.0,
        eqb-false (get_or ends (2 * l) 0) (get_or ends (2 * l + 1) 0) (not-true _ k.1),
      )

  pub both_ends : (l : ℕ) → l < links → (get_or ends (2 * l) 0 < bridges) × (get_or ends (2 * l + 1) 0 < bridges)
  both_ends l h = let t = link-told l h in (t.0, t.1)

  pub at_bridge : (e : ℕ) → e < 2 * links → get_or ends e 0 < bridges
  at_bridge = each-end (λ e. get_or ends e 0 < bridges) links both_ends

  pub ends-below : (e : ℕ) → e < 2 * links → get_or ends e 0 < 16
  ends-below e h = omega (arith, counts, at_bridge e h)

  -- the ranges as the laws of distances ask them
  pub graph-in-range : InRange (graph_of bridges links ends)
  unfolding graph_passes
  graph-in-range =
      record {
        least = leb-true 2 bridges (every_true 0 _ ok);
        most = counts.0;
        links = counts.1;
        first = λ l h. (link-told l h).0;
        second = λ l h. (link-told l h).1;
        differ = λ l h. (link-told l h).2;
      }

-- and a graph in the ranges passes
pub graph-made :
    (bridges links : ℕ) (ends : List ℕ) →
    InRange (graph_of bridges links ends) →
    2 * links ≤ length ends →
    graph_passes bridges links ends ≡ true
unfolding graph_passes every link_in_range link_passes
graph-made bridges links ends g long =
    true-both (le-leb _ _ g.least)
    (true-both (le-leb _ _ g.most)
    (true-both (le-leb _ _ g.links) (true-both (le-leb _ _ long) (true-both (true-all_below _ _ link) refl))))
  where
    link : (l : ℕ) → l < links → link_in_range bridges ends l ≡ true
    link l h =
        let apart : not (eqb (get_or ends (2 * l) 0) (get_or ends (2 * l + 1) 0)) ≡ true = rw (ne_eqb _ _ (g.differ l h)) in
        true-both (lt-ltb _ _ (g.first l h)) (true-both (lt-ltb _ _ (g.second l h)) apart)

-- ---- costs that pass: there is one for each link, in the range

pub costs-told :
    (links : ℕ) (costs : List ℕ) →
    costs_pass links costs ≡ true →
    (links ≤ length costs) × ((l : ℕ) → l < links → get_or costs l 0 ≤ max_cost)
unfolding costs_pass
costs-told links costs ok =
    let e = both_true (leb links (length costs)) _ ok in (
      leb-true links (length costs) e.0,
      λ l h. leb-true (get_or costs l 0) max_cost (all_below-true links _ e.1 l h),
    )

pub costs-made :
    (links : ℕ) (costs : List ℕ) →
    links ≤ length costs →
    ((l : ℕ) → l < links → get_or costs l 0 ≤ max_cost) →
    costs_pass links costs ≡ true
unfolding costs_pass
costs-made links costs room each = true-both (le-leb _ _ room) (true-all_below _ _ (λ l h. le-leb _ _ (each l h)))

-- numbers joined by `|` are at most the greatest cost, 24 bits all set, if and only if each is
pub joined-passes : (a b : ℕ) → leb (bit_or a b) max_cost ≡ (leb a max_cost && leb b max_cost)
joined-passes a b = same_test _ _ apart together
  where
    apart : leb (bit_or a b) max_cost ≡ true → (leb a max_cost && leb b max_cost) ≡ true
    apart t =
        let h = leb-true (bit_or a b) max_cost t in
        true-both (le-leb a max_cost (omega (arith, or_add_and a b, and_le_r a b))) (le-leb b max_cost (omega (arith, or_add_and a b, and_le_l a b)))

    together : (leb a max_cost && leb b max_cost) ≡ true → leb (bit_or a b) max_cost ≡ true
    together t =
        let h = both_true (leb a max_cost) (leb b max_cost) t in
        le-leb (bit_or a b) max_cost (omega (arith, or_lt 24 a b (omega (arith, leb-true a max_cost h.0)) (omega (arith, leb-true b max_cost h.1))))

-- ---- the whole check: graph, costs and the table's size

module _ (bridges links : ℕ) (ends costs : List ℕ) (size : ℕ) where
  pub in-range-made : graph_passes bridges links ends ≡ true → costs_pass links costs ≡ true → 256 ≤ size → in_range bridges links ends costs size ≡ true
  unfolding in_range
  in-range-made graph each wide = true-both graph (true-both each (le-leb _ _ wide))

  module _ (ok : in_range bridges links ends costs size ≡ true) where
    pub in-range-told : (graph_passes bridges links ends ≡ true) × (costs_pass links costs ≡ true) × (256 ≤ size)
    unfolding in_range
    in-range-told =
        let g = both_true (graph_passes bridges links ends) _ ok in
        let c = both_true (costs_pass links costs) _ g.1 in (g.0, c.0, leb-true 256 size c.1)

    pub sizes : (bridges ≤ 16) × (links ≤ 32) × (2 * links ≤ length ends) × (links ≤ length costs) × (256 ≤ size)
    sizes =
        let g = counts bridges links ends in-range-told.0 in
        (g.0, g.1, g.2, (costs-told links costs in-range-told.1).0, in-range-told.2)

    pub costs-in-range : CostsInRange (graph_of bridges links ends) (costs_of costs)
    costs-in-range = record { most = (costs-told links costs in-range-told.1).1 }
