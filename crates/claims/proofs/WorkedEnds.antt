-- What the claims of layers 1 and 2 tell of the triangle: each is applied, and only numbers are computed. Assumes nothing.
use Prim.Native.Nat.{ℕ, ◌<◌}
use native.Mathlib.Omega.{arith}
use mathlib.Core.Path.{◌≡◌, refl, sym, ap}
use mathlib.Core.Bool.{Bool, true}
use mathlib.Core.List.Memᴰ.{head}
use mathlib.Core.List.Memᴰ.{tail}
use mathlib.Core.List.{[]}
use Rattle.distances.specs.View.{costs_of}
use Rattle.distances.specs.Distance.{dist}
use Rattle.distances.specs.Table.{cell, rewritten_from, rewritten, is_in_row, is_pair, with_pairs}
use Rattle.distances.specs.Call.{link_passes, link_in_range, graph_passes, costs_pass, in_range, distances_of}
use Rattle.distances.specs.Examples.{triangle, view0, view1}
use Rattle.distances.proofs.Known.{below-three, triangle-in-range, view1-in-range}
use Rattle.agreement.specs.Call.{Response, Outcome, lent_graph, lent_in_range, HoldsDistances, lent_offer, update_outcome, deliver_outcome}
use Rattle.agreement.specs.Limits.{with_limits}
use Rattle.agreement.specs.Ranges.{is_view, record_in_range, end_in_range, delivery_in_range}
use Rattle.agreement.specs.Record.{fresh_record}
use Rattle.agreement.specs.declared.Answer.{Answer}
use Rattle.protocol.specs.Examples.{after, calls_e3, calls_e6}
use Rattle.protocol.specs.Ports.{hop}
use Rattle.protocol.proofs.Example.{computing}
use Rattle.claims.specs.Claims.{Claims}
use Rattle.claims.specs.WorkedEnds.{lent, limits, message, WorkedEnds}

-- all that computes below
unfoldable all : Bool
unfolding computing rewritten_from rewritten is_pair with_pairs link_passes link_in_range graph_passes costs_pass in_range distances_of cell is_in_row lent_offer update_outcome deliver_outcome with_limits is_view record_in_range end_in_range delivery_in_range
all = true

lent-ready : lent_in_range lent ≡ true
unfolding all
lent-ready = refl

-- the lent table has the view's distances
holds : HoldsDistances lent
unfolding all
holds i j hi hj =
    below-three (λ i. (j : ℕ) → j < 3 → cell lent.table i j ≡ dist (lent_graph lent) (costs_of lent.costs) i j)
    (below-three (λ j. cell lent.table 0 j ≡ dist (lent_graph lent) (costs_of lent.costs) 0 j) refl refl refl)
    (below-three (λ j. cell lent.table 1 j ≡ dist (lent_graph lent) (costs_of lent.costs) 1 j) refl refl refl)
    (below-three (λ j. cell lent.table 2 j ≡ dist (lent_graph lent) (costs_of lent.costs) 2 j) refl refl refl)
    i hi j hj

pub worked-ends : Claims → WorkedEnds
unfolding all
worked-ends claims =
    let by = claims.rule triangle view0 (dist triangle view0) (after calls_e3).records 2 0 in
    record {
      no_other = λ x is. claims.no_other triangle view1 1 0 x 4 is (claims.distances triangle view1 triangle-in-range view1-in-range 1 0);
      greatest = claims.greatest.most triangle view1 triangle-in-range view1-in-range 1 0 (λ e. omega arith);
      apart = (claims.none triangle (λ l. 0) triangle-in-range (record { most = λ l h. omega arith }) 1 0).0 refl;
      none = λ no. omega (arith, (claims.none triangle view1 triangle-in-range view1-in-range 1 0).1 no);
      rule = by.0 1 refl;
      opens = by.1 triangle-in-range.differ (omega arith) 1 (by.0 1 refl);
      closes = (claims.rule triangle view0 (dist triangle view0) (after []).records 2 0).2 (λ l e w. omega (arith, w.allowed.held));
      choice = claims.choice triangle view0 (dist triangle view0) (after calls_e3).records 2 0;
      is_so = claims.verdict triangle view1 (dist triangle view1) (after calls_e6).records 1 0;
      no_other_verdict = λ v is.
          sym (claims.no_other_verdict triangle triangle-in-range.differ view1 (dist triangle view1) (after calls_e6).records 1 0 (omega arith) v is);
      verdict_rule =
          (let so = claims.verdict_rule triangle view0 (dist triangle view0) (after calls_e3).records 2 0 1 in
          so.1 triangle-in-range.differ (omega arith) (so.0 refl));
      no_link = (claims.verdict triangle view1 (λ i j. 7) (after []).records 1 0).2;
      lent_offers = claims.lent_offers lent lent-ready holds 3 0 (omega arith) (omega arith);
      lent_verdict = (claims.lent_verdict lent lent-ready holds (after calls_e6).records 1 0 (omega arith) (omega arith)).0;
      lent_only = λ v is. sym ((claims.lent_verdict lent lent-ready holds (after calls_e6).records 1 0 (omega arith) (omega arith)).1 v is);
      lent_link = (claims.lent_verdict lent lent-ready holds (after calls_e6).records 1 0 (omega arith) (omega arith)).2;
      plain_update = ap (λ (o : Outcome ℕ). cell o.sent 3 0) (sym (claims.plain_ends.update lent 2 1 3 fresh_record limits limits refl));
      plain_delivery =
          ap (λ (o : Outcome (Response Answer)). cell o.held 2 0) (sym (claims.plain_ends.deliver lent 2 1 1 2 fresh_record message limits limits refl));
      hops = sym (claims.hops (hop (after calls_e3) 0) 0 2 2);
      e8 = claims.examples _ (tail (tail (tail (tail (tail (tail (tail (tail (head refl)))))))));
    }
