-- `fresh` leaves the state in which the fresh network stands. Assumes nothing.
use Prim.Native.Nat.{ℕ, zero, suc, ◌*◌, ◌≤◌, ◌<◌}
use native.Mathlib.Omega.{arith}
use mathlib.Core.Path.{◌≡◌, refl, sym, subst}
use mathlib.Core.Bool.{Bool, true, false, cond, ◌&&◌}
use mathlib.Core.List.{[]}
use lib.ListN.{length, replicate, length-replicate}
use Rattle.distances.specs.View.{NONE}
use Rattle.distances.specs.Call.{graph_passes, costs_pass}
use Rattle.distances.proofs.Booleans.{true-both}
use Rattle.distances.proofs.Ranges.{true-all_below}
use borrow.Author.Tests.{le-leb}
use Rattle.agreement.specs.Record.{fresh_record}
use Rattle.agreement.specs.Call.{ViewData, fresh_outcome, lent_offer, lent_end_in_range, says}
use Rattle.protocol.specs.Net.{fresh}
use Rattle.bench.specs.State.{State, state, network, part, messages_from}
use Rattle.bench.specs.Ranges.{graph_in_range, costs_in_range, limits_long}
use Rattle.bench.specs.Private.Views.{lent_view}
use Rattle.bench.specs.Outcomes.{plan_ready, blank, Outcome, outcome, fresh_of}
use Rattle.bench.specs.Private.Changes.{LimitTables, limit_tables, started_ends}
use Rattle.bench.proofs.Represents.{Represents}
use Rattle.bench.proofs.TieFresh.{FreshLimits, fresh-told, fresh-limits, fresh-stands}
use Rattle.bench.proofs.TieRanges.{LastingOf, graph-kept, costs-kept}
use Rattle.bench.proofs.Beside.{Agrees, agrees-messages, represents-agrees, Beside, beside-by, stood}
use Rattle.bench.proofs.BesideCalls.{BothParts, both-same, both-twice, kept_either}
use Rattle.bench.proofs.RunSteps.{standing-kept}
use Rattle.bench.proofs.StandingLaws.{part_same}

started-kept : (v : ViewData) (x : LimitTables) (k : ℕ) → k ≤ 2 * v.links → (let z : LimitTables = started_ends v k x in BothParts v.links v.bridges x.sent x.held z.sent z.held)
unfolding started_ends fresh_outcome
started-kept v x zero h = both-same v.links v.bridges x.sent x.held
started-kept v x (suc k) h =
    let z : LimitTables = started_ends v k x in
    let now = kept_either {A = ℕ} v.links v.bridges k (lent_offer v k) (λ d. NONE) 0 17 fresh_record fresh_record z.sent z.held (lent_end_in_range v z.sent z.held k) h in
    both-twice v.links v.bridges _ _ _ _ _ _ (started-kept v x k (omega arith)) now

module _ (s : State) where
  -- the limits that it leaves
  abbrev limits_of : LimitTables
  limits_of = started_ends (lent_view s.bench s.costs 0) (2 * s.bench.links) (limit_tables s.sent s.held)

  -- the state that it leaves, and the blank one
  abbrev pub fresh_state : State
  fresh_state = state (blank s.bench) s.costs limits_of.sent limits_of.held s.messages

  abbrev blank_state : State
  blank_state = state (blank s.bench) s.costs s.sent s.held s.messages

  fresh-beside : Beside blank_state fresh_state
  fresh-beside =
      let k = started-kept (lent_view s.bench s.costs 0) (limit_tables s.sent s.held) (2 * s.bench.links) (omega arith) in
      beside-by blank_state 0 (part_same _ 0 _) (part_same _ 0 _) (part_same _ fresh_record _) (part_same _ false _) k.0 k.1 (part_same _ 0 _)

  module _ (ok : plan_ready s ≡ true) where
    -- whatever messages are lent, none is in flight
    fresh-agrees : Agrees (fresh (network s).plan) (network fresh_state)
    unfolding fresh messages_from
    fresh-agrees =
        let facts = fresh-told s.bench s.costs s.sent s.held ok in
        agrees-messages _ _
        (represents-agrees _ _
        (fresh-stands s.bench s.costs limits_of.sent limits_of.held (replicate 320 0) facts.lasting
        (fresh-limits s.bench s.costs s.sent s.held facts) (rw length-replicate (omega arith)))) [] [] refl

    pub fresh-left : outcome (says tt) fresh_state ≡ fresh_of s
    unfolding fresh_of
    fresh-left = rw (ok, sym (stood blank_state fresh_state (fresh (network s).plan) fresh-beside fresh-agrees))

    -- with room for the messages it is in range, and the fresh network stands in it
    pub fresh-represents : 320 ≤ length s.messages → Represents fresh_state (fresh (network s).plan)
    fresh-represents room =
        let facts = fresh-told s.bench s.costs s.sent s.held ok in
        fresh-stands s.bench s.costs limits_of.sent limits_of.held s.messages facts.lasting
        (fresh-limits s.bench s.costs s.sent s.held facts) room

-- what an accepted one leaves
pub record Opened (s : State) (o : Outcome (Unit {0})) : Type 0 where
  pub reply : o.reply ≡ says tt
  pub bench : o.state.bench ≡ blank s.bench
  pub costs : o.state.costs ≡ s.costs
  pub messages : o.state.messages ≡ s.messages
  pub limits : FreshLimits s.bench s.costs o.state.sent o.state.held

pub fresh-opens : (s : State) → LastingOf s.bench s.costs → 1024 ≤ length s.sent → 1024 ≤ length s.held → Opened s (fresh_of s)
unfolding limits_long
fresh-opens s lasting sent_long held_long =
    let ok : plan_ready s ≡ true =
    true-both (graph-kept s.bench s.costs lasting)
    (true-both (costs-kept s.bench s.costs lasting) (true-both (le-leb _ _ sent_long) (le-leb _ _ held_long))) in
    subst (Opened s) (fresh-left s ok)
    (record {
      reply = refl;
      bench = refl;
      costs = refl;
      messages = refl;
      limits = fresh-limits s.bench s.costs s.sent s.held (record { lasting = lasting; sent_long = sent_long; held_long = held_long });
    })

-- where all but the graph is known to be in range, the graph alone decides
pub fresh-reply :
    (s : State) →
    1 ≤ s.bench.views →
    s.bench.views ≤ 32 →
    1024 ≤ length s.costs →
    ((t : ℕ) → t < s.bench.views → costs_pass s.bench.links (part 32 t s.costs) ≡ true) →
    1024 ≤ length s.sent →
    1024 ≤ length s.held →
    (fresh_of s).reply.number ≡ cond (graph_passes s.bench.bridges s.bench.links s.bench.ends) 0 17
unfolding fresh_of graph_in_range costs_in_range limits_long
fresh-reply s least most costs_long each_view sent_long held_long =
    rw (le-leb _ _ least, le-leb _ _ most, le-leb _ _ costs_long, true-all_below s.bench.views _ each_view, le-leb _ _ sent_long, le-leb _ _ held_long)
    (go (graph_passes s.bench.bridges s.bench.links s.bench.ends) _ _ refl refl)
  where
    go : (b : Bool) (x y : Outcome (Unit {0})) → x.reply.number ≡ 0 → y.reply.number ≡ 17 → (cond (b && true) x y).reply.number ≡ cond b 0 17
    go true x y first second = first
    go false x y first second = second

-- it leaves as many numbers of the messages as were lent
pub fresh-messages : (s : State) → length (fresh_of s).state.messages ≡ length s.messages
unfolding fresh_of
fresh-messages s = go (plan_ready s) _ _ (standing-kept (fresh (network s).plan) (blank_state s)).messages refl
  where
    go : (b : Bool) (x y : Outcome (Unit {0})) → length x.state.messages ≡ length s.messages → length y.state.messages ≡ length s.messages →
        length (cond b x y).state.messages ≡ length s.messages
    go true x y same other = same
    go false x y same other = other
