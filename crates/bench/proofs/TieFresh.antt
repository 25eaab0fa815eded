-- What an accepted `fresh` leaves: the fresh network stands in it. Assumes nothing.
use Prim.Native.Nat.{ℕ, ◌*◌, ◌≤◌, ◌<◌}
use native.Mathlib.Omega.{arith}
use mathlib.Core.Path.{◌≡◌, refl, sym, ◌∙◌, ap}
use mathlib.Core.Bool.{Bool, true, false, ◌&&◌}
use mathlib.Core.List.{List}
use borrow.Author.Tests.{leb-true}
use lib.ListN.{length, get_or, replicate, get_or-replicate}
use lib.Dec.{leb}
use Rattle.distances.specs.Call.{distances_of}
use Rattle.distances.specs.Table.{cell}
use Rattle.distances.specs.View.{NONE}
use Rattle.distances.proofs.Booleans.{both_true}
use Rattle.agreement.specs.Record.{fresh_record}
use Rattle.agreement.specs.Ranges.{record_in_range}
use Rattle.agreement.specs.declared.EndRecord.{EndRecord}
use Rattle.agreement.specs.Call.{ViewData, view_data, lent_offer}
use Rattle.agreement.proofs.InRange.{fresh-record-passes}
use Rattle.protocol.specs.Net.{fresh}
use Rattle.bench.specs.State.{State, state, part, messages_from}
use Rattle.bench.specs.Private.Views.{lent_view, distance_table}
use Rattle.bench.specs.Ranges.{graph_in_range, costs_in_range, limits_long}
use Rattle.bench.specs.Private.Changes.{LimitTables, limit_tables, started_ends}
use Rattle.bench.specs.Outcomes.{blank}
use Rattle.bench.proofs.Represents.{Represents, Typed}
use Rattle.bench.specs.Private.Views.{plan_in}
use Rattle.bench.specs.declared.Bench.{Bench}
use Rattle.bench.proofs.TieRanges.{LastingOf, StateReady, lasting-told, few, lent-in-range, lent-offer-in, ready}
use Rattle.bench.proofs.TieStarted.{Begun, begun_all}

-- the limits of a fresh network stand in the two tables
pub record FreshLimits (b : Bench) (costs sents helds : List ℕ) : Type 0 where
  pub sent_long : 1024 ≤ length sents
  pub held_long : 1024 ≤ length helds
  pub sent : (e d : ℕ) → e < 2 * b.links → d < b.bridges → cell sents e d ≡ lent_offer (lent_view b costs 0) e d
  pub held : (e d : ℕ) → e < 2 * b.links → d < b.bridges → cell helds e d ≡ NONE

-- so does the fresh network, beside a fresh bench
module _
    (b : Bench)
    (costs sent held messages : List ℕ)
    (lasting : LastingOf b costs)
    (limit_tables : FreshLimits b costs sent held)
    (room : 320 ≤ length messages) where
  small : (b.bridges ≤ 16) × (b.links ≤ 32) × (2 * b.links ≤ length b.ends)
  small = few b costs lasting

  abbrev fresh_state : State
  fresh_state = state (blank b) costs sent held messages

  bridge-fresh : (x y : ℕ) → y < b.bridges → get_or (replicate 16 x) y 0 ≡ x
  bridge-fresh x y h = get_or-replicate 16 y x 0 (omega (arith, small.0))

  end_fresh : (P : EndRecord → Type 0) → P fresh_record → (e : ℕ) → e < 2 * b.links → P (get_or (replicate 64 fresh_record) e fresh_record)
  end_fresh P new e h = rw (get_or-replicate 64 e fresh_record fresh_record (omega (arith, small.1))) new

  ready-after : StateReady fresh_state
  ready-after =
      record {
        lasting = lasting;
        sent_long = limit_tables.sent_long;
        held_long = limit_tables.held_long;
        count = omega arith;
        view = λ y h. rw (bridge-fresh 0 y h) lasting.views_least;
        records = end_fresh (λ (x : EndRecord). record_in_range b.views x ≡ true) (fresh-record-passes b.views);
        messages_long = room;
        message = λ p h. absurd (omega arith);
      }

  typed-after : Typed (blank b)
  typed-after =
      record {
        views = refl;
        numbers = refl;
        records = refl;
        flags = refl;
        number = λ y h. rw (bridge-fresh 1 y h) (omega arith);
        received = end_fresh (λ (x : EndRecord). x.received < 65536) (omega arith);
        discarded = end_fresh (λ (x : EndRecord). x.discarded < 65536) (omega arith);
      }

  pub fresh-stands : Represents fresh_state (fresh (plan_in b costs))
  unfolding fresh messages_from
  fresh-stands =
      record {
        in_range = ready fresh_state ready-after;
        typed = typed-after;
        plan = refl;
        view = λ y h. sym (bridge-fresh 0 y h);
        number = λ y h. sym (bridge-fresh 1 y h);
        down = λ e h. sym (get_or-replicate 64 e false false (omega (arith, small.1)));
        ends = λ e h. sym (get_or-replicate 64 e fresh_record fresh_record (omega (arith, small.1)));
        sent = λ e d h k. sym (limit_tables.sent e d h k ∙ lent-offer-in b costs lasting 0 lasting.views_least e d h k);
        held = λ e d h k. sym (limit_tables.held e d h k);
        messages = refl;
      }

module _ (b : Bench) (costs sent held : List ℕ) where
  abbrev fresh_ready : Bool
  fresh_ready = graph_in_range b && (costs_in_range b costs && limits_long (length sent) (length held))

  -- the limits that it leaves
  abbrev begun : LimitTables
  begun = started_ends (lent_view b costs 0) (2 * b.links) (limit_tables sent held)

  -- what the entry check tells
  pub record FreshFacts : Type 0 where
    pub lasting : LastingOf b costs
    pub sent_long : 1024 ≤ length sent
    pub held_long : 1024 ≤ length held

  pub fresh-told : fresh_ready ≡ true → FreshFacts
  unfolding limits_long
  fresh-told ok =
      let graph = both_true (graph_in_range b) _ ok in
      let rows = both_true (costs_in_range b costs) _ graph.1 in
      let limit = both_true (leb 1024 (length sent)) _ rows.1 in
      record {
        lasting = lasting-told b costs graph.0 rows.0;
        sent_long = leb-true _ _ limit.0;
        held_long = leb-true _ _ limit.1;
      }

  module _ (told : FreshFacts) where
    counts : (b.bridges ≤ 16) × (b.links ≤ 32) × (2 * b.links ≤ length b.ends)
    counts = few b costs told.lasting

    limits-after : Begun (lent_view b costs 0) (limit_tables sent held) (2 * b.links) begun
    limits-after =
        begun_all (lent_view b costs 0) (limit_tables sent held) counts.0 counts.1
        (lent-in-range b costs told.lasting 0 told.lasting.views_least)
        told.sent_long
        told.held_long
        (2 * b.links)
        (omega arith)

    pub fresh-limits : FreshLimits b costs begun.sent begun.held
    fresh-limits =
        record {
          sent_long = rw limits-after.sent_long told.sent_long;
          held_long = rw limits-after.held_long told.held_long;
          sent = limits-after.sent;
          held = limits-after.held;
        }

-- the view by the costs of its row
row_same :
    (bridges links : ℕ) (ends costs more : List ℕ) →
    part 32 0 costs ≡ part 32 0 more →
    view_data bridges links ends (part 32 0 costs) (distance_table bridges links ends costs 0)
    ≡ view_data bridges links ends (part 32 0 more) (distance_table bridges links ends more 0)
unfolding distance_table
row_same bridges links ends costs more = ap (λ (x : List ℕ). view_data bridges links ends x (distances_of bridges links ends x (replicate 256 0)).table)

-- another bench over the same graph, and other costs with the same first row
module _
    (b c : Bench)
    (costs more : List ℕ)
    (bridges : b.bridges ≡ c.bridges)
    (links : b.links ≡ c.links)
    (ends : b.ends ≡ c.ends)
    (row : part 32 0 costs ≡ part 32 0 more) where
  lent_same : lent_view b costs 0 ≡ lent_view c more 0
  lent_same = rw (bridges, links, ends) (row_same c.bridges c.links c.ends costs more row)

  pub limits-same : (sent held : List ℕ) → FreshLimits b costs sent held → FreshLimits c more sent held
  limits-same sent held l =
      record {
        sent_long = l.sent_long;
        held_long = l.held_long;
        sent = λ e d he hd. l.sent e d (rw links he) (rw bridges hd) ∙ ap (λ (v : ViewData). lent_offer v e d) lent_same;
        held = λ e d he hd. l.held e d (rw links he) (rw bridges hd);
      }
