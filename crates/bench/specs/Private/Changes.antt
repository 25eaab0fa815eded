-- What update, cut, restore and fresh make of a bench and of the lent tables, number by number. Assumes nothing.
use Rattle.std.specs.Prelude.{ℕ, zero, suc, ◌+◌, ◌*◌, ◌<◌, ◌≡◌, Bool, true, false, cond, List, [], get_or, set, eqb}
use Rattle.distances.specs.View.{graph_of}
use Rattle.agreement.specs.Record.{fresh_record}
use Rattle.agreement.specs.Call.{ViewData, update_outcome, fresh_outcome}
use Rattle.agreement.specs.declared.EndRecord.{EndRecord}
use Rattle.protocol.specs.Calls.{Change, change, update, cut, restore, end_of}
use Rattle.bench.specs.State.{State, state, network}
use Rattle.bench.specs.Private.Views.{network_of, lent_view}
use Rattle.bench.specs.Ranges.{bench_in_range, network_in_range}
use Rattle.bench.specs.Outcomes.{refusal_of, or_refused}
use Rattle.bench.specs.declared.Bench.{Bench}

-- a bench after a call that is lent nothing it may write
pub record BenchOutcome : Type 0 where
  pub reply : ℕ
  pub bench : Bench

abbrev pub bench_outcome : ℕ → Bench → BenchOutcome
bench_outcome reply bench = record { reply = reply; bench = bench }

-- end e goes down, or up
abbrev pub bench_with_end : Bench → ℕ → Bool → Bench
bench_with_end b e down =
    record {
      bridges = b.bridges;
      links = b.links;
      views = b.views;
      messages = b.messages;
      ends = b.ends;
      view = b.view;
      number = b.number;
      records = b.records;
      down = set b.down e down;
    }

-- the bench with other records
abbrev pub bench_with_records : Bench → List EndRecord → Bench
bench_with_records b records =
    record {
      bridges = b.bridges;
      links = b.links;
      views = b.views;
      messages = b.messages;
      ends = b.ends;
      view = b.view;
      number = b.number;
      records = records;
      down = b.down;
    }

-- bridge y's end of link l
abbrev pub own_end : Bench → ℕ → ℕ → ℕ
own_end b y l = end_of (graph_of b.bridges b.links b.ends) y l

-- e is that end, and all three are within the code's arrays
pub record IsOwnEnd (b : Bench) (y l e : ℕ) : Type 0 where
  pub is : e ≡ own_end b y l
  pub end : e < 64
  pub bridge : y < 16
  pub link : l < 32

-- Cut, by which it goes down, and restore, by which it goes up
abbrev pub switch : Bool → ℕ → ℕ → Change
switch true y l = cut y l
switch false y l = restore y l

unfoldable pub switch_of : Bench → ℕ → ℕ → Bool → BenchOutcome
switch_of b y l down =
    or_refused (refusal_of (bench_in_range b) (network_of b []) (change (switch down y l))) (λ k. bench_outcome k b)
    (bench_outcome 0 (bench_with_end b (own_end b y l) down))

-- one end's record, and the limit tables
pub record Ended : Type 0 where
  pub end : EndRecord
  pub sent : List ℕ
  pub held : List ℕ

abbrev pub ended : EndRecord → List ℕ → List ℕ → Ended
ended end sent held = record { end = end; sent = sent; held = held }

-- the records and the limit tables, as a call rewrites them end by end
pub record Ends : Type 0 where
  pub records : List EndRecord
  pub sent : List ℕ
  pub held : List ℕ

abbrev pub ends : List EndRecord → List ℕ → List ℕ → Ends
ends records sent held = record { records = records; sent = sent; held = held }

-- Update of bridge y to view t: an end of y as layer 2 updates it, any other as it is
unfoldable pub moved_end : ViewData → ℕ → ℕ → ℕ → ℕ → EndRecord → List ℕ → List ℕ → Ended
moved_end v views t y e old sent held =
    let o = update_outcome v views t e old sent held in
    cond (eqb (get_or v.ends e 0) y) (ended o.end o.sent o.held) (ended old sent held)

abbrev pub end_into : Ends → ℕ → Ended → Ends
end_into x e o = ends (set x.records e o.end) o.sent o.held

-- each end below k, one after the other
unfoldable pub moved_ends : ViewData → ℕ → ℕ → ℕ → ℕ → Ends → Ends
moved_ends v views y t zero x = x
moved_ends v views y t (suc e) x =
    let before : Ends = moved_ends v views y t e x in
    end_into before e (moved_end v views t y e (get_or before.records e fresh_record) before.sent before.held)

-- a bench and the limit tables after a call
pub record ChangeOutcome : Type 0 where
  pub reply : ℕ
  pub bench : Bench
  pub sent : List ℕ
  pub held : List ℕ

abbrev pub change_outcome : ℕ → Bench → List ℕ → List ℕ → ChangeOutcome
change_outcome reply bench sent held = record { reply = reply; bench = bench; sent = sent; held = held }

-- the bridge's view and number, and its ends
abbrev pub moved_bench : Bench → ℕ → ℕ → Ends → ChangeOutcome
moved_bench b y t x =
    change_outcome 0
    (record {
      bridges = b.bridges;
      links = b.links;
      views = b.views;
      messages = b.messages;
      ends = b.ends;
      view = set b.view y t;
      number = set b.number y (get_or b.number y 0 + 1);
      records = x.records;
      down = b.down;
    })
    x.sent
    x.held

-- bridge y on view t, and its ends
abbrev pub moved_to : State → ℕ → ℕ → ChangeOutcome
moved_to s y t =
    moved_bench s.bench y t
    (moved_ends (lent_view s.bench s.costs t) s.bench.views y t (2 * s.bench.links) (ends s.bench.records s.sent s.held))

-- the state with what an update has made of it
abbrev pub with_rewritten : State → ChangeOutcome → State
with_rewritten s o = state o.bench s.costs o.sent o.held s.messages

-- the records and the limit tables of a state, and the state with others
abbrev pub ends_in : State → Ends
ends_in s = ends s.bench.records s.sent s.held

abbrev pub with_ends : State → Ends → State
with_ends s x = state (bench_with_records s.bench x.records) s.costs x.sent x.held s.messages

unfoldable pub update_of : State → ℕ → ℕ → ChangeOutcome
update_of s y t =
    let b : Bench = s.bench in
    or_refused (refusal_of (network_in_range s) (network s) (change (update y t))) (λ k. change_outcome k b s.sent s.held)
    (cond (eqb (get_or b.view y 0) t) (change_outcome 0 b s.sent s.held) (moved_to s y t))

-- the two limit tables
pub record LimitTables : Type 0 where
  pub sent : List ℕ
  pub held : List ℕ

abbrev pub limit_tables : List ℕ → List ℕ → LimitTables
limit_tables sent held = record { sent = sent; held = held }

-- the limits of each end below k, as layer 2 starts them
unfoldable pub started_ends : ViewData → ℕ → LimitTables → LimitTables
started_ends v zero x = x
started_ends v (suc e) x =
    let before : LimitTables = started_ends v e x in
    let o = fresh_outcome v e before.sent before.held in
    limit_tables o.sent o.held
