-- A state that is another but for what there is; a network stands in one way in it. Assumes nothing.
use Prim.Native.Nat.{ℕ, ◌*◌, ◌<◌}
use mathlib.Core.Path.{◌≡◌, refl, sym, ◌∙◌, ap}
use mathlib.Core.Bool.{Bool, true, false, cond}
use mathlib.Core.List.{List}
use lib.ListN.{length}
use lib.Dec.{eqb}
use borrow.Author.Tests.{eqb-true}
use Rattle.agreement.specs.Record.{fresh_record}
use Rattle.agreement.specs.declared.EndRecord.{EndRecord}
use Rattle.protocol.specs.Net.{Network, Message}
use Rattle.protocol.specs.Calls.{Call, step, with_messages}
use Rattle.bench.specs.State.{State, state, network}
use Rattle.bench.specs.Outcomes.{or_refused}
use Rattle.bench.specs.Standing.{standing_bench, standing, step_in}
use Rattle.bench.proofs.Represents.{Represents}
use Rattle.bench.proofs.TieQueue.{messages-length}
use Rattle.bench.proofs.StandingLaws.{Part, below, in_rows, part_same, first-is, rows_is, messages-standing}

-- two networks that are the same at the bridges, links, ends and destinations that there are
pub record Agrees (n m : Network) : Type 0 where
  pub plan : n.plan ≡ m.plan
  pub view : (y : ℕ) → y < m.plan.graph.bridges → n.view y ≡ m.view y
  pub number : (y : ℕ) → y < m.plan.graph.bridges → n.number y ≡ m.number y
  pub down : (e : ℕ) → e < 2 * m.plan.graph.links → n.records.down e ≡ m.records.down e
  pub ends : (e : ℕ) → e < 2 * m.plan.graph.links → n.records.ends e ≡ m.records.ends e
  pub sent : (e d : ℕ) → e < 2 * m.plan.graph.links → d < m.plan.graph.bridges → n.records.sent e d ≡ m.records.sent e d
  pub held : (e d : ℕ) → e < 2 * m.plan.graph.links → d < m.plan.graph.bridges → n.records.held e d ≡ m.records.held e d
  pub messages : n.messages ≡ m.messages

pub agrees-same : (n : Network) → Agrees n n
agrees-same n =
    record {
      plan = refl;
      view = λ y h. refl;
      number = λ y h. refl;
      down = λ e h. refl;
      ends = λ e h. refl;
      sent = λ e d h k. refl;
      held = λ e d h k. refl;
      messages = refl;
    }

pub represents-agrees : (s : State) (n : Network) → Represents s n → Agrees n (network s)
represents-agrees s n r =
    record { plan = r.plan; view = r.view; number = r.number; down = r.down; ends = r.ends; sent = r.sent; held = r.held; messages = r.messages }

-- two networks that agree, with the same messages in place of theirs
pub agrees-messages : (n m : Network) → Agrees n m → (ms : List Message) (own : List Message) → ms ≡ own → Agrees (with_messages n ms) (with_messages m own)
agrees-messages n m g ms own same =
    record {
      plan = g.plan;
      view = g.view;
      number = g.number;
      down = g.down;
      ends = g.ends;
      sent = g.sent;
      held = g.held;
      messages = same;
    }

-- the state a is s but for what there is
pub record Beside (s a : State) : Type 0 where
  pub bridges : a.bench.bridges ≡ s.bench.bridges
  pub links : a.bench.links ≡ s.bench.links
  pub views : a.bench.views ≡ s.bench.views
  pub places : a.bench.ends ≡ s.bench.ends
  pub costs : a.costs ≡ s.costs
  pub view : Part (below s.bench.bridges) 0 s.bench.view a.bench.view
  pub number : Part (below s.bench.bridges) 0 s.bench.number a.bench.number
  pub records : Part (below (2 * s.bench.links)) fresh_record s.bench.records a.bench.records
  pub down : Part (below (2 * s.bench.links)) false s.bench.down a.bench.down
  pub sent : Part (in_rows (2 * s.bench.links) s.bench.bridges) 0 s.sent a.sent
  pub held : Part (in_rows (2 * s.bench.links) s.bench.bridges) 0 s.held a.held
  pub messages : Part (below (5 * a.bench.messages)) 0 s.messages a.messages

-- by its parts
pub beside-by :
    (s : State) {view number : List ℕ} {records : List EndRecord} {down : List Bool} {sent held messages : List ℕ} (count : ℕ) →
    Part (below s.bench.bridges) 0 s.bench.view view →
    Part (below s.bench.bridges) 0 s.bench.number number →
    Part (below (2 * s.bench.links)) fresh_record s.bench.records records →
    Part (below (2 * s.bench.links)) false s.bench.down down →
    Part (in_rows (2 * s.bench.links) s.bench.bridges) 0 s.sent sent →
    Part (in_rows (2 * s.bench.links) s.bench.bridges) 0 s.held held →
    Part (below (5 * count)) 0 s.messages messages →
    Beside s
    (state
    (record {
      bridges = s.bench.bridges;
      links = s.bench.links;
      views = s.bench.views;
      messages = count;
      ends = s.bench.ends;
      view = view;
      number = number;
      records = records;
      down = down;
    })
    s.costs sent held messages)
beside-by s count v n r c t h m =
    record { bridges = refl; links = refl; views = refl; places = refl; costs = refl; view = v; number = n; records = r; down = c; sent = t; held = h; messages = m }

pub beside_same : (s : State) → Beside s s
beside_same s =
    beside-by s s.bench.messages (part_same _ 0 _) (part_same _ 0 _) (part_same _ fresh_record _) (part_same _ false _) (part_same _ 0 _) (part_same _ 0 _)
    (part_same _ 0 _)

-- a state in which n stands, and which is s but for what there is
pub stood : (s a : State) (n : Network) → Beside s a → Agrees n (network a) → a ≡ standing n s
unfolding standing standing_bench
stood s a n b g = λ i.
    record {
      bench =
          record {
            bridges = b.bridges i;
            links = b.links i;
            views = b.views i;
            messages = sym count i;
            ends = b.places i;
            view = first-is 0 s.bench.bridges n.view s.bench.view a.bench.view b.view (λ p h. sym (g.view p (rw b.bridges h))) i;
            number = first-is 0 s.bench.bridges n.number s.bench.number a.bench.number b.number (λ p h. sym (g.number p (rw b.bridges h))) i;
            records = first-is fresh_record (2 * s.bench.links) n.records.ends s.bench.records a.bench.records b.records (λ p h. sym (g.ends p (rw b.links h))) i;
            down = first-is false (2 * s.bench.links) n.records.down s.bench.down a.bench.down b.down (λ p h. sym (g.down p (rw b.links h))) i;
          };
      costs = b.costs i;
      sent = rows_is (2 * s.bench.links) s.bench.bridges n.records.sent s.sent a.sent b.sent (λ e d h k. sym (g.sent e d (rw b.links h) (rw b.bridges k))) i;
      held = rows_is (2 * s.bench.links) s.bench.bridges n.records.held s.held a.held b.held (λ e d h k. sym (g.held e d (rw b.links h) (rw b.bridges k))) i;
      messages = messages-standing n.messages s.messages a.messages (rw count b.messages) (rw count (sym g.messages)) i;
    }
  where
    count : length n.messages ≡ a.bench.messages
    count = ap length g.messages ∙ messages-length 0 a.bench.messages a.messages

-- the network of a state stands in it
pub stands-itself : (s : State) → standing (network s) s ≡ s
stands-itself s = sym (stood s s (network s) (beside_same s) (agrees-same (network s)))

-- a call that leaves what the network that it makes stands in
pub stood-step : (s a : State) (c : Call) → Beside s a → Agrees (step (network s) c) (network a) → a ≡ step_in s c
unfolding step_in
stood-step s a c b g = stood s a (step (network s) c) b g

-- a call that is settled by the number k
pub settled-beside :
    {A : Type 0} (s : State) (after : A → State) (k : ℕ) (refused : ℕ → A) (done : A) →
    ((j : ℕ) → Beside s (after (refused j))) →
    (k ≡ 0 → Beside s (after done)) →
    Beside s (after (or_refused k refused done))
settled-beside s after k refused done old new = go (eqb k 0) refl
  where
    go : (b : Bool) → eqb k 0 ≡ b → Beside s (after (cond b done (refused k)))
    go true e = new (eqb-true k 0 e)
    go false e = old k
