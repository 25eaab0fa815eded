-- A list of events, from one to the next: how far it has come, and where it ends. Assumes nothing.
use Prim.Native.Nat.{ℕ, suc, ◌+◌, ◌-◌, ◌≤◌, ◌<◌}
use native.Mathlib.Omega.{arith}
use mathlib.Core.Path.{◌≡◌, refl, sym, ap, ◌∙◌}
use mathlib.Core.Logic.{◌⊎◌, inl, inr}
use mathlib.Core.Bool.{Bool, true, false, cond}
use mathlib.Core.List.{List, [], ◌∷◌, ◌++◌, append_assoc, append-nil}
use lib.ListN.{length, get_or, take, drop, length-append, length-drop, take-append-drop, drop_of_length-le}
use lib.Seq.{take_at, drop_at, drop-drop, drop-cons, length-take-le, take_all, take-append-add}
use lib.Dec.{eqb, ltb}
use Rattle.bench.specs.declared.Event.{Event}
use Rattle.bench.specs.State.{State, network}
use Rattle.bench.specs.Batches.{call_of}
use Rattle.bench.specs.Batches.{Ending, complete, refused_with, out_of_room, reply_of, answers_of, answer_size, Batch, batch, event_batch, event_batch_in, batch_from, batch_outcome, batch_outcome_of}
use Rattle.bench.specs.Standing.{step_in}
use Rattle.bench.specs.Private.Steps.{BatchLeft}

-- ---- one event is made, or nothing is changed

pub record EventMade (b : Batch) : Type 0 where
  pub one : b.made ≡ 1
  pub complete : b.ending ≡ complete

pub record EventUnmade (s : State) (b : Batch) : Type 0 where
  pub none : b.made ≡ 0
  pub same : b ≡ batch 0 b.ending s []

pub made-or-not : (room : ℕ) (s : State) (e : Event) → EventMade (event_batch_in room s e) ⊎ EventUnmade s (event_batch_in room s e)
unfolding event_batch_in event_batch
made-or-not room s e = go (ltb room (answer_size s.bench.bridges e)) (eqb (reply_of s e) 0)
  where
    go :
        (full accepted : Bool) →
        let done : Batch = cond accepted (batch 1 complete (step_in s (call_of e)) (answers_of (network s) e)) (batch 0 (refused_with (reply_of s e)) s []) in
        let b : Batch = cond full (batch 0 out_of_room s []) done in
        EventMade b ⊎ EventUnmade s b
    go true accepted = inr (record { none = refl; same = refl })
    go false true = inl (record { one = refl; complete = refl })
    go false false = inr (record { none = refl; same = refl })

-- ---- so far

-- what is made after so many
abbrev pub onto : ℕ → List ℕ → Batch → Batch
onto made answers b = batch (made + b.made) b.ending b.state (answers ++ b.answers)

-- so many events are made, and the others are ahead
pub record Underway (all : Batch) (events : List Event) (first : List ℕ) (s : State) (made answered : ℕ) (answers : List ℕ) : Type 0 where
  pub same : all ≡ onto made (take answered answers) (batch_from (length first - answered) s (drop made events))
  pub behind : drop answered answers ≡ drop answered first
  pub long : length answers ≡ length first
  pub within : answered ≤ length first

pub begins : (events : List Event) (s : State) (answers : List ℕ) → Underway (batch_from (length answers) s events) events answers s 0 0 answers
begins events s answers =
    let whole : length answers - 0 ≡ length answers = omega arith in
    let zero : (b : Batch) → 0 + b.made ≡ b.made = λ b. omega arith in
    record {
      same = rw (whole, zero (batch_from (length answers) s events));
      behind = refl;
      long = refl;
      within = omega arith;
    }

joins : {c d : ℕ} {h g : Ending} {x y : State} {l k : List ℕ} → c ≡ d → h ≡ g → x ≡ y → l ≡ k → batch c h x l ≡ batch d g y k
joins counts how state answers = rw (counts, how, state, answers)

-- the list ends with so many made
settled :
    (all : Batch) (first : List ℕ) (how : Ending) (s : State) (made answered : ℕ) (answers : List ℕ) →
    all ≡ batch made how s (take answered answers) →
    drop answered answers ≡ drop answered first →
    length answers ≡ length first →
    answered ≤ length first →
    batch_outcome made answered how s answers ≡ batch_outcome_of all first
settled all first how s made answered answers is behind long within =
    let counted : length (take answered answers) ≡ answered = length-take-le answered answers (omega (arith, within, long)) in
    let whole : answers ≡ take answered answers ++ drop answered first = sym (take-append-drop answered answers) ∙ ap (λ (l : List ℕ). take answered answers ++ l) behind in
    rw (is, counted) (ap (batch_outcome made answered how s) whole)

-- ---- one event more

module _
    (all : Batch)
    (events : List Event)
    (first : List ℕ)
    (s : State)
    (made answered : ℕ)
    (answers : List ℕ)
    (old : Underway all events first s made answered answers)
    (none e : Event)
    (is : e ≡ get_or events made none)
    (more : made < length events)
    (lent after : List ℕ)
    (part : lent ≡ drop answered answers)
    (kept : length after ≡ length lent)
    {m n : ℕ}
    {by : Ending}
    {next : State}
    (done : BatchLeft (event_batch_in (length lent) s e) lent m by next n after) where
  abbrev b : Batch
  b = event_batch_in (length lent) s e

  abbrev pre : List ℕ
  pre = take answered answers

  pre-long : length pre ≡ answered
  pre-long = length-take-le answered answers (omega (arith, old.within, old.long))

  lent-long : length lent ≡ length first - answered
  lent-long = ap (λ (l : List ℕ). length l) part ∙ length-drop answered answers ∙ rw old.long

  after-long : length (pre ++ after) ≡ length first
  after-long = length-append pre after ∙ omega (arith, pre-long, kept, lent-long, old.within)

  fits : answered + n ≤ length first
  fits =
      omega (
        arith,
        done.counted,
        ap (λ (l : List ℕ). length l) done.rest,
        length-append b.answers (drop n lent),
        length-drop n lent,
        kept,
        lent-long,
        old.within,
      )

  -- the answers so far
  head : take (answered + n) (pre ++ after) ≡ pre ++ b.answers
  head =
      let sum : answered + n ≡ length pre + n = omega (arith, pre-long) in
      rw sum (take-append-add pre after n ∙ ap (λ (l : List ℕ). pre ++ take n l) done.rest ∙ ap (λ (l : List ℕ). pre ++ l) (take_at b.answers _ n (sym done.counted)))

  -- and what is behind them
  tail : drop (answered + n) (pre ++ after) ≡ drop (answered + n) first
  tail =
      sym (drop-drop n answered (pre ++ after))
      ∙ ap (drop n) (drop_at pre after answered pre-long)
      ∙ ap (drop n) done.rest
      ∙ drop_at b.answers (drop n lent) n (sym done.counted)
      ∙ ap (drop n) (part ∙ old.behind)
      ∙ drop-drop n answered first

  events-on : drop made events ≡ e ∷ drop (suc made) events
  events-on = drop-cons events made none more ∙ rw is

  so_far : all ≡ onto made pre (batch_from (length lent) s (e ∷ drop (suc made) events))
  so_far = old.same ∙ rw (events-on, lent-long)

  pub goes_on : m ≡ 1 → Underway all events first next (made + 1) (answered + n) (pre ++ after)
  unfolding batch_from
  goes_on one =
      let one_made : b.made ≡ 1 = sym done.made ∙ one in
      let room : length lent - length b.answers ≡ length first - (answered + n) = omega (arith, done.counted, lent-long, fits) in
      let sum : made + 1 ≡ suc made = omega arith in
      let then : Batch = batch_from (length first - (answered + n)) next (drop (suc made) events) in
      let count : made + suc then.made ≡ suc made + then.made = omega arith in
      record {
        same = so_far ∙ rw (one_made, room, sym done.state, sum, head, count, append_assoc pre b.answers then.answers);
        behind = tail;
        long = after-long;
        within = fits;
      }

  runs-stop : EventUnmade s b → batch_from (length lent) s (e ∷ drop (suc made) events) ≡ b
  unfolding batch_from
  runs-stop unmade =
      let later : Batch = batch_from (length lent - length b.answers) b.state (drop (suc made) events) in
      ap (λ (k : ℕ). cond (eqb k 0) b (batch (suc later.made) later.ending later.state (b.answers ++ later.answers))) unmade.none

  pub stops : m ≡ 0 → batch_outcome made answered by next (pre ++ after) ≡ batch_outcome_of all first
  stops zero = go (made-or-not (length lent) s e)
    where
      go : EventMade b ⊎ EventUnmade s b → batch_outcome made answered by next (pre ++ after) ≡ batch_outcome_of all first
      go (inl made_one) = absurd (omega (arith, zero, done.made, made_one.one))
      go (inr unmade) =
          let silent : b.answers ≡ [] = ap (λ (x : Batch). x.answers) unmade.same in
          let nothing : n ≡ 0 = omega (arith, done.counted, ap (λ (l : List ℕ). length l) silent) in
          let same : answered + n ≡ answered = omega (arith, nothing) in
          let sum : made + 0 ≡ made = omega arith in
          let heads : take answered (pre ++ after) ≡ pre = rw same at head ∙ rw silent (append-nil pre) in
          settled all first by next made answered (pre ++ after)
          (so_far
          ∙ ap (onto made pre) (runs-stop unmade ∙ unmade.same)
          ∙ joins sum (sym done.ending) (sym (done.state ∙ ap (λ (x : Batch). x.state) unmade.same)) (append-nil pre ∙ sym heads))
          (rw same at tail)
          after-long
          old.within

-- ---- the end

pub ended :
    (all : Batch) (events : List Event) (first : List ℕ) (s : State) (answered : ℕ) (answers : List ℕ) →
    Underway all events first s (length events) answered answers →
    batch_outcome (length events) answered complete s answers ≡ batch_outcome_of all first
unfolding batch_from
ended all events first s answered answers w =
    let none : drop (length events) events ≡ [] = drop_of_length-le events (omega arith) in
    let sum : length events + 0 ≡ length events = omega arith in
    settled all first complete s (length events) answered answers (w.same ∙ rw (none, sum, append-nil (take answered answers))) w.behind w.long w.within

-- ---- for the loop

-- the part of the lent numbers behind an answer, and the numbers with another part there
pub behind-all : (answers : List ℕ) (answered : ℕ) → take (length answers - answered) (drop answered answers) ≡ drop answered answers
behind-all answers answered =
    let few : length (drop answered answers) ≤ length answers - answered = omega (arith, length-drop answered answers) in
    take_all (length answers - answered) (drop answered answers) few

pub none-behind : (answers after : List ℕ) (answered : ℕ) → after ++ drop (length answers - answered) (drop answered answers) ≡ after
none-behind answers after answered =
    let few : length (drop answered answers) ≤ length answers - answered = omega (arith, length-drop answered answers) in
    ap (λ (l : List ℕ). after ++ l) (drop_of_length-le (drop answered answers) few) ∙ append-nil after
