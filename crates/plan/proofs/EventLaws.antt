-- What a list of events tells, for the layers above: each is read where the one before it ends, and what the parts of the reply are.
-- Assumes nothing.
use Prim.Native.Nat.{ℕ, zero, suc, ◌+◌, ◌-◌, ◌≤◌, ◌<◌}
use native.Mathlib.Omega.{arith}
use mathlib.Core.Path.{◌≡◌, refl, ap, ◌∙◌}
use Rattle.std.specs.Prelude.{Option, None, Some}
use mathlib.Core.Bool.{Bool, true, false, cond}
use mathlib.Core.List.{List, [], ◌∷◌, ◌++◌}
use borrow.Author.Tests.{ltb-false}
use lib.ListN.{length, get_or, take, drop, replicate, length-drop, get_or-append}
use lib.Seq.{take_at}
use lib.Dec.{ltb}
use Rattle.bench.specs.Batches.{answer_size, answer_sizes}
use Rattle.bench.specs.declared.Event.{Event}
use Rattle.plan.specs.Sizes.{most_events}
use Rattle.distances.specs.Refusal.{refusal, number}
use Rattle.distances.specs.declared.refusals.Refusal.{Refusal}
use Rattle.distances.specs.declared.refusals.Refusal.TheVariants.{CutShort}
use Rattle.plan.specs.Fields.{size, field_of}
use Rattle.plan.specs.Reading.{Read, header_checks, progress_in_range, read_reply}
use Rattle.plan.specs.Events.{Placed, placed, if_event, events_at, events_of, ends_of, listing, events_reply}
use Rattle.plan.specs.Steps.{next_of, next_event}
use Rattle.plan.specs.declared.Field.{Field}
use Rattle.plan.specs.declared.Progress.{Progress}
use Rattle.plan.specs.declared.events.Events.{Events}
use Rattle.plan.specs.declared.events.NextEvent.{NextEvent}
use Rattle.plan.proofs.Laws.{field-size, header-passed, field-is, event-read}

-- each refusal has a number
some-number : (r : Refusal) → number r ≡ 0 → ⊥
some-number CutShort e = omega arith
some-number _ e = omega arith

-- ---- the next event, or none

module _ (rest : List ℕ) (p : Progress) (room : ℕ) where
  -- none where no event is read
  no-event-read : ((e : Event) (k : ℕ) → read_reply rest p ≡ Read.Field (Field.Event e) k → ⊥) → next_event rest p room ≡ None
  unfolding next_of
  no-event-read other = go (read_reply rest p) refl
    where
      go : (r : Read) → read_reply rest p ≡ r → next_of r p.bridges room ≡ None
      go (Read.Field (Field.Event e) used) is = absurd (other e used is)
      go (Read.Field (Field.Bridges n) used) is = refl
      go (Read.Field (Field.Link x y) used) is = refl
      go (Read.Field Field.View used) is = refl
      go (Read.Stop number) is = refl

  -- a refusal of the header
  pub none-refused : (r : Refusal) → number r ≡ refusal (header_checks rest p) → next_event rest p room ≡ None
  none-refused r is = no-event-read (λ e k read. some-number r (is ∙ header-passed rest p read))

  -- a field of the setup
  pub none-other : ((e : Event) → field_of rest ≡ Field.Event e → ⊥) → next_event rest p room ≡ None
  none-other other = no-event-read (λ e k read. other e (field-is rest p read))

  -- an event
  pub next-event :
      {e : Event} → progress_in_range p ≡ true → refusal (header_checks rest p) ≡ 0 → field_of rest ≡ Field.Event e →
      next_event rest p room ≡ cond (ltb room (answer_size p.bridges e)) None (Some (record { event = e; used = size rest; size = answer_size p.bridges e }))
  unfolding next_of
  next-event inside passes event = rw (event-read rest p inside passes event)

module _ (p : Progress) (room : ℕ) (rest : List ℕ) where
  -- an event was read, and its answer has room
  pub record Goes (n : NextEvent) : Type 0 where
    pub read : read_reply rest p ≡ Read.Field (Field.Event n.event) n.used
    pub size : n.size ≡ answer_size p.bridges n.event
    pub fits : n.size ≤ room

  -- it, and those behind it
  abbrev pub then : ℕ → ℕ → NextEvent → List Placed
  then most at n = placed n.event (at + n.used) ∷ events_at most p (room - n.size) (at + n.used) (drop n.used rest)

  pub record GoesOn (most at : ℕ) (n : NextEvent) (xs : List Placed) : Type 0 where
    pub goes : Goes n
    pub list : xs ≡ then most at n

  abbrev pub NextOr : ℕ → ℕ → Option NextEvent → List Placed → Type 0
  NextOr most at (Some n) xs = GoesOn most at n xs
  NextOr most at None xs = xs ≡ []

  pub next-or-none : (most at : ℕ) → NextOr most at (next_event rest p room) (events_at (suc most) p room at rest)
  unfolding events_at if_event next_of
  next-or-none most at = go (read_reply rest p) refl
    where
      listed : Event → ℕ → List Placed
      listed e used =
          cond (ltb room (answer_size p.bridges e)) []
          (placed e (at + used) ∷ events_at most p (room - answer_size p.bridges e) (at + used) (drop used rest))

      fit :
          (e : Event) (used : ℕ) → read_reply rest p ≡ Read.Field (Field.Event e) used →
          (b : Bool) → ltb room (answer_size p.bridges e) ≡ b →
          let one : NextEvent = record { event = e; used = used; size = answer_size p.bridges e } in
          NextOr most at (cond b None (Some one)) (cond b [] (then most at one))
      fit e used is true q = refl
      fit e used is false q = record { goes = record { read = is; size = refl; fits = ltb-false _ _ q }; list = refl }

      go : (r : Read) → read_reply rest p ≡ r → NextOr most at (next_of r p.bridges room) (if_event r listed)
      go (Read.Field (Field.Event e) used) is = fit e used is _ refl
      go (Read.Field (Field.Bridges n) used) is = refl
      go (Read.Field (Field.Link x y) used) is = refl
      go (Read.Field Field.View used) is = refl
      go (Read.Stop number) is = refl

-- with a progress out of range each read is refused, so there is none
pub none-out-of-range : (most : ℕ) (p : Progress) (room at : ℕ) (rest : List ℕ) → progress_in_range p ≡ false → events_at most p room at rest ≡ []
unfolding events_at if_event read_reply
none-out-of-range zero p room at rest out = refl
none-out-of-range (suc most) p room at rest out = rw out

-- ---- each event is read where the one before it ends

pub record ReadThen (p : Progress) (rest : List ℕ) (at : ℕ) (x : Placed) (Then : ℕ → Type 0) : Type 0 where
  pub used : ℕ
  pub read : read_reply rest p ≡ Read.Field (Field.Event x.event) used
  pub past : x.past ≡ at + used
  pub then : Then used

abbrev pub ReadAs : Progress → List ℕ → ℕ → List Placed → Type 0
ReadAs p rest at [] = Unit {0}
ReadAs p rest at (x ∷ xs) = ReadThen p rest at x (λ used. ReadAs p (drop used rest) x.past xs)

pub reads_as : (most : ℕ) (p : Progress) (room at : ℕ) (rest : List ℕ) → ReadAs p rest at (events_at most p room at rest)
unfolding events_at
reads_as zero p room at rest = tt
reads_as (suc most) p room at rest =
    go (next_event rest p room) (next-or-none p room rest most at) (λ n. reads_as most p (room - n.size) (at + n.used) (drop n.used rest))
  where
    go :
        (o : Option NextEvent) → NextOr p room rest most at o (events_at (suc most) p room at rest) →
        ((n : NextEvent) → ReadAs p (drop n.used rest) (at + n.used) (events_at most p (room - n.size) (at + n.used) (drop n.used rest))) →
        ReadAs p rest at (events_at (suc most) p room at rest)
    go (Some n) on behind = rw on.list (record { used = _; read = on.goes.read; past = refl; then = behind n })
    go None none behind = rw none tt

-- they answer with no more numbers than have room
pub sizes-fit : (most : ℕ) (p : Progress) (room at : ℕ) (rest : List ℕ) → answer_sizes p.bridges (events_of (events_at most p room at rest)) ≤ room
unfolding events_at events_of answer_sizes
sizes-fit zero p room at rest = omega arith
sizes-fit (suc most) p room at rest =
    go (next_event rest p room) (next-or-none p room rest most at) (λ n. sizes-fit most p (room - n.size) (at + n.used) (drop n.used rest))
  where
    go :
        (o : Option NextEvent) → NextOr p room rest most at o (events_at (suc most) p room at rest) →
        ((n : NextEvent) → answer_sizes p.bridges (events_of (events_at most p (room - n.size) (at + n.used) (drop n.used rest))) ≤ room - n.size) →
        answer_sizes p.bridges (events_of (events_at (suc most) p room at rest)) ≤ room
    go (Some n) on few = rw on.list (omega (arith, few n, on.goes.size, on.goes.fits))
    go None none few = rw none (omega arith)

-- no more than so many
pub events-few : (most : ℕ) (p : Progress) (room at : ℕ) (rest : List ℕ) → length (events_at most p room at rest) ≤ most
unfolding events_at
events-few zero p room at rest = omega arith
events-few (suc most) p room at rest =
    go (next_event rest p room) (next-or-none p room rest most at) (λ n. events-few most p (room - n.size) (at + n.used) (drop n.used rest))
  where
    go :
        (o : Option NextEvent) → NextOr p room rest most at o (events_at (suc most) p room at rest) →
        ((n : NextEvent) → length (events_at most p (room - n.size) (at + n.used) (drop n.used rest)) ≤ most) →
        length (events_at (suc most) p room at rest) ≤ suc most
    go (Some n) on few = rw on.list (omega (arith, few n))
    go None none few = rw none (omega arith)

-- fewer are the first ones of more
pub fewer : (few more : ℕ) (p : Progress) (room at : ℕ) (rest : List ℕ) → few ≤ more → events_at few p room at rest ≡ take few (events_at more p room at rest)
unfolding events_at
fewer zero more p room at rest h = refl
fewer (suc few) zero p room at rest h = absurd (omega arith)
fewer (suc few) (suc more) p room at rest h =
    go (next_event rest p room) (next-or-none p room rest few at) (next-or-none p room rest more at)
    (λ n. fewer few more p (room - n.size) (at + n.used) (drop n.used rest) (omega arith))
  where
    go :
        (o : Option NextEvent) →
        NextOr p room rest few at o (events_at (suc few) p room at rest) →
        NextOr p room rest more at o (events_at (suc more) p room at rest) →
        ((n : NextEvent) → events_at few p (room - n.size) (at + n.used) (drop n.used rest) ≡ take few (events_at more p (room - n.size) (at + n.used) (drop n.used rest))) →
        events_at (suc few) p room at rest ≡ take (suc few) (events_at (suc more) p room at rest)
    go (Some n) one other behind = rw (one.list, other.list, behind n)
    go None one other behind = rw (one, other)

-- ---- where they end

-- the end of the last
abbrev pub last_end : ℕ → List Placed → ℕ
last_end at [] = at
last_end at (x ∷ xs) = last_end x.past xs

pub end-at : (xs : List Placed) (k at : ℕ) → k < length xs → get_or (ends_of xs) k 0 ≡ last_end at (take (suc k) xs)
unfolding ends_of
end-at [] k at h = absurd (omega arith)
end-at (x ∷ xs) zero at h = refl
end-at (x ∷ xs) (suc k) at h = end-at xs k x.past (omega arith)

pub end-within :
    (p : Progress) (rest : List ℕ) (at : ℕ) (xs : List Placed) → ReadAs p rest at xs →
    (k : ℕ) → (at ≤ last_end at (take k xs)) × (last_end at (take k xs) ≤ at + length rest)
end-within p rest at xs r zero = (omega arith, omega arith)
end-within p rest at [] r (suc k) = (omega arith, omega arith)
end-within p rest at (x ∷ xs) r (suc k) =
    let size = field-size rest p r.read in
    let then = end-within p (drop r.used rest) x.past xs r.then k in
    (omega (arith, r.past, then.0), omega (arith, r.past, then.1, size.1, length-drop r.used rest))

-- ---- their lengths

pub length-events : (xs : List Placed) → length (events_of xs) ≡ length xs
unfolding events_of
length-events [] = refl
length-events (x ∷ xs) = ap suc (length-events xs)

pub length-ends : (xs : List Placed) → length (ends_of xs) ≡ length xs
unfolding ends_of
length-ends [] = refl
length-ends (x ∷ xs) = ap suc (length-ends xs)

-- the events of the first k are the first k events
pub take-events : (k : ℕ) (xs : List Placed) → events_of (take k xs) ≡ take k (events_of xs)
unfolding events_of
take-events zero xs = refl
take-events (suc k) [] = refl
take-events (suc k) (x ∷ xs) = ap (λ (l : List Event). x.event ∷ l) (take-events k xs)

-- ---- the reply's parts

pub record InBuffers (xs : List Placed) (read : Events) : Type 0 where
  pub few : length xs ≤ most_events
  pub count : read.count ≡ length xs
  pub head : take (length xs) read.events ≡ events_of xs
  pub end : (k : ℕ) → k ≤ length xs → get_or read.ends k 0 ≡ last_end 0 (take k xs)

pub listed : (rest : List ℕ) (p : Progress) (room : ℕ) → InBuffers (events_at most_events p room 0 rest) (events_reply rest p room)
unfolding events_reply listing
listed rest p room =
    let xs : List Placed = events_at most_events p room 0 rest in
    record {
      few = events-few most_events p room 0 rest;
      count = refl;
      head = take_at (events_of xs) _ (length xs) (length-events xs);
      end = end-in xs;
    }
  where
    end-in : (xs : List Placed) (k : ℕ) → k ≤ length xs → get_or (0 ∷ (ends_of xs ++ replicate (most_events - length xs) 0)) k 0 ≡ last_end 0 (take k xs)
    end-in xs zero small = refl
    end-in xs (suc k) small = get_or-append (ends_of xs) _ 0 k (omega (arith, length-ends xs)) ∙ end-at xs k 0 small
