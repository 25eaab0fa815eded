-- A list of events, from one to the next: how far it has come, and where it ends. Assumes nothing.
use Prim.Native.Nat.{ℕ, zero, suc, ◌+◌, ◌-◌, ◌*◌, ◌≤◌, ◌<◌}
use native.Mathlib.Omega.{arith}
use mathlib.Core.Path.{◌≡◌, refl, sym, ap, ◌∙◌}
use mathlib.Core.List.{List, [], ◌∷◌, ◌++◌, append-nil}
use lib.ListN.{length, take, drop, replicate, length-append, length-drop}
use lib.Seq.{take_all, append_snoc, drop-drop, set_at}
use Rattle.std.specs.Prelude.{None, Some}
use Rattle.bench.specs.declared.Event.{Event}
use Rattle.bench.specs.declared.Event.TheVariants.{Lose}
use Rattle.plan.specs.Sizes.{most_events}
use Rattle.plan.specs.Events.{Placed, placed, events_at, events_of, ends_of, listing, events_reply}
use Rattle.plan.specs.Steps.{next_event, with_event}
use Rattle.plan.specs.declared.Progress.{Progress}
use Rattle.plan.specs.declared.events.Events.{Events}
use Rattle.plan.specs.declared.events.NextEvent.{NextEvent}
use Rattle.plan.proofs.Laws.{field-size, event-size}
use Rattle.plan.proofs.EventLaws.{GoesOn, next-or-none, length-events, length-ends}

-- ---- one behind those that are read

events-snoc : (xs : List Placed) (x : Placed) → events_of (xs ++ (x ∷ [])) ≡ events_of xs ++ (x.event ∷ [])
unfolding events_of
events-snoc [] x = refl
events-snoc (y ∷ ys) x = ap (λ (l : List Event). y.event ∷ l) (events-snoc ys x)

ends_snoc : (xs : List Placed) (x : Placed) → ends_of (xs ++ (x ∷ [])) ≡ ends_of xs ++ (x.past ∷ [])
unfolding ends_of
ends_snoc [] x = refl
ends_snoc (y ∷ ys) x = ap (λ (l : List ℕ). y.past ∷ l) (ends_snoc ys x)

one_behind : (xs : List Placed) (e : Event) (end : ℕ) → length xs < most_events → with_event (listing xs) e end ≡ listing (xs ++ (placed e end ∷ []))
unfolding listing
one_behind xs e end room =
    let n : ℕ = length xs in
    let left : most_events - n ≡ suc (most_events - suc n) = omega arith in
    let counted : length (xs ++ (placed e end ∷ [])) ≡ suc n = length-append xs (placed e end ∷ []) ∙ omega arith in
    rw (
      counted,
      left,
      events-snoc xs (placed e end),
      ends_snoc xs (placed e end),
      set_at (events_of xs) (Lose 0) (replicate (most_events - suc n) (Lose 0)) e n (length-events xs),
      set_at (ends_of xs) 0 (replicate (most_events - suc n) 0) end n (length-ends xs),
      append_snoc {A = Event},
      append_snoc {A = ℕ},
    )
    refl

-- ---- so far

pub record Underway (rest : List ℕ) (p : Progress) (room : ℕ) (read : Events) (left at count : ℕ) : Type 0 where
  pub done : List Placed
  pub counted : length done ≡ count
  pub few : count ≤ most_events
  pub listed : read ≡ listing done
  pub same : events_at most_events p room 0 rest ≡ done ++ events_at (most_events - count) p left at (drop at rest)
  pub within : at ≤ length rest
  pub short : at ≤ 5 * count

-- none ahead
none_ahead : (most : ℕ) (p : Progress) (room at : ℕ) (rest : List ℕ) → next_event rest p room ≡ None → events_at most p room at rest ≡ []
unfolding events_at
none_ahead zero p room at rest none = refl
none_ahead (suc most) p room at rest none = let e = rw none at (next-or-none p room rest most at) in e

pub record LoopStep (rest : List ℕ) (p : Progress) (room : ℕ) (read : Events) (left at count : ℕ) (n : NextEvent) : Type 0 where
  pub size : n.size ≤ left
  pub then : Underway rest p room (with_event read n.event (at + n.used)) (left - n.size) (at + n.used) (suc count)

-- the part of the bytes behind the first ones, as the code takes it
abbrev pub behind : List ℕ → ℕ → List ℕ
behind rest at = take (length rest - at) (drop at rest)

behind-all : (rest : List ℕ) (at : ℕ) → behind rest at ≡ drop at rest
behind-all rest at = take_all (length rest - at) (drop at rest) (omega (arith, length-drop at rest))

module _ (rest : List ℕ) (p : Progress) (room : ℕ) (read : Events) (left at count : ℕ) (old : Underway rest p room read left at count) where
  finished : events_at (most_events - count) p left at (drop at rest) ≡ [] → read ≡ events_reply rest p room
  unfolding events_reply
  finished none = old.listed ∙ ap listing (sym (old.same ∙ rw (none, append-nil)))

  -- where there is no next one
  pub stops : next_event (behind rest at) p left ≡ None → read ≡ events_reply rest p room
  stops none = finished (none_ahead (most_events - count) p left at (drop at rest) (rw (behind-all rest at) at none))

  -- where there are the most
  pub ended : most_events ≤ count → read ≡ events_reply rest p room
  unfolding events_at
  ended all = let none : most_events - count ≡ 0 = omega arith in finished (rw none)

  -- with the next one
  pub goes_on : (n : NextEvent) → next_event (behind rest at) p left ≡ Some n → count < most_events → LoopStep rest p room read left at count n
  goes_on n is more = go (rw (rw (behind-all rest at) at is) at (next-or-none p left (drop at rest) (most_events - suc count) at))
    where
      x : Placed
      x = placed n.event (at + n.used)

      one : most_events - count ≡ suc (most_events - suc count)
      one = omega arith

      go : GoesOn p left (drop at rest) (most_events - suc count) at n (events_at (suc (most_events - suc count)) p left at (drop at rest)) → LoopStep rest p room read left at count n
      go on =
          let size = field-size (drop at rest) p on.goes.read in
          record {
            size = on.goes.fits;
            then = record {
              done = old.done ++ (x ∷ []);
              counted = length-append old.done (x ∷ []) ∙ omega (arith, old.counted);
              few = more;
              listed = ap (λ (r : Events). with_event r n.event (at + n.used)) old.listed ∙ one_behind old.done n.event (at + n.used) (omega (arith, old.counted));
              same = old.same ∙ rw (one, on.list, drop-drop, append_snoc);
              within = omega (arith, size.1, length-drop at rest, old.within);
              short = omega (arith, old.short, event-size (drop at rest) p on.goes.read);
            };
          }
