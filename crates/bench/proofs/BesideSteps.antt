-- Every call leaves the state as it was but for what there is, and leaves what the network that it makes stands in. Assumes nothing.
use Prim.Native.Nat.{ℕ, ◌+◌, ◌*◌, ◌-◌, ◌<◌}
use native.Mathlib.Omega.{arith}
use mathlib.Core.Path.{◌≡◌, ap}
use mathlib.Core.Bool.{Bool, true, false, cond, ◌&&◌}
use mathlib.Core.List.{List, []}
use lib.ListN.{get_or, set}
use lib.Dec.{eqb}
use borrow.Author.Tests.{lt-ltb}
use Rattle.agreement.specs.Offer.{opposite}
use Rattle.agreement.specs.Record.{fresh_record}
use Rattle.agreement.specs.declared.EndRecord.{EndRecord}
use Rattle.protocol.specs.Net.{Message, sender}
use Rattle.protocol.specs.Calls.{Call, Change, change, update, cut, restore, send, deliver, repeat, lose, port, verdict, report, path, refuse, checks, accepted, step, message_of}
use Rattle.bench.specs.State.{State, state, network, message_from}
use Rattle.bench.specs.Private.Views.{network_of, lent_view}
use Rattle.bench.specs.Ranges.{bench_in_range, messages_in_range}
use Rattle.bench.specs.Outcomes.{refusal_of}
use Rattle.bench.specs.Private.Changes.{bench_outcome, bench_with_end, own_end, switch, switch_of, change_outcome, Ends, ends, moved_ends, moved_bench, update_of}
use Rattle.bench.specs.Ranges.{network_in_range}
use Rattle.bench.specs.Private.Queue.{with_count, queue_outcome, send_of, lose_of}
use Rattle.bench.specs.State.{numbers_of}
use Rattle.bench.specs.Ranges.{state_in_range}
use Rattle.bench.specs.Private.Changes.{bench_with_records}
use Rattle.bench.specs.Private.Deliveries.{delivery_refused, delivery_at, received, deliver_of, repeat_of}
use Rattle.bench.specs.Standing.{step_in}
use Rattle.bench.proofs.Represents.{Typed, own-represents}
use Rattle.bench.specs.Private.ListSteps.{step_by}
use Rattle.protocol.proofs.Accepted.{UpdateExists, update-listed, place-listed}
use Rattle.bench.proofs.CallSteps.{with_changed, with_rewritten, with_queue, with_delivered}
use Rattle.bench.proofs.Switches.{switch-end}
use Rattle.bench.proofs.QueueCalls.{refusal-none}
use Rattle.bench.proofs.TieChecks.{message-told}
use Rattle.bench.proofs.TieQueue.{messages-length}
use Rattle.bench.proofs.TieRanges.{told}
use Rattle.bench.proofs.TieSteps.{step-represents}
use Rattle.bench.proofs.Beside.{Beside, beside-by, beside_same, represents-agrees, stood-step, settled-beside}
use Rattle.bench.proofs.BesideCalls.{BothParts, EndsKept, ends-kept, kept-delivered, taken-part, sets-part}
use Rattle.bench.proofs.StandingLaws.{Part, below, part_same, part-set}

module _ (s : State) where
  -- ---- cut and restore

  pub with-end : (e : ℕ) (down : Bool) → e < 2 * s.bench.links → Beside s (with_changed s (bench_outcome 0 (bench_with_end s.bench e down)))
  with-end e down low =
      beside-by s s.bench.messages (part_same _ 0 _) (part_same _ 0 _) (part_same _ fresh_record _) (part-set _ false s.bench.down e down (lt-ltb e _ low)) (part_same _ 0 _) (part_same _ 0 _)
      (part_same _ 0 _)

  switch-beside : (y l : ℕ) (down : Bool) → Beside s (with_changed s (switch_of s.bench y l down))
  unfolding switch_of
  switch-beside y l down =
      settled-beside s (with_changed s) (refusal_of (bench_in_range s.bench) (network_of s.bench []) (change (switch down y l))) (λ k. bench_outcome k s.bench)
      (bench_outcome 0 (bench_with_end s.bench (own_end s.bench y l) down))
      (λ j. beside_same s)
      (λ none. with-end (own_end s.bench y l) down (switch-end y l s.bench [] down (refusal-none _ (network_of s.bench []) (change (switch down y l)) none).1))

  -- ---- update

  pub with-moved : (y t : ℕ) (z : Ends) → y < s.bench.bridges → EndsKept (lent_view s.bench s.costs t) (ends s.bench.records s.sent s.held) z → Beside s (with_rewritten s (moved_bench s.bench y t z))
  with-moved y t z low k =
      beside-by s s.bench.messages (part-set _ 0 s.bench.view y t (lt-ltb y _ low)) (part-set _ 0 s.bench.number y _ (lt-ltb y _ low)) k.records (part_same _ false _) k.limits.0
      k.limits.1 (part_same _ 0 _)

  pub update-beside : (y t : ℕ) → Beside s (step_by s (change (update y t)))
  unfolding step_by update_of accepted
  update-beside y t =
      settled-beside s (with_rewritten s) (refusal_of (network_in_range s) (network s) (change (update y t))) (λ k. change_outcome k s.bench s.sent s.held) _
      (λ j. beside_same s)
      (λ none. go (eqb (get_or s.bench.view y 0) t) (update-listed (network s) y t (ap (λ (k : ℕ). eqb k 0) (refusal-none _ (network s) (change (update y t)) none).1)))
    where
      after : Ends
      after = moved_ends (lent_view s.bench s.costs t) s.bench.views y t (2 * s.bench.links) (ends s.bench.records s.sent s.held)

      go : (same : Bool) → UpdateExists (network s) y t → Beside s (with_rewritten s (cond same (change_outcome 0 s.bench s.sent s.held) (moved_bench s.bench y t after)))
      go true listed = beside_same s
      go false listed = with-moved y t after listed.bridge (ends-kept _ s.bench.views y t _ (2 * s.bench.links) (omega arith))

  -- ---- messages in flight

  pub with-flight : (k : ℕ) (m : List ℕ) → Part (below (5 * k)) 0 s.messages m → Beside s (with_queue s (queue_outcome 0 (with_count s.bench k) m))
  with-flight k m part = beside-by s k (part_same _ 0 _) (part_same _ 0 _) (part_same _ fresh_record _) (part_same _ false _) (part_same _ 0 _) (part_same _ 0 _) part

  pub send-beside : (y l : ℕ) → Beside s (step_by s (send y l))
  unfolding step_by send_of
  send-beside y l =
      let x : Message = message_of (network_of s.bench s.messages) y l in
      settled-beside s (with_queue s) (refusal_of (bench_in_range s.bench && messages_in_range s.bench s.messages) (network_of s.bench s.messages) (send y l)) (λ k. queue_outcome k s.bench s.messages) _
      (λ j. beside_same s)
      (λ none. with-flight (s.bench.messages + 1) _ (sets-part (numbers_of x) s.messages (5 * s.bench.messages) (5 * (s.bench.messages + 1)) (omega arith)))

  pub lose-beside : (p : ℕ) → Beside s (step_by s (lose p))
  unfolding step_by lose_of
  lose-beside p =
      settled-beside s (with_queue s) (refusal_of (bench_in_range s.bench && messages_in_range s.bench s.messages) (network_of s.bench s.messages) (lose p)) (λ k. queue_outcome k s.bench s.messages) _
      (λ j. beside_same s)
      (λ none. with-flight (s.bench.messages - 1) _ (taken-part s.bench.messages p s.messages))

  -- ---- deliver and repeat

  pub with-received :
      (e : ℕ) (r : EndRecord) (sent held : List ℕ) (k : ℕ) (m : List ℕ) →
      e < 2 * s.bench.links →
      BothParts s.bench.links s.bench.bridges s.sent s.held sent held →
      Part (below (5 * k)) 0 s.messages m →
      Beside s (state (with_count (bench_with_records s.bench (set s.bench.records e r)) k) s.costs sent held m)
  with-received e r sent held k m low limits part =
      beside-by s k (part_same _ 0 _) (part_same _ 0 _) (part-set _ fresh_record s.bench.records e r (lt-ltb e _ low)) (part_same _ false _) limits.0 limits.1 part

  -- the end of the message at a place
  end-there : state_in_range s ≡ true → (p : ℕ) → p < s.bench.messages → opposite (sender (message_from s.messages p)) < 2 * s.bench.links
  end-there ok p low =
      let inside = message-told _ _ (message_from s.messages p) ((told s ok).message p low) in
      omega (arith, inside.link, inside.direction)

  module _ (p : ℕ) where
    abbrev there : ℕ
    there = opposite (sender (message_from s.messages p))

    kept_there : there < 2 * s.bench.links → BothParts s.bench.links s.bench.bridges s.sent s.held (received s p).sent (received s p).held
    unfolding delivery_at
    kept_there low =
        let y : ℕ = get_or s.bench.ends there 0 in
        let t : ℕ = get_or s.bench.view y 0 in
        kept-delivered (lent_view s.bench s.costs t) s.bench.views t s.sent s.held there low (get_or s.bench.number y 0)
        (get_or s.bench.records there fresh_record) (message_from s.messages p).agreement

    pub repeat-beside : Beside s (step_by s (repeat p))
    unfolding step_by repeat_of refuse checks delivery_at
    repeat-beside =
        settled-beside s (with_delivered s) (refusal_of (state_in_range s) (network s) (repeat p)) (delivery_refused s) (received s p)
        (λ j. beside_same s)
        (λ none.
        let both = refusal-none _ (network s) (repeat p) none in
        let low = end-there both.0 p (rw messages-length at (place-listed (network s) p _ both.1)) in
        with-received there _ (received s p).sent (received s p).held s.bench.messages s.messages low (kept_there low) (part_same _ 0 _))

    pub deliver-beside : Beside s (step_by s (deliver p))
    unfolding step_by deliver_of refuse checks delivery_at
    deliver-beside =
        settled-beside s (with_delivered s) (refusal_of (state_in_range s) (network s) (deliver p)) (delivery_refused s) _
        (λ j. beside_same s)
        (λ none.
        let both = refusal-none _ (network s) (deliver p) none in
        let low = end-there both.0 p (rw messages-length at (place-listed (network s) p _ both.1)) in
        with-received there _ (received s p).sent (received s p).held (s.bench.messages - 1) _ low (kept_there low) (taken-part s.bench.messages p s.messages))

  change-beside : (x : Change) → Beside s (step_by s (change x))
  unfolding step_by
  change-beside (update y t) = update-beside y t
  change-beside (cut y l) = switch-beside y l true
  change-beside (restore y l) = switch-beside y l false

  pub step-beside : (c : Call) → Beside s (step_by s c)
  unfolding step_by
  step-beside (change x) = change-beside x
  step-beside (send y l) = send-beside y l
  step-beside (deliver p) = deliver-beside p
  step-beside (repeat p) = repeat-beside p
  step-beside (lose p) = lose-beside p
  step-beside (port y d) = beside_same s
  step-beside (verdict y d) = beside_same s
  step-beside (report d) = beside_same s
  step-beside (path y d) = beside_same s

  -- ---- what each call leaves, by the network alone

  pub step_is : state_in_range s ≡ true → Typed s.bench → (c : Call) → step_by s c ≡ step_in s c
  step_is ok typed c =
      stood-step s (step_by s c) c (step-beside c) (represents-agrees (step_by s c) (step (network s) c) (step-represents s (network s) c (own-represents s ok typed)))
