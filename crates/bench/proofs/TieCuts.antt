-- Cut and restore, on the lists and in the network, with their replies. Assumes nothing.
use Prim.Native.Nat.{ℕ, ◌*◌, ◌<◌}
use native.Mathlib.Omega.{arith}
use mathlib.Core.Path.{◌≡◌, sym, ◌∙◌, ap}
use mathlib.Core.Bool.{Bool, true, false}
use mathlib.Core.List.{[]}
use lib.ListN.{length-set}
use Rattle.protocol.specs.Net.{Network, Plan}
use Rattle.protocol.specs.Calls.{change, cut, restore, refuse, accepted, end_of, with_end, act, step}
use Rattle.bench.specs.State.{State, state}
use Rattle.bench.specs.Private.Views.{network_of}
use Rattle.bench.specs.Ranges.{graph_in_range, bench_in_range, costs_in_range, messages_in_range, parts_in_range}
use Rattle.bench.specs.Private.Changes.{BenchOutcome, bench_outcome, bench_with_end, own_end, switch, switch_of}
use Rattle.bench.specs.Outcomes.{refusal_of}
use Rattle.bench.proofs.Represents.{Represents}
use Rattle.bench.specs.Private.ListSteps.{step_by}
use Rattle.protocol.proofs.Accepted.{accepted-checks}
use Rattle.bench.proofs.TieRanges.{get_d-stored, told, bench-ready, few}
use Rattle.bench.proofs.TieRefusals.{refusal-ready, settled-step}
use Rattle.bench.proofs.TieChecks.{refuse-same}
use Rattle.bench.proofs.Switches.{switch-same, switch-after, switch-end}

module _ (s : State) (n : Network) (r : Represents s n) where
  kept-end : (e : ℕ) (down : Bool) → e < 2 * s.bench.links → Represents (state (bench_with_end s.bench e down) s.costs s.sent s.held s.messages) (with_end n e down)
  unfolding with_end parts_in_range bench_in_range graph_in_range costs_in_range messages_in_range
  kept-end e down low =
      record {
        in_range = r.in_range;
        typed =
            record {
              views = r.typed.views;
              numbers = r.typed.numbers;
              records = r.typed.records;
              flags = simp length-set r.typed.flags;
              number = r.typed.number;
              received = r.typed.received;
              discarded = r.typed.discarded;
            };
        plan = r.plan;
        view = r.view;
        number = r.number;
        down = λ k h. rw (r.down k h) (sym (get_d-stored s.bench.down e down k false (omega (arith, few s.bench _ (told s r.in_range).lasting, r.typed.flags))));
        ends = r.ends;
        sent = r.sent;
        held = r.held;
        messages = r.messages;
      }

  -- the bench alone tells the refusal
  switch-refused : (y l : ℕ) (down : Bool) → refusal_of (bench_in_range s.bench) (network_of s.bench []) (change (switch down y l)) ≡ refuse n (change (switch down y l))
  switch-refused y l down =
      refusal-ready _ (network_of s.bench []) _ (bench-ready s (told s r.in_range)) ∙ switch-same y l s down ∙ sym (refuse-same s n r (change (switch down y l)))

  -- the state with the bench that a cut or a restore leaves
  abbrev with_bench : BenchOutcome → State
  with_bench o = state o.bench s.costs s.sent s.held s.messages

  -- the end is the same in the network
  switch_kept : (y l : ℕ) (down : Bool) → accepted n (change (switch down y l)) ≡ true → Represents (with_bench (bench_outcome 0 (bench_with_end s.bench (own_end s.bench y l) down))) (act n (change (switch down y l)))
  unfolding act refuse
  switch_kept y l down a =
      let none : refuse (network_of s.bench []) (change (switch down y l)) ≡ 0 = switch-same y l s down ∙ sym (refuse-same s n r (change (switch down y l))) ∙ accepted-checks n (change (switch down y l)) a in
      let same : end_of n.plan.graph y l ≡ own_end s.bench y l = ap (λ (p : Plan). end_of p.graph y l) r.plan in
      rw (switch-after y l n down, same) (kept-end (own_end s.bench y l) down (switch-end y l s.bench [] down none))

  switch-represents : (y l : ℕ) (down : Bool) → Represents (with_bench (switch_of s.bench y l down)) (step n (change (switch down y l)))
  unfolding switch_of
  switch-represents y l down =
      settled-step with_bench n (change (switch down y l)) _ (λ k. bench_outcome k s.bench) (bench_outcome 0 (bench_with_end s.bench (own_end s.bench y l) down))
      (switch-refused y l down)
      (λ m. r)
      (switch_kept y l down)

  pub cut-represents : (y l : ℕ) → Represents (step_by s (change (cut y l))) (step n (change (cut y l)))
  unfolding step_by
  cut-represents y l = switch-represents y l true

  pub restore-represents : (y l : ℕ) → Represents (step_by s (change (restore y l))) (step n (change (restore y l)))
  unfolding step_by
  restore-represents y l = switch-represents y l false
