-- `refusals::deliver` meets its contract. Each return cites the tests that led to it. Assumes nothing.
use Prim.Native.Nat.{ℕ}
use mathlib.Core.Path.{sym, ap, ◌∙◌}
use mathlib.Core.Bool.{false}
use borrow.Author.Tests.{lt-ltb, le-ltb}
use lib.ListN.{get_or}
use Rattle.distances.proofs.Checks.{First.none, First.here, First.next, first}
use Rattle.protocol.specs.Calls.{refusal, refuse, checks, no_message, end_down}
use Rattle.bench.proofs.TieQueue.{messages-length, message-at}
use Rattle.bench.proofs.refusals.deliver.Goals as goal

pub returns-then-bench-place-clause-number : goal.returns-then-bench-place-clause-number
unfolding checks no_message refuse refusal
returns-then-bench-place-clause-number c = rw (messages-length, le-ltb _ _ c.if-bench-place.true)

pub returns-then-bench-there-clause-number : goal.returns-then-bench-there-clause-number
unfolding checks no_message end_down refuse
returns-then-bench-there-clause-number c =
    let its = ap (λ (e : ℕ). get_or c.args.bench.now.down e false) (sym c.arrival_end-there.ensures) ∙ c.if-bench-there.true in
    first (next (rw (messages-length, lt-ltb _ _ c.if-bench-place.false)) (here (rw (message-at _ _ _ c.if-bench-place.false) its)))

pub returns-clause-number : goal.returns-clause-number
unfolding checks no_message end_down refuse
returns-clause-number c =
    let its = ap (λ (e : ℕ). get_or c.args.bench.now.down e false) (sym c.arrival_end-there.ensures) ∙ c.if-bench-there.false in
    first (next (rw (messages-length, lt-ltb _ _ c.if-bench-place.false)) (next (rw (message-at _ _ _ c.if-bench-place.false) its) none))
