-- `refusals::send` meets its contract. Each return cites the tests that led to it. Assumes nothing.
use Prim.Native.Nat.{ℕ}
use mathlib.Core.Path.{◌≡◌, sym, ap, ◌∙◌}
use mathlib.Core.Bool.{false}
use lib.ListN.{get_or}
use mathlib.Core.List.{[]}
use borrow.Author.Rules.{rules}
use borrow.Author.Tests.{le-leb, lt-leb}
use Rattle.distances.specs.Refusal.{number}
use Rattle.distances.proofs.Checks.{First.none, First.here, First.next, first}
use Rattle.protocol.specs.Calls.{send, refuse, checks, no_room, end_down}
use Rattle.bench.specs.Private.Views.{network_of}
use Rattle.bench.proofs.EntryOutcomes.{first-refused}
use Rattle.bench.proofs.Replies.{some_number}
use Rattle.bench.proofs.TieQueue.{messages-length}
use Rattle.bench.proofs.refusals.send.Goals as goal

pub returns-in_err-own-clause-number : goal.returns-in_err-own-clause-number
unfolding checks refuse
returns-in_err-own-clause-number c =
    let a = c.args in
    let told : number c.in_err-own.field-0.0 ≡ refuse (network_of a.bench.now []) (send a.bridge a.link) =
    first-refused _ _ _ (c.in_err-own.ensures.first _) (some_number _) in
    search rules

pub returns-then-bench-own-clause-number : goal.returns-then-bench-own-clause-number
unfolding checks end_down refuse
returns-then-bench-own-clause-number c =
    let its = ap (λ (e : ℕ). get_or c.args.bench.now.down e false) (sym c.in_ok-own.ensures.end.is) ∙ c.if-bench-own.true in
    first (here its) ∙ c.in_ok-own.ensures.first _

pub returns-then-bench-ge-MOST_MESSAGES-clause-number : goal.returns-then-bench-ge-MOST_MESSAGES-clause-number
unfolding checks end_down no_room refuse
returns-then-bench-ge-MOST_MESSAGES-clause-number c =
    let its = ap (λ (e : ℕ). get_or c.args.bench.now.down e false) (sym c.in_ok-own.ensures.end.is) ∙ c.if-bench-own.false in
    first (next its (here (rw (messages-length, le-leb 64 _ c.if-bench-ge-MOST_MESSAGES.true)))) ∙ c.in_ok-own.ensures.first _

pub returns-clause-number : goal.returns-clause-number
unfolding checks end_down no_room refuse
returns-clause-number c =
    let its = ap (λ (e : ℕ). get_or c.args.bench.now.down e false) (sym c.in_ok-own.ensures.end.is) ∙ c.if-bench-own.false in
    first (next its (next (rw (messages-length, lt-leb 64 _ c.if-bench-ge-MOST_MESSAGES.false)) none)) ∙ c.in_ok-own.ensures.first _
