-- `messages::send_ready` meets its contract: turned down, or layer 2 carries what is in range, and the five numbers are those of the
-- message. Assumes nothing.
use Prim.Native.Nat.{ℕ, ◌*◌}
use mathlib.Core.Path.{◌≡◌, sym, ap, ◌∙◌}
use mathlib.Core.List.{List}
use borrow.Author.Rules.{rules}
use lib.ListN.{length}
use lib.Seq.{sets}
use Rattle.agreement.specs.Call.{Response}
use Rattle.agreement.specs.declared.Agreement.{Agreement}
use Rattle.protocol.specs.Calls.{send, refuse, checks, no_such_bridge, no_such_link, not_on_link, end_down, no_room}
use Rattle.bench.specs.State.{state}
use Rattle.bench.specs.Outcomes.{ready_for}
use Rattle.bench.proofs.QueueRanges.{flight-told}
use Rattle.bench.proofs.QueueCalls.{send-same, send-carries, sent-numbers, said_same}
use Rattle.bench.proofs.CallOutcomes.{send-done}
use Rattle.bench.proofs.Replies.{some_number, refused-outcome}
use Rattle.bench.proofs.messages.send_ready.Goals as goal

pub send-requires : goal.send-requires
send-requires c = let counted = (flight-told _ _ c.requires).0.counted in (counted.bridges, counted.links)

pub returns-in_err-end : goal.returns-in_err-end
unfolding ready_for refuse checks no_such_bridge no_such_link not_on_link end_down no_room
returns-in_err-end c =
    λ costs sent held.
    let a = c.args in
    let told =
    refused-outcome {A = Unit {0}} (state a.bench.now costs sent held a.messages.now) (send a.bridge a.link) (λ n. tt) c.requires c.in_err-end.field-0.0
    (c.in_err-end.ensures.number ∙ send-same a.bench.now a.messages.now a.bridge a.link) in
    search rules

pub returns-in_err-carried : goal.returns-in_err-carried
returns-in_err-carried c =
    let a = c.args in
    let records : length a.bench.now.records ≡ 64 = search rules in
    let at = c.in_ok-end.ensures in
    absurd (some_number c.in_err-carried.field-0.0
    (ap (λ (x : Response Agreement). x.number)
    (c.in_err-carried.ensures ∙ send-carries a.bench.now a.messages.now a.bridge a.link _ c.requires at.number at.end.is (rw records at.end.end) _)))

pub put-requires : goal.put-requires
put-requires c = (c.in_ok-end.ensures.room, (flight-told _ _ c.requires).1.long)

pub returns : goal.returns
unfolding refuse checks no_such_bridge no_such_link not_on_link end_down no_room
returns c =
    λ costs sent held.
    let a = c.args in
    let b = a.bench.now in
    let m = a.messages.now in
    let at = c.in_ok-end.ensures in
    let records : length b.records ≡ 64 = search rules in
    let same = said_same _ _ (c.in_ok-carried.ensures ∙ send-carries b m a.bridge a.link _ c.requires at.number at.end.is (rw records at.end.end) _) in
    rw (c.put.ensures ∙ ap (λ (l : List ℕ). sets m (5 * b.messages) l) (sent-numbers b m a.bridge a.link _ _ at.end.is same))
    (send-done (state b costs sent held m) c.requires a.bridge a.link (sym (at.number ∙ send-same b m a.bridge a.link)))
