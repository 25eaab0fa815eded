-- `messages::repeat_ready` meets its contract: turned down, or layer 2 takes the message at the end where it arrives. Assumes nothing.
use mathlib.Core.Path.{refl}
use mathlib.Core.List.{[]}
use borrow.Author.Rules.{rules}
use Rattle.bench.specs.State.{state_of}
use Rattle.bench.proofs.TieRanges.{told}
use Rattle.bench.proofs.ArrivalSteps.{arrival-told}
use Rattle.bench.proofs.DeliverySteps.{place-taken, place-received}
use Rattle.bench.proofs.DeliveryCalls.{prepared-received, repeat-refused, repeat-turned, repeat-done}
use Rattle.bench.proofs.messages.repeat_ready.Goals as goal

pub deliver-requires : goal.deliver-requires
deliver-requires c =
    let s = state_of c.args.net.now c.args.messages.now in
    let all = told s c.requires.in_range in
    (all.count, all.messages_long, λ low. (arrival-told s c.requires.in_range c.args.place _ refl low).arrives)

pub returns-in_err-end-clause-outcome : goal.returns-in_err-end-clause-outcome
returns-in_err-end-clause-outcome c =
    let refused = repeat-refused (state_of c.args.net.now c.args.messages.now) c.requires.in_range c.args.place c.in_err-end.field-0.0 c.in_err-end.ensures.number in
    search rules

pub returns-in_err-end-clause-numbers : goal.returns-in_err-end-clause-numbers
returns-in_err-end-clause-numbers c =
    let refused = repeat-turned (state_of c.args.net.now c.args.messages.now) c.requires.in_range c.args.place c.in_err-end.field-0.0 c.in_err-end.ensures.number in
    search rules

pub bounds-net-end : goal.bounds-net-end
bounds-net-end c =
    let at = c.in_ok-end.ensures.end in
    (arrival-told (state_of c.args.net.now c.args.messages.now) c.requires.in_range _ _ at.0 at.1).end

pub bounds-net-bridge : goal.bounds-net-bridge
bounds-net-bridge c =
    let at = c.in_ok-end.ensures.end in
    (arrival-told (state_of c.args.net.now c.args.messages.now) c.requires.in_range _ _ at.0 at.1).bridge

pub need-requires : goal.need-requires
need-requires c =
    let at = c.in_ok-end.ensures.end in
    let here = arrival-told (state_of c.args.net.now c.args.messages.now) c.requires.in_range _ _ at.0 at.1 in
    (here.view, here.costs, c.requires.prepared.tables)

pub carried-requires : goal.carried-requires
carried-requires c =
    let at = c.in_ok-end.ensures.end in
    let here = arrival-told (state_of c.args.net.now c.args.messages.now) c.requires.in_range _ _ at.0 at.1 in
    (here.place, here.long, here.fits)

pub receive-requires-clause-takes : goal.receive-requires-clause-takes
receive-requires-clause-takes c =
    let net = c.args.net.now in
    let at = c.in_ok-end.ensures.end in
    let here = arrival-told (state_of net c.args.messages.now) c.requires.in_range _ _ at.0 at.1 in
    (here.end, rw c.carried.ensures (place-taken net.bench.now net.costs.now net.limits.now.sent.now net.limits.now.held.now c.args.messages.now _ c.args.place c.requires.in_range at.1 at.0))

pub receive-requires-clause-lent : goal.receive-requires-clause-lent
receive-requires-clause-lent c =
    let at = c.in_ok-end.ensures.end in
    let here = arrival-told (state_of c.args.net.now c.args.messages.now) c.requires.in_range _ _ at.0 at.1 in
    (here.bridge, here.view, here.costs)

pub returns-clause-outcome : goal.returns-clause-outcome
returns-clause-outcome c =
    let net = c.args.net.now in
    let at = c.in_ok-end.ensures.end in
    (repeat-done (state_of net c.args.messages.now) c.requires.in_range c.args.place c.typed.ensures c.in_ok-end.ensures.number
    (place-received net.bench.now net.costs.now net.limits.now.sent.now net.limits.now.held.now c.args.messages.now _ c.args.place c.requires.in_range at.1 at.0 c.carried.ensures c.receive.ensures.outcome)).0

pub returns-clause-numbers : goal.returns-clause-numbers
returns-clause-numbers c =
    let net = c.args.net.now in
    let at = c.in_ok-end.ensures.end in
    (repeat-done (state_of net c.args.messages.now) c.requires.in_range c.args.place c.typed.ensures c.in_ok-end.ensures.number
    (place-received net.bench.now net.costs.now net.limits.now.sent.now net.limits.now.held.now c.args.messages.now _ c.args.place c.requires.in_range at.1 at.0 c.carried.ensures c.receive.ensures.outcome)).1

pub returns-clause-prepared : goal.returns-clause-prepared
returns-clause-prepared c =
    prepared-received (state_of c.args.net.now []) _ _ _ (record { tables = c.need.ensures.tables; chained = c.requires.prepared.chained }) c.receive.ensures.outcome
