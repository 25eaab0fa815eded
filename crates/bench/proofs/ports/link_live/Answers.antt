-- `ports::link_live` meets its contract. Assumes nothing.
use Rattle.agreement.specs.Forwarding.{is_up}
use Rattle.protocol.specs.Ports.{is_live}
use Rattle.bench.proofs.ports.link_live.Goals as goal

pub returns-then-not-bench-link : goal.returns-then-not-bench-link
unfolding is_live is_up
returns-then-not-bench-link c = λ records sent held. rw c.if-not-bench-link.true

pub returns-else-not-bench-link : goal.returns-else-not-bench-link
unfolding is_live is_up
returns-else-not-bench-link c = λ records sent held. rw c.if-not-bench-link.false
