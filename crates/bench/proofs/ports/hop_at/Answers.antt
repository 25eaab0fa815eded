-- `ports::hop_at` meets its contract: no port, a link that is down at an end, or the bridge across. Assumes nothing.
use native.Mathlib.Omega.{arith}
use mathlib.Core.Path.{sym, ap, ◌∙◌}
use Rattle.agreement.specs.Forwarding.{port_of}
use Rattle.protocol.specs.Ports.{hop_by}
use Rattle.bench.specs.Private.Answers.{hop_in}
use Rattle.bench.proofs.PathSteps.{open-link}
use Rattle.bench.proofs.ports.hop_at.Goals as goal

pub returns-in_default-clause-hop : goal.returns-in_default-clause-hop
unfolding hop_by hop_in
returns-in_default-clause-hop c = rw (ap port_of (sym c.verdict_in-verdict.ensures.value) ∙ sym c.port_of.ensures, c.in_default.is)

pub link_live-requires : goal.link_live-requires
link_live-requires c = omega (arith, c.requires.ports_ready.ready.few_links, open-link _ c.args.bridge c.args.dest _ (ap port_of (sym c.verdict_in-verdict.ensures.value) ∙ sym c.port_of.ensures ∙ c.in-Some.is))

pub returns-then-not-link_live-clause-hop : goal.returns-then-not-link_live-clause-hop
unfolding hop_by hop_in
returns-then-not-link_live-clause-hop c =
    let net = c.args.net.now in
    rw (
      ap port_of (sym c.verdict_in-verdict.ensures.value) ∙ sym c.port_of.ensures,
      c.in-Some.is,
      sym (c.link_live.ensures net.bench.now.records net.limits.sent.now net.limits.held.now) ∙ c.if-not-link_live.true,
    )

pub across_link-requires : goal.across_link-requires
across_link-requires c = omega (arith, c.requires.ports_ready.ready.few_links, open-link _ c.args.bridge c.args.dest _ (ap port_of (sym c.verdict_in-verdict.ensures.value) ∙ sym c.port_of.ensures ∙ c.in-Some.is))

pub returns-clause-hop : goal.returns-clause-hop
unfolding hop_by hop_in
returns-clause-hop c =
    let net = c.args.net.now in
    rw (
      c.across_link.ensures,
      ap port_of (sym c.verdict_in-verdict.ensures.value) ∙ sym c.port_of.ensures,
      c.in-Some.is,
      sym (c.link_live.ensures net.bench.now.records net.limits.sent.now net.limits.held.now) ∙ c.if-not-link_live.false,
    )
