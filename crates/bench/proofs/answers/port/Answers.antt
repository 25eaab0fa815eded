-- `answers::port` meets its contract: the port that the verdict opens. Assumes nothing.
use mathlib.Core.Path.{sym, ap, ◌∙◌}
use borrow.Author.Rules.{rules}
use Rattle.agreement.specs.Forwarding.{port_of}
use Rattle.agreement.specs.Call.{mapped}
use Rattle.bench.proofs.OutcomeLaws.{port-reply}
use Rattle.bench.proofs.answers.port.Goals as goal

pub returns-in_err-verdict : goal.returns-in_err-verdict
returns-in_err-verdict c =
    λ messages.
    let told = ap (mapped port_of) (c.in_err-verdict.ensures messages) ∙ sym (port-reply _ c.args.bridge c.args.dest) in
    search rules

pub returns : goal.returns
returns c =
    λ messages.
    rw c.port_of.ensures (ap (mapped port_of) (c.in_ok-verdict.ensures messages) ∙ sym (port-reply _ c.args.bridge c.args.dest))
