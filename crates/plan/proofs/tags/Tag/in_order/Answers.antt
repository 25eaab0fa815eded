-- A test of the tag is a test of its row.
use Rattle.std.proofs.Common.{sym, ◌∙◌}
use Rattle.plan.specs.Tags.{may_come, in_order}
use Rattle.plan.proofs.tags.Tag.in_order.Goals as goal

pub returns : goal.returns
unfolding in_order
returns c = c.allows.ensures ∙ sym (c.rule.ensures (λ r. may_come r.place c.args.stage))
