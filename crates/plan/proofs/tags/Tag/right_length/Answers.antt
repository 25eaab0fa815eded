-- A test of the tag is a test of its row.
use Rattle.std.proofs.Common.{sym, ◌∙◌}
use Rattle.plan.specs.Tags.{length_fits, right_length}
use Rattle.plan.proofs.tags.Tag.right_length.Goals as goal

pub returns : goal.returns
unfolding right_length
returns c = c.fits.ensures ∙ sym (c.rule.ensures (λ r. length_fits r.length c.args.links c.args.length))
