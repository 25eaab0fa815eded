use mathlib.Core.Path.{sym, ◌∙◌}
use Rattle.agreement.proofs.Entry.{view-ready}
use Rattle.agreement.proofs.ready.view_in_range.Goals as goal

pub returns-clause-ready : goal.returns-clause-ready
returns-clause-ready c t = view-ready _ (sym c.in_range.ensures ∙ t)
