-- `benches::flags_in` meets its contract: one flag more.
use native.Mathlib.Omega.{arith}
use mathlib.Core.Path.{refl}
use borrow.Author.Rules.{rules}
use Rattle.encoding.proofs.Lists.{filled-none, filled-more, filled-all}
use Rattle.exports_network.proofs.benches.flags_in.Goals as goal

pub loop-e-init : goal.loop-e-init
loop-e-init c = filled-none _ 64 _ refl

pub loop-e-preserved : goal.loop-e-preserved
loop-e-preserved c = filled-more _ _ 64 _ _ c.loop-e-test.true c.loop-e.invariant (search rules)

pub returns : goal.returns
returns c = filled-all _ 64 _ _ (omega arith) c.loop-e.invariant
