use Prim.Native.Nat.{◌<◌}
use borrow.Author.Rules.{rules}
use mathlib.Core.Path.{ap}
use lib.ListN.{length}
use Rattle.agreement.specs.Record.{fresh_record}
use Rattle.agreement.specs.declared.EndRecord.{EndRecord}
use Rattle.agreement.proofs.Basics.{get_d_default}
use Rattle.agreement.proofs.ports.is_holding.Goals as goal

pub returns : goal.returns
returns c =
    let h : c.args.end < length c.args.records.now = search rules in
    ap (λ (z : EndRecord). z.holding) (get_d_default c.args.records.now c.args.end _ fresh_record h)
