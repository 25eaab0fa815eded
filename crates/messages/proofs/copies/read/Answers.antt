-- `copies::read` meets its contract. Assumes nothing.
use Rattle.std.proofs.Common.{◌<◌, length, arith, sym, ◌∙◌}
use lib.Seq.{take_all}
use Rattle.messages.proofs.Flight.{in-flight, read-one}
use Rattle.messages.proofs.copies.read.Goals as goal

pub loop-k-preserved : goal.loop-k-preserved
loop-k-preserved c =
    let at = c.loop-k in
    let within : at.k < length c.args.ms.now = omega arith in
    read-one c.args.ms.now _ at.k _ at.numbers _ within (omega arith) at.invariant (c.copy_from_slice.ensures.after ∙ c.into-five.ensures)

pub returns : goal.returns
returns c = sym (take_all _ c.loop-k.numbers (omega arith)) ∙ c.loop-k.invariant ∙ in-flight c.args.ms.now c.loop-k.k (omega arith)
