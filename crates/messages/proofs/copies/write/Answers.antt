-- `copies::write` meets its contract. Assumes nothing.
use Rattle.std.proofs.Common.{ℕ, ◌+◌, ◌<◌, ◌/◌, List, [], length, get_or, arith, sym, ap, ◌∙◌}
use lib.Seq.{take_all, drop-set-lt}
use Rattle.messages.proofs.Flight.{in-flight, in-place, behind, five-at}
use Rattle.messages.proofs.copies.write.Goals as goal

pub loop-k-preserved : goal.loop-k-preserved
loop-k-preserved c =
    let at = c.loop-k in
    let m = c.from.result in
    let count = c.as_chunks.ensures.front_len in
    let h : at.k < length c.args.ms.now = omega arith in
    let within : at.k < length c.args.numbers.now / 5 = omega arith in
    record {
      in_place = in-place at.ms m at.k c.args.numbers.now (omega arith) at.invariant.in_place
          (c.from.ensures ∙ ap (λ (l : List (List ℕ)). get_or l at.k []) c.as_chunks.ensures.front ∙ five-at (length c.args.numbers.now / 5) at.k c.args.numbers.now within);
      behind = drop-set-lt (at.k + 1) at.ms at.k m (omega arith) ∙ behind at.ms c.args.ms.now at.k (at.k + 1) (omega arith) at.invariant.behind;
    }

pub returns-clause-in_flight : goal.returns-clause-in_flight
returns-clause-in_flight c =
    sym (take_all _ c.args.numbers.now (omega arith)) ∙ sym c.loop-k.invariant.in_place ∙ in-flight c.loop-k.ms c.loop-k.k (omega arith)

pub returns-clause-behind : goal.returns-clause-behind
returns-clause-behind c = behind c.loop-k.ms c.args.ms.now c.loop-k.k 64 (omega arith) c.loop-k.invariant.behind
