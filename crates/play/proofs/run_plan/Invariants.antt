use Rattle.play.proofs.Printing.{Place, text}
use Rattle.runner.specs.Buffers.{buffers_of}
use Rattle.std.proofs.Common.{◌≡◌, ◌-◌, ◌≤◌, length, take, true}
use Rattle.std.specs.Io.KnownBytes.{Appends}
use Rattle.play.proofs.run_plan.Given as goal

abbrev pub invariant-fills : goal.invariant-fills
invariant-fills g l =
    record {
      within : l.at ≤ length l.plan;
      place : Place l.plan true l.at l.printed l.r (buffers_of l.memory l.out);
      wrote : Appends (g.W.Write.contents l.initial.to) (g.W.Write.contents l.to) (take l.printed (text l.plan));
      out : 31264 ≡ length l.out;
    }

abbrev pub decreases-fills : goal.decreases-fills
decreases-fills g l = length l.plan - l.at
