-- The loop's invariant of `copies::write`: so many messages are in their places, and those behind them are as they were. Assumes nothing.
use Rattle.std.proofs.Common.{◌≡◌, ◌*◌, take, drop}
use Rattle.messages.specs.Slices.{numbers_in}
use Rattle.messages.proofs.copies.write.Given as goal

abbrev pub invariant-loop-k : goal.invariant-loop-k
invariant-loop-k l = record { in_place : numbers_in (take l.k l.ms) ≡ take (5 * l.k) l.numbers; behind : drop l.k l.ms ≡ drop l.k l.initial.ms }
