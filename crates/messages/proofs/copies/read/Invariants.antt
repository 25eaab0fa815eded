-- The loop's invariant of `copies::read`: so many messages are in numbers. Assumes nothing.
use Rattle.std.proofs.Common.{◌≡◌, ◌*◌, take}
use Rattle.messages.specs.Slices.{numbers_in}
use Rattle.messages.proofs.copies.read.Given as goal

abbrev pub invariant-loop-k : goal.invariant-loop-k
invariant-loop-k l = take (5 * l.k) l.numbers ≡ numbers_in (take l.k l.ms)
