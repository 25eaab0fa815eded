-- The numbers of the messages that are lent, five for each. Assumes nothing.
use Prim.Native.Nat.{◌*◌}
use native.Mathlib.Omega.{arith}
use mathlib.Core.Path.{◌≡◌, refl, sym, ◌∙◌, ap}
use mathlib.Core.Bool.{Bool, true, false}
use mathlib.Core.List.{List}
use borrow.Author.Tests.{leb-true, leb-false, le-leb, lt-leb}
use lib.ListN.{length, take, length-take}
use lib.Dec.{leb}
use Rattle.messages.specs.declared.Message.{Message}
use Rattle.messages.specs.Slices.{flight}
use Rattle.messages.proofs.Flight.{numbers-length}

-- 320 of them are 64 messages
pub messages_test : (ms : List Message) → leb 320 (length (flight ms)) ≡ leb 64 (length ms)
messages_test ms = ap (leb 320) (numbers-length (take 64 ms)) ∙ go (leb 64 (length ms)) refl
  where
    go : (b : Bool) → leb 64 (length ms) ≡ b → leb 320 (5 * length (take 64 ms)) ≡ leb 64 (length ms)
    go true e = le-leb 320 _ (omega (arith, leb-true 64 (length ms) e, length-take 64 ms)) ∙ sym e
    go false e = lt-leb 320 _ (omega (arith, leb-false 64 (length ms) e, length-take 64 ms)) ∙ sym e
