-- A lent slice of messages as the numbers that the bench's definitions speak of. Assumes nothing.
use Rattle.std.specs.Prelude.{ℕ, List, [], ◌∷◌, take}
use Rattle.messages.specs.declared.Message.{Message}
use Rattle.bench.specs.Sizes.{most_messages}

-- five numbers for each message: link, direction, view, number, discarded number
unfoldable pub numbers_in : List Message → List ℕ
numbers_in [] = []
numbers_in (m ∷ ms) = m.link ∷ m.direction ∷ m.view ∷ m.number ∷ m.discarded ∷ numbers_in ms

-- what a call reads and writes of a slice: as many of its first messages as may be in flight
abbrev pub flight : List Message → List ℕ
flight ms = numbers_in (take most_messages ms)
