-- The fields of a plan (docs/PROTOCOL.md, "The plan file"): one-byte tag, two-byte length, value; all numbers big-endian. Assumes nothing.
use Rattle.std.specs.Prelude.{ℕ, ◌+◌, ◌*◌, cond, List, get_or, eqb}
use Rattle.plan.specs.Sizes.{header_bytes, cost_bytes}
use Rattle.bench.specs.declared.Event.{Event}
use Rattle.bench.specs.declared.Event.TheVariants.{Update, Send, Deliver, Repeat, Lose, Cut, Restore, Report, Path}
use Rattle.plan.specs.declared.Field.{Field}

-- a byte of the plan, 0 past its end
abbrev pub byte : List ℕ → ℕ → ℕ
byte rest i = get_or rest i 0

-- the field's tag, its length, and the bytes that header and value take
abbrev pub tag : List ℕ → ℕ
tag rest = byte rest 0

abbrev pub value_length : List ℕ → ℕ
value_length rest = 256 * byte rest 1 + byte rest 2

abbrev pub size : List ℕ → ℕ
size rest = header_bytes + value_length rest

-- a byte of its value
abbrev pub value : List ℕ → ℕ → ℕ
value rest i = byte rest (header_bytes + i)

-- the cost of link l in a view's value
unfoldable pub cost_in : List ℕ → ℕ → ℕ
cost_in rest l =
    16777216 * value rest (cost_bytes * l)
    + (65536 * value rest (cost_bytes * l + 1) + (256 * value rest (cost_bytes * l + 2) + value rest (cost_bytes * l + 3)))

-- the event of tags 4 to 12, with its one or two numbers
unfoldable pub event_by : ℕ → ℕ → ℕ → Event
event_by t a b =
    cond (eqb t 4) (Update a b)
    (cond (eqb t 5) (Send a b)
    (cond (eqb t 6) (Deliver a)
    (cond (eqb t 7) (Repeat a)
    (cond (eqb t 8) (Lose a)
    (cond (eqb t 9) (Cut a b) (cond (eqb t 10) (Restore a b) (cond (eqb t 11) (Report a) (Path a b))))))))

-- the field: a setup, or an event with its own data
unfoldable pub field_of : List ℕ → Field
field_of rest =
    cond (eqb (tag rest) 1) (Field.Bridges (value rest 0))
    (cond (eqb (tag rest) 2) (Field.Link (value rest 0) (value rest 1)) (cond (eqb (tag rest) 3) Field.View (Field.Event (event_by (tag rest) (value rest 0) (value rest 1)))))
