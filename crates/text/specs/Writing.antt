-- What a call writes into the lent bytes: a text from the first byte on, all else as before. Assumes nothing.
use Rattle.std.specs.Prelude.{ℕ, ◌+◌, ◌≡◌, ◌≤◌, Bool, cond, ◌&&◌, List, length, leb, Option, Some, None}
use Rattle.std.proofs.lemmas.List.Edits.{sets}
use Rattle.text.specs.declared.writer.Writer.{Writer}

-- every text has room in so many bytes: 16, and 33 for each of 16 bridges, with ten digits for every number
abbrev pub longest_text : ℕ
longest_text = 544

-- the reply's number in the table of refusals and the count of bytes, and the lent bytes
pub record Outcome : Type 0 where
  pub number : ℕ
  pub count : ℕ
  pub bytes : List ℕ

abbrev pub outcome : Option ℕ → List ℕ → Outcome
outcome None bytes = record { number = 17; count = 0; bytes = bytes }
outcome (Some k) bytes = record { number = 0; count = k; bytes = bytes }

-- a text of at most 544 bytes, refused unless as many are lent
unfoldable pub writing : Bool → List ℕ → List ℕ → Outcome
writing ready text out =
    cond (ready && leb longest_text (length out)) (outcome (Some (length text)) (sets out 0 text)) (outcome None out)

-- something written at a place, by a private function
pub record Put (l : List ℕ) (at : ℕ) (text : List ℕ) (m : List ℕ) (r : ℕ) : Type 0 where
  pub bytes : m ≡ sets l at text
  pub next : r ≡ at + length text

-- the text has room behind what stands there
abbrev pub HasRoom : Writer → List ℕ → Type 0
HasRoom w text = w.len + length text ≤ length w.out.now

-- a text behind what stands there, in the same lent bytes
pub record Writes (w : Writer) (text : List ℕ) (after : Writer) : Type 0 where
  pub put : Put w.out.now w.len text after.out.now after.len
  pub same_length : length after.out.now ≡ length w.out.now
  pub same_reference : after.out.ghost_name ≡ w.out.ghost_name
