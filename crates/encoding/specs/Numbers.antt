-- Records, agreements, flags and ports as numbers in lists. Views have 8 bits and other numbers 16; any number but 0 stands for true.
-- A list holds a record or an agreement where each number fits its field, and there the remainders change nothing. Assumes nothing.
use Rattle.std.specs.Prelude.{ℕ, zero, suc, ◌+◌, ◌*◌, ◌%◌, Bool, cond, ◌&&◌, not, List, [], ◌∷◌, ◌++◌, length, get_or, eqb, leb, ltb, None, Some}
use Rattle.distances.specs.View.{NONE}
use Rattle.distances.specs.Call.{all_below}
use Rattle.agreement.specs.declared.EndRecord.{EndRecord}
use Rattle.agreement.specs.declared.Agreement.{Agreement}
use Rattle.agreement.specs.Forwarding.{Port}

-- does a number stand for true
abbrev pub is_set : ℕ → Bool
is_set x = not (eqb x 0)

-- the record in the four numbers from place k on
unfoldable pub record_at : List ℕ → ℕ → EndRecord
record_at xs k =
    record {
      received = get_or xs k 0 % 65536;
      view = get_or xs (k + 1) 0 % 256;
      discarded = get_or xs (k + 2) 0 % 65536;
      holding = is_set (get_or xs (k + 3) 0);
    }

-- do they fit their fields
unfoldable pub record_fits : List ℕ → ℕ → Bool
record_fits xs k = ltb (get_or xs k 0) 65536 && (ltb (get_or xs (k + 1) 0) 256 && ltb (get_or xs (k + 2) 0) 65536)

-- does the list begin with a record
abbrev pub holds_record : List ℕ → Bool
holds_record xs = leb 4 (length xs) && record_fits xs 0

-- the agreement in the first three numbers
unfoldable pub agreement_in : List ℕ → Agreement
agreement_in xs = record { view = get_or xs 0 0 % 256; number = get_or xs 1 0 % 65536; discarded = get_or xs 2 0 % 65536 }

-- does the list begin with an agreement
abbrev pub holds_agreement : List ℕ → Bool
holds_agreement xs = leb 3 (length xs) && (ltb (get_or xs 0 0) 256 && (ltb (get_or xs 1 0) 65536 && ltb (get_or xs 2 0) 65536))

-- f of each number below n
unfoldable pub tabulated : {A : Type 0} → ℕ → (ℕ → A) → List A
tabulated zero f = []
tabulated (suc n) f = tabulated n f ++ (f n ∷ [])

-- the records of 64 ends, four numbers each, and a flag for each
abbrev pub records_in : List ℕ → List EndRecord
records_in xs = tabulated 64 (λ e. record_at xs (4 * e))

abbrev pub flags_in : List ℕ → List Bool
flags_in xs = tabulated 64 (λ e. is_set (get_or xs e 0))

-- does the list begin with 64 records
abbrev pub holds_records : List ℕ → Bool
holds_records xs = leb 256 (length xs) && all_below 64 (λ e. record_fits xs (4 * e))

-- the numbers of each
abbrev pub record_numbers : EndRecord → List ℕ
record_numbers r = r.received ∷ r.view ∷ r.discarded ∷ cond r.holding 1 0 ∷ []

abbrev pub agreement_numbers : Agreement → List ℕ
agreement_numbers m = m.view ∷ m.number ∷ m.discarded ∷ []

-- the link, NONE where the port is closed
abbrev pub link_number : Port → ℕ
link_number None = NONE
link_number (Some link) = link

abbrev pub port_numbers : Port → List ℕ
port_numbers port = link_number port ∷ []
