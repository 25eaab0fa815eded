-- The lines that the program prints for a plan: numbers in decimal, every line ends with a line feed. Assumes nothing.
use Rattle.std.specs.Prelude.{ℕ, zero, suc, ◌+◌, ◌*◌, cond, List, [], ◌∷◌, ◌++◌, get_or, eqb}
use Rattle.text.specs.Decimal.{decimal}

abbrev pub space : List ℕ
space = 32 ∷ []

abbrev pub line_feed : List ℕ
line_feed = 10 ∷ []

-- the number that stands for none
abbrev pub NONE : ℕ
NONE = 4294967295

-- `-` for NONE or no port, else the number
unfoldable pub or_dash : ℕ → List ℕ
or_dash n = cond (eqb n NONE) (45 ∷ []) (decimal n)

-- the words, as bytes
abbrev pub word_dest : List ℕ
word_dest = 100 ∷ 101 ∷ 115 ∷ 116 ∷ 32 ∷ []

abbrev pub word_path : List ℕ
word_path = 112 ∷ 97 ∷ 116 ∷ 104 ∷ 32 ∷ []

abbrev pub word_delivered : List ℕ
word_delivered = 32 ∷ 100 ∷ 101 ∷ 108 ∷ 105 ∷ 118 ∷ 101 ∷ 114 ∷ 101 ∷ 100 ∷ 32 ∷ []

abbrev pub word_stops : List ℕ
word_stops = 32 ∷ 115 ∷ 116 ∷ 111 ∷ 112 ∷ 115 ∷ 32 ∷ []

abbrev pub word_end : List ℕ
word_end = 101 ∷ 110 ∷ 100 ∷ 32 ∷ []

abbrev pub word_refused : List ℕ
word_refused = 114 ∷ 101 ∷ 102 ∷ 117 ∷ 115 ∷ 101 ∷ 100 ∷ 32 ∷ []

abbrev pub word_at : List ℕ
word_at = 32 ∷ 97 ∷ 116 ∷ 32 ∷ []

-- `bridge distance link`
unfoldable pub row_line : ℕ → ℕ → ℕ → List ℕ
row_line bridge distance link = decimal bridge ++ (space ++ (or_dash distance ++ (space ++ (or_dash link ++ line_feed))))

-- the lines of the bridges below k, by the distance and the link of each
unfoldable pub row_lines : (ℕ → ℕ) → (ℕ → ℕ) → ℕ → List ℕ
row_lines distance link zero = []
row_lines distance link (suc y) = row_lines distance link y ++ row_line y (distance y) (link y)

-- `dest D`, then a line for each bridge
unfoldable pub report_lines : ℕ → ℕ → (ℕ → ℕ) → (ℕ → ℕ) → List ℕ
report_lines dest bridges distance link = (word_dest ++ (decimal dest ++ line_feed)) ++ row_lines distance link bridges

-- by lent rows: numbers 2 y and 2 y + 1 are bridge y's distance and link
abbrev pub distance_at : List ℕ → ℕ → ℕ
distance_at rows y = get_or rows (2 * y) 0

abbrev pub link_at : List ℕ → ℕ → ℕ
link_at rows y = get_or rows (2 * y + 1) 0

unfoldable pub report_text : ℕ → ℕ → List ℕ → List ℕ
report_text dest bridges rows = report_lines dest bridges (distance_at rows) (link_at rows)

-- `path S D delivered H`, `path S D stops B H`
unfoldable pub delivered_text : ℕ → ℕ → ℕ → List ℕ
delivered_text start dest hops =
    word_path ++ (decimal start ++ (space ++ (decimal dest ++ (word_delivered ++ (decimal hops ++ line_feed)))))

unfoldable pub stops_text : ℕ → ℕ → ℕ → ℕ → List ℕ
stops_text start dest last hops =
    word_path
    ++ (decimal start ++ (space ++ (decimal dest ++ (word_stops ++ (decimal last ++ (space ++ (decimal hops ++ line_feed)))))))

-- `end E`, `refused R at O`
unfoldable pub end_text : ℕ → List ℕ
end_text events = word_end ++ (decimal events ++ line_feed)

unfoldable pub refused_text : ℕ → ℕ → List ℕ
refused_text number offset = word_refused ++ (decimal number ++ (word_at ++ (decimal offset ++ line_feed)))
