-- Known lines, byte for byte: the second report and the last line of the plan in docs/PROTOCOL.md ("A plan in hexadecimal"), the paths of
-- its examples E3 and E4, and the refusal of an input that is too long. Assumes nothing.
use mathlib.Core.List.{[], ◌∷◌}
use mathlib.Core.Path.{◌≡◌, refl}
use Rattle.text.specs.Decimal.{digits}
use Rattle.text.specs.Lines.{or_dash, row_line, row_lines, report_lines, report_text, delivered_text, stops_text, end_text, refused_text}

-- `dest 0`, `0 0 -`, `1 5 0`
pub second-report : report_text 0 2 (0 ∷ 4294967295 ∷ 5 ∷ 0 ∷ []) ≡
    100 ∷ 101 ∷ 115 ∷ 116 ∷ 32 ∷ 48 ∷ 10 ∷ 48 ∷ 32 ∷ 48 ∷ 32 ∷ 45 ∷ 10 ∷ 49 ∷ 32 ∷ 53 ∷ 32 ∷ 48 ∷ 10 ∷ []
unfolding digits or_dash row_line row_lines report_lines report_text
second-report = refl

-- `end 4`
pub four-events : end_text 4 ≡
    101 ∷ 110 ∷ 100 ∷ 32 ∷ 52 ∷ 10 ∷ []
unfolding digits end_text
four-events = refl

-- `path 2 0 delivered 2`
pub delivered-known : delivered_text 2 0 2 ≡
    112 ∷ 97 ∷ 116 ∷ 104 ∷ 32 ∷ 50 ∷ 32 ∷ 48 ∷ 32 ∷ 100 ∷ 101 ∷ 108 ∷ 105 ∷ 118 ∷ 101 ∷ 114 ∷ 101 ∷ 100 ∷ 32 ∷ 50 ∷ 10 ∷ []
unfolding digits delivered_text
delivered-known = refl

-- `path 2 0 stops 1 1`
pub stops : stops_text 2 0 1 1 ≡
    112 ∷ 97 ∷ 116 ∷ 104 ∷ 32 ∷ 50 ∷ 32 ∷ 48 ∷ 32 ∷ 115 ∷ 116 ∷ 111 ∷ 112 ∷ 115 ∷ 32 ∷ 49 ∷ 32 ∷ 49 ∷ 10 ∷ []
unfolding digits stops_text
stops = refl

-- `refused 18 at 61440`
pub too_long : refused_text 18 61440 ≡
    114 ∷ 101 ∷ 102 ∷ 117 ∷ 115 ∷ 101 ∷ 100 ∷ 32 ∷ 49 ∷ 56 ∷ 32 ∷ 97 ∷ 116 ∷ 32 ∷ 54 ∷ 49 ∷ 52 ∷ 52 ∷ 48 ∷ 10 ∷ []
unfolding digits refused_text
too_long = refl
