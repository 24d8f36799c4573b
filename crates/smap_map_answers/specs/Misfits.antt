-- What `fit --explain` prints of a map that does not fit: where the first mappings stand that do not, and what fits better.
use Rattle.std.specs.Prelude.{ℕ, ◌+◌, ◌==◌, ◌&&◌, Bool, List, [], ◌∷◌, ◌++◌, Option, None, Some, codes, if◌then◌else◌, nat_lt, option_and_then, slice_get}
use Rattle.std.specs.Fmt.{decimal}
use Rattle.std.specs.List.{sum_by}
use Rattle.smap_command.specs.Lines.{line_from}
use Rattle.smap_fit.specs.Lines.{lines_in}
use Rattle.smap_fit.specs.declared.fit.Fit.{Fit}
use Rattle.smap_fit.specs.declared.shift.BestShift.{BestShift}
use Rattle.smap_fit.specs.declared.shift.Move.{Move}
use Rattle.smap_fit.specs.declared.shift.Move.TheVariants.{On, Back}
use Rattle.smap_fit.specs.declared.shift.Shift.{Shift}
use Rattle.smap_mappings.specs.declared.mapping.Mapping.{Mapping}
use Rattle.smap_text.specs.Excerpt.{line_excerpt}
use Rattle.smap_text.specs.Units.{units_of}

-- ---- the first that does not fit

-- a column of a line, or its end where that is before it
abbrev pub column_within : (line : List ℕ) (column : ℕ) → ℕ
column_within line column = if nat_lt (sum_by units_of line) column then sum_by units_of line else column

-- the excerpt of the code's line that shows where the mapping stands, or the line's end where it stands past that
abbrev pub place_excerpt : (text : List ℕ) → Mapping → Option (List ℕ)
place_excerpt text mapping = option_and_then (λ line. line_excerpt line (column_within line mapping.column)) (slice_get (lines_in text) mapping.line)

abbrev pub excerpt_lines : Option (List ℕ) → List ℕ
excerpt_lines None = []
excerpt_lines (Some excerpt) = excerpt ++ 10 ∷ []

abbrev pub place_line : (way : List ℕ) → Mapping → List ℕ
place_line way mapping = line_from (codes "  first " ∷ way ∷ codes ": " ∷ decimal (mapping.line + 1) ∷ codes ":" ∷ decimal (mapping.column + 1) ∷ [])

-- the first mapping that does not fit in this way, and the line about it
abbrev pub first_text : (way text : List ℕ) → Option Mapping → List ℕ
first_text way text None = []
first_text way text (Some mapping) = place_line way mapping ++ excerpt_lines (place_excerpt text mapping)

-- ---- what fits better

abbrev pub distance : Move → ℕ
distance (On by) = by
distance (Back by) = by

abbrev pub plural : ℕ → List ℕ
plural number = if number == 1 then [] else codes "s"

-- so many lines or columns on, or back
abbrev pub move_text : (noun on back : List ℕ) → Move → List ℕ
move_text noun on back (On by) = decimal by ++ (noun ++ (plural by ++ on))
move_text noun on back (Back by) = decimal by ++ (noun ++ (plural by ++ back))

abbrev pub lines_text : Move → List ℕ
lines_text move = move_text (codes " line") (codes " down") (codes " up") move

abbrev pub columns_text : Move → List ℕ
columns_text move = move_text (codes " column") (codes " right") (codes " left") move

abbrev pub shift_text : Shift → List ℕ
shift_text shift =
    if distance shift.columns == 0 then lines_text shift.lines
    else (if distance shift.lines == 0 then columns_text shift.columns else lines_text shift.lines ++ (codes ", " ++ columns_text shift.columns))

-- what usually causes it
abbrev pub lines_cause : Move → List ℕ
lines_cause (On by) = codes "lines that the build did not write, such as a banner, may stand at the top of the text"
lines_cause (Back by) = codes "lines may have been taken from the top of the text"

abbrev pub columns_cause : Move → List ℕ
columns_cause (On by) = codes "other text, such as a wrapper, may stand before the lines"
columns_cause (Back by) = codes "the columns of the map may count from 1"

abbrev pub cause_of : Shift → List ℕ
cause_of shift = if distance shift.columns == 0 then lines_cause shift.lines else columns_cause shift.columns

-- it is told where all fit that are moved so
abbrev pub best_cause : BestShift → List ℕ
best_cause best = if best.misfits == 0 then cause_of best.shift else codes "it may be the map of another file, or of another build"

-- no line or column is moved
abbrev pub is_still : Shift → Bool
is_still shift = distance shift.lines == 0 && distance shift.columns == 0

-- the shift that leaves fewest misfits, if there is one
abbrev pub better_text : BestShift → List ℕ
better_text best =
    if is_still best.shift then codes "  no shift of all mappings fits better: it may be the map of another file, or of another build\n"
    else line_from (codes "  moved " ∷ shift_text best.shift ∷ codes ", " ∷ decimal best.misfits ∷ codes " do not fit: " ∷ best_cause best ∷ [])

-- ---- all of it

abbrev pub misfits_text : (text : List ℕ) → Fit → BestShift → List ℕ
misfits_text text fit best =
    first_text (codes "past the text") text fit.first_past ++ (first_text (codes "inside a word") text fit.first_inside ++ better_text best)
