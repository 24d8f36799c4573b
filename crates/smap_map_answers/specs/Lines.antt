-- The lines that are printed of a map, and of a text of positions.
use Rattle.std.specs.Prelude.{ℕ, ◌+◌, codes, Option, None, Some, List, [], ◌∷◌}
use Rattle.std.specs.Fmt.{decimal}
use Rattle.smap_codes.specs.Codes.{text_of}
use Rattle.smap_codes.specs.declared.code.Code.TheVariants.{P1}
use Rattle.smap_mappings.specs.declared.fault.Fault.{Fault}
use Rattle.smap_command.specs.Lines.{line_from}
use Rattle.smap_verdicts.specs.Refusal.{fault_text}

abbrev pub name_pieces : (name : Option ℕ) → List (List ℕ)
name_pieces None = []
name_pieces (Some name) = codes " name " ∷ decimal name ∷ []

-- a place in a source; its line and column count from 0, and print from 1
abbrev pub found_line : (source line column : ℕ) (name : Option ℕ) → List ℕ
found_line source line column name = line_from (
    codes "source " ∷ decimal source
    ∷ codes " line " ∷ decimal (line + 1)
    ∷ codes " column " ∷ decimal (column + 1)
    ∷ name_pieces name)

-- a mappings text that is refused for its first fault
abbrev pub refused_line : Fault → List ℕ
refused_line fault = line_from (codes "refused: " ∷ fault_text fault ∷ [])

-- a line of standard input is no position; its number, from 1
abbrev pub bad_position_refused_line : (number : ℕ) → List ℕ
bad_position_refused_line number = line_from (codes "refused: " ∷ text_of P1 ∷ codes " " ∷ decimal number ∷ [])
