-- The lines that several commands print.
use Rattle.std.specs.Prelude.{ℕ, codes, List, [], ◌∷◌}
use Rattle.std.specs.Fmt.{decimal}
use Rattle.smap_codes.specs.Codes.{text_of}
use Rattle.smap_codes.specs.declared.code.Code.{Code}
use Rattle.smap_command.specs.Lines.{line_from}
use Rattle.smap_text.specs.Shown.{shown}

-- a map file that is refused, with the words for the refusal
abbrev pub map_refused_line : (path refusal : List ℕ) → List ℕ
map_refused_line path refusal = line_from (codes "refused: " ∷ shown path ∷ codes ": " ∷ refusal ∷ [])

abbrev pub file_failed_line : (path : List ℕ) → List ℕ
file_failed_line path = line_from (codes "device: read " ∷ shown path ∷ [])

abbrev pub input_failed_line : List ℕ
input_failed_line = line_from (codes "device: read standard input" ∷ [])

abbrev pub output_failed_line : List ℕ
output_failed_line = line_from (codes "device: write" ∷ [])

abbrev pub memory_line : List ℕ
memory_line = line_from (codes "memory" ∷ [])

abbrev pub argument_not_utf8_line : List ℕ
argument_not_utf8_line = line_from (codes "error: a word of the command line is not UTF-8" ∷ [])

-- an argument that is refused, with the reason
abbrev pub argument_refused_line : (word reason : List ℕ) → List ℕ
argument_refused_line word reason = line_from (codes "usage: " ∷ reason ∷ codes ": " ∷ shown word ∷ [])

-- the list at a path, of which the line with this number, from 1, is refused, with the reason
abbrev pub list_refused_line : (path : List ℕ) (number : ℕ) (reason : List ℕ) → List ℕ
list_refused_line path number reason =
    line_from (codes "usage: " ∷ shown path ∷ codes " line " ∷ decimal number ∷ codes ": " ∷ reason ∷ [])

-- the input is refused, and its code says why
abbrev pub code_refused_line : Code → List ℕ
code_refused_line code = line_from (codes "refused: " ∷ text_of code ∷ [])

-- a device failed, and its code says which
abbrev pub code_failed_line : Code → List ℕ
code_failed_line code = line_from (codes "device: " ∷ text_of code ∷ [])
