-- What is printed where no source of the outer map has a name.
use Rattle.std.specs.Prelude.{ℕ, codes, List, [], ◌∷◌, ◌++◌, map, option_and_then, slice_get}
use Rattle.std.specs.List.{concat, range_with_len}
use Rattle.std.specs.Option.{option_map_or}
use Rattle.smap_codes.specs.Codes.{text_of}
use Rattle.smap_codes.specs.declared.code.Code.TheVariants.{C4}
use Rattle.smap_command.specs.Lines.{line_from}
use Rattle.smap_record.specs.Sources.{StatedSource}
use Rattle.smap_record.specs.Written.{text_of_source}
use Rattle.smap_text.specs.Shown.{shown}

-- that no source has this name, and which command prints the names of all
abbrev pub no_source_named_lines : (name : List ℕ) → List ℕ
no_source_named_lines name = line_from (codes "refused: " ∷ text_of C4 ∷ codes " " ∷ shown name
    ∷ codes "\n  the first names of sources, of which smap sources OUTER prints all:" ∷ [])

abbrev pub name_line : (name : List ℕ) → List ℕ
name_line name = line_from (codes "  " ∷ shown name ∷ [])

-- the line for the source of this number, from 0, where there is one and it has a name
abbrev pub name_at : List StatedSource → (i : ℕ) → List ℕ
name_at sources i = option_map_or name_line (option_and_then text_of_source (slice_get sources i)) []

-- those of the first five sources
unfoldable pub first_names : List StatedSource → List ℕ
first_names sources = concat (map (name_at sources) (range_with_len 0 5))

-- no source of the outer map has this name, and these names its first sources have
abbrev pub no_source_named_text : List StatedSource → (name : List ℕ) → List ℕ
no_source_named_text sources name = no_source_named_lines name ++ first_names sources
