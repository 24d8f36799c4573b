-- What `lookup --generated` prints: the generated places of an original place. Lines, columns and indices count from 0 here.
use Rattle.std.specs.Prelude.{ℕ, ◌-◌, ◌==◌, ◌&&◌, ◌||◌, List, [], ◌∷◌, ◌++◌, Bool, false, true, Option, None, Some, codes, decimal, drop, filter, flat_map, if◌then◌else◌, length, nat_eq, nat_le, option_and_then, slice_get, slice_index, string_bytes, take}
use Rattle.std.specs.Char.{is_ascii_digit}
use Rattle.std.specs.List.{ends_with, list_all, range_with_len}
use Rattle.std.specs.Option.{option_map_or}
use Rattle.std.specs.Str.{bytes_eq}
use Rattle.smap_codes.specs.Codes.{text_of}
use Rattle.smap_codes.specs.declared.code.Code.TheVariants.{C4}
use Rattle.smap_command.specs.Lines.{line_from}
use Rattle.smap_command.specs.declared.asked.Generated.{Generated}
use Rattle.smap_index.specs.Parts.{joined}
use Rattle.smap_mappings.specs.declared.mapping.Mapping.{Mapping}
use Rattle.smap_originals.specs.Generated.{generated_for, generated_next}
use Rattle.smap_originals.specs.declared.asked.OriginalDirection.{OriginalDirection}
use Rattle.smap_originals.specs.declared.asked.OriginalDirection.TheVariants.{AtOrBefore, AtOrAfter}
use Rattle.smap_printing.specs.Generated.{generated_text}
use Rattle.smap_record.specs.Record.{MapRecord}
use Rattle.smap_record.specs.Sources.{StatedSource}
use Rattle.smap_record.specs.Written.{text_of_source}
use Rattle.smap_replies.specs.Outcome.{Report, answer, refusal}
use Rattle.smap_text.specs.Shown.{shown}

-- ---- the sources that are asked

-- the text is a number in brackets
abbrev pub is_in_brackets : List ℕ → Bool
is_in_brackets text =
    nat_le 3 (length text) && (slice_index text 0 == 0x5B && (slice_index text (length text - 1) == 0x5D
    && list_all is_ascii_digit (take (length text - 2) (drop 1 text))))

-- an index in brackets
abbrev pub bracketed : ℕ → List ℕ
bracketed index = codes "[" ++ (decimal index ++ codes "]")

-- the name is this text, as it stands or as it is printed
abbrev pub is_called : (text name : List ℕ) → Bool
is_called text name = bytes_eq name text || bytes_eq (shown name) text

-- the source of this index is asked by this text: by its index in brackets, or else by its name
abbrev pub is_asked : List StatedSource → (text : List ℕ) → (index : ℕ) → Bool
is_asked sources text index =
    if is_in_brackets text then bytes_eq (bracketed index) text
    else option_map_or (is_called text) (option_and_then text_of_source (slice_get sources index)) false

-- their indices, in order
abbrev pub asked_sources : List StatedSource → (text : List ℕ) → List ℕ
asked_sources sources text = filter (is_asked sources text) (range_with_len 0 (length sources))

-- ---- what is found

-- an original place: a line and, if one is asked, a column, in this direction
abbrev pub direction_of : (after : Bool) → OriginalDirection
direction_of false = AtOrBefore
direction_of true = AtOrAfter

abbrev pub mappings_of : (line : ℕ) → Option ℕ → (after : Bool) → List Mapping → (source : ℕ) → List Mapping
mappings_of line None after list source = generated_for list source line
mappings_of line (Some column) after list source = generated_next (direction_of after) list source line column

-- those of several sources, one after another
abbrev pub mappings_from : (line : ℕ) → Option ℕ → (after : Bool) → List Mapping → (sources : List ℕ) → List Mapping
mappings_from line column after list sources = flat_map (mappings_of line column after list) sources

-- ---- what is said

-- no source is asked by this text
abbrev pub no_source_line : (text : List ℕ) → List ℕ
no_source_line text = line_from (codes "refused: " ∷ text_of C4 ∷ codes " " ∷ shown text ∷ [])

-- one of two names ends with the other
abbrev pub ends_alike : List ℕ → List ℕ → Bool
ends_alike name text = ends_with nat_eq name text || ends_with nat_eq text name

-- the name of a source, where it ends alike
abbrev pub alike_line : (text name : List ℕ) → List ℕ
alike_line text name = if ends_alike name text then line_from (codes "  " ∷ shown name ∷ []) else []

abbrev pub alike_source : List StatedSource → (text : List ℕ) → (index : ℕ) → List ℕ
alike_source sources text index = option_map_or (alike_line text) (option_and_then text_of_source (slice_get sources index)) []

-- those of all sources
abbrev pub alike_lines : List StatedSource → (text : List ℕ) → List ℕ
alike_lines sources text = flat_map (alike_source sources text) (range_with_len 0 (length sources))

-- behind what they are, or that there is none
abbrev pub alike_heading : List ℕ
alike_heading = codes "  the names of sources that end alike:\n"

abbrev pub none_alike_line : List ℕ
none_alike_line = codes "  no name of a source ends alike: smap sources MAP prints all\n"

unfoldable pub alike_text : (lines : List ℕ) → List ℕ
alike_text lines = if length lines == 0 then none_alike_line else alike_heading ++ lines

-- and, where that is asked, the names that end alike
abbrev pub no_source_text : (explain : Bool) → List StatedSource → (text : List ℕ) → List ℕ
no_source_text explain sources text = no_source_line text ++ (if explain then alike_text (alike_lines sources text) else [])

-- of these sources, where there are any
abbrev pub sources_result : Generated → MapRecord → List ℕ → Report
sources_result asked stated sources =
    if length sources == 0 then refusal (Some C4) (no_source_text asked.options.explain stated.sources (string_bytes asked.source))
    else answer (generated_text asked.options.form stated (mappings_from asked.line asked.column asked.after (joined stated.parts) sources))

abbrev pub generated_result : Generated → MapRecord → Report
generated_result asked stated = sources_result asked stated (asked_sources stated.sources (string_bytes asked.source))
