-- What `lookup` answers: where a generated place comes from, by the names that the map gives.
use Rattle.std.specs.Prelude.{ℕ, Bool, false, true, List, [], ◌∷◌, ◌++◌, Option, Some, None, codes, option_and_then, slice_get}
use Rattle.std.specs.Fmt.{decimal}
use Rattle.smap_mappings.specs.declared.mapping.Origin.{Origin}
use Rattle.smap_index.specs.declared.answer.Answer.{Answer}
use Rattle.smap_index.specs.declared.answer.Answer.TheVariants.{Nothing, Unmapped, Found}
use Rattle.smap_record.specs.Sources.{StatedSource}
use Rattle.smap_record.specs.Record.{MapRecord, answer_of_map, answer_of_map_from}
use Rattle.smap_record.specs.Written.{is_ignored_where, text_of_source}
use Rattle.smap_text.specs.Excerpt.{excerpt_of}
use Rattle.smap_text.specs.Shown.{shown}
use Rattle.smap_command.specs.Lines.{line_from}
use Rattle.smap_printing.specs.Lines.{function_suffix, place_line}
use Rattle.smap_command.specs.declared.options.Direction.{Direction}
use Rattle.smap_command.specs.declared.options.Direction.TheVariants.{AtOrBefore, AtOrAfter}

-- how a source of this index prints: by its name or, where it has none, by its index in brackets
abbrev pub source_text : (name : Option (List ℕ)) → ℕ → List ℕ
source_text (Some name) i = shown name
source_text None i = codes "[" ++ decimal i ++ codes "]"

-- the line for a place in a source, and for the function that is asked for beside it, where one is
abbrev pub origin_line : MapRecord → (function : Option (List ℕ)) → Origin → List ℕ
origin_line stated function origin =
    let source = slice_get stated.sources origin.source in
    place_line (source_text (option_and_then text_of_source source) origin.source) origin.line origin.column
    (option_and_then (slice_get stated.names) origin.name) (is_ignored_where source) function

-- the line for an answer
abbrev pub answer_line : MapRecord → (function : Option (List ℕ)) → Answer → List ℕ
answer_line stated function Nothing = line_from (codes "none" ∷ function_suffix function ∷ [])
answer_line stated function (Unmapped column) = line_from (codes "unmapped" ∷ function_suffix function ∷ [])
answer_line stated function (Found column origin) = origin_line stated function origin

-- the excerpt of the source's content that shows a place, where there is one
abbrev pub source_excerpt : Option StatedSource → Origin → Option (List ℕ)
source_excerpt source origin =
    option_and_then (λ content. excerpt_of content origin.line origin.column) (option_and_then (λ stated. stated.content) source)

-- the excerpt that shows the place that was found, where there is one
abbrev pub answer_excerpt : MapRecord → Answer → Option (List ℕ)
answer_excerpt stated Nothing = None
answer_excerpt stated (Unmapped column) = None
answer_excerpt stated (Found column origin) = source_excerpt (slice_get stated.sources origin.source) origin

abbrev pub excerpt_lines : Option (List ℕ) → List ℕ
excerpt_lines None = []
excerpt_lines (Some excerpt) = line_from (excerpt ∷ [])

-- what the map answers for a generated line and column, from 0
abbrev pub lookup_answer : Direction → (line column : ℕ) → MapRecord → Answer
lookup_answer AtOrBefore line column stated = answer_of_map stated line column
lookup_answer AtOrAfter line column stated = answer_of_map_from stated line column

-- what is printed for it: a line, and after that of a place its excerpt
abbrev pub lookup_text : Direction → (line column : ℕ) → MapRecord → List ℕ
lookup_text direction line column stated =
    let answer = lookup_answer direction line column stated in
    answer_line stated None answer ++ excerpt_lines (answer_excerpt stated answer)
