-- What `compose` warns of: a map that may be that of another file than the source with which it is composed (this project's own).
use Rattle.std.specs.Prelude.{◌≡◌, ℕ, ◌==◌, Bool, MatchBool, false, not, List, [], ◌∷◌, Option, Some, None, codes, if◌then◌else◌, length, map, option_and_then, slice_get}
use Rattle.std.specs.List.{concat, range_with_len}
use Rattle.std.specs.Option.{option_map_or}
use Rattle.smap_command.specs.Lines.{line_from}
use Rattle.smap_fit.specs.Fit.{fit_in, fits}
use Rattle.smap_index.specs.Parts.{joined}
use Rattle.smap_io.specs.Device.{SinkSeen}
use Rattle.smap_record.specs.Record.{MapRecord}
use Rattle.smap_record.specs.Sources.{StatedSource}
use Rattle.smap_record.specs.Written.{text_of_source}
use Rattle.smap_replies.specs.Streams.{IsReportedTo}
use Rattle.smap_text.specs.Shown.{shown}
use Rattle.smap_map_answers.specs.Generated.{bracketed}

-- the content of the source of this number, from 0, where the map has that
abbrev pub content_of : List StatedSource → (i : ℕ) → Option (List ℕ)
content_of sources i = option_and_then (λ (source : StatedSource). source.content) (slice_get sources i)

-- there is a content, and the map does not fit it
abbrev pub is_misfit : (content : Option (List ℕ)) → MapRecord → Bool
is_misfit None inner = false
is_misfit (Some content) inner = not (fits (fit_in content inner.sources (joined inner.parts)))

-- how a source prints: by its name or, where it has none, by its number in brackets
abbrev pub source_text : List StatedSource → (i : ℕ) → List ℕ
source_text sources i = option_map_or shown (option_and_then text_of_source (slice_get sources i)) (bracketed i)

abbrev pub warning_line : (name : List ℕ) → List ℕ
warning_line name = line_from (codes "the inner map does not fit the content that the outer one has of " ∷ name ∷ codes ": swapped?" ∷ [])

-- the warning of the map of this source, where it does not fit
abbrev pub warning_of : List StatedSource → (i : ℕ) → (inner : MapRecord) → List ℕ
warning_of sources i inner = if is_misfit (content_of sources i) inner then warning_line (source_text sources i) else []

-- the map of the source of this number, where it has one, and its warning
abbrev pub inner_at : List (Option MapRecord) → (i : ℕ) → Option MapRecord
inner_at inners i = option_and_then (λ (inner : Option MapRecord). inner) (slice_get inners i)

abbrev pub warning_at : List StatedSource → List (Option MapRecord) → (i : ℕ) → List ℕ
warning_at sources inners i = option_map_or (warning_of sources i) (inner_at inners i) []

-- those of all sources
unfoldable pub warnings : List StatedSource → List (Option MapRecord) → List ℕ
warnings sources inners = concat (map (warning_at sources inners) (range_with_len 0 (length inners)))

-- standard error is warned so, and left alone where there is nothing to warn of
abbrev pub IsWarned : (text : List ℕ) → (before after : SinkSeen) → Type 0
IsWarned text before after = MatchBool (length text == 0) (after ≡ before) (IsReportedTo before after text)
