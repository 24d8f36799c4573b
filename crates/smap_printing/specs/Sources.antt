-- What `sources` prints of a map: each of its sources, and how much of the generated text it makes. Indices count from 0.
use Rattle.std.specs.Prelude.{◌≡◌, ℕ, Bool, true, false, List, [], ◌∷◌, ◌++◌, Option, Some, None, codes, if◌then◌else◌, is_some, length, option_and_then, option_map, slice_get}
use Rattle.std.specs.Fmt.{decimal}
use Rattle.std.specs.List.{flat_map}
use Rattle.serde_json.specs.Data.{Data, Members, boolean, object, no_members, member}
use Rattle.smap_fit.specs.Fit.{fit_in, misfits}
use Rattle.smap_index.specs.Parts.{joined}
use Rattle.smap_record.specs.Record.{MapRecord}
use Rattle.smap_record.specs.Sources.{StatedSource}
use Rattle.smap_record.specs.Written.{is_ignored_where, member_where, text_of_source, value_of_text}
use Rattle.smap_fit.specs.Rows.{IsOrderedRows, rows_of, unmapped_in}
use Rattle.smap_fit.specs.declared.rows.SourceRow.{SourceRow}
use Rattle.smap_printing.specs.Json.{count, json_line}
use Rattle.smap_printing.specs.Lines.{ignored_text}
use Rattle.smap_command.specs.Lines.{line_from}
use Rattle.smap_command.specs.Options.{is_json}
use Rattle.smap_command.specs.declared.options.Form.{Form}
use Rattle.smap_printing.specs.Lookup.{source_text}
use Rattle.smap_command.specs.declared.options.SourceOptions.{SourceOptions}

-- the map has the source's content
abbrev pub has_content : Option StatedSource → Bool
has_content None = false
has_content (Some source) = is_some source.content

-- ---- as text

-- the bytes, where they are known
abbrev pub bytes_text : Option ℕ → List ℕ
bytes_text None = []
bytes_text (Some bytes) = codes " " ++ decimal bytes

abbrev pub no_content_text : (held : Bool) → List ℕ
no_content_text held = if held then [] else codes " no content"

abbrev pub row_line : SourceRow → Option StatedSource → List ℕ
row_line row source = line_from (
    decimal row.source ∷ codes " " ∷ decimal row.segments ∷ bytes_text row.bytes ∷ codes " "
    ∷ source_text (option_and_then text_of_source source) row.source ∷ ignored_text (is_ignored_where source) ∷ no_content_text (has_content source) ∷ [])

-- the bytes that come from no source, and all
abbrev pub totals_lines : (unmapped total : ℕ) → List ℕ
totals_lines unmapped total =
    line_from (codes "unmapped " ∷ decimal unmapped ∷ []) ++ line_from (codes "total " ∷ decimal total ∷ [])

-- ---- as JSON

-- what is said of each source
abbrev pub row_members : SourceRow → Option StatedSource → Members
row_members row source =
    member (codes "content") (boolean (has_content source))
    (member (codes "ignored") (boolean (is_ignored_where source))
    (member (codes "segments") (count row.segments)
    (member (codes "source") (value_of_text (option_and_then text_of_source source))
    (member (codes "sourceIndex") (count row.source) no_members))))

-- and the bytes, where they are known
abbrev pub row_value : SourceRow → Option StatedSource → Data
row_value row source = object (member_where (codes "bytes") (option_map count row.bytes) (row_members row source))

abbrev pub totals_value : (unmapped total : ℕ) → Data
totals_value unmapped total = object (member (codes "total") (count total) (member (codes "unmapped") (count unmapped) no_members))

-- ---- all of it

abbrev pub printed_row : Form → MapRecord → SourceRow → List ℕ
printed_row form stated row =
    if is_json form then json_line (row_value row (slice_get stated.sources row.source)) else row_line row (slice_get stated.sources row.source)

-- nothing where there is no generated text
abbrev pub printed_totals : Form → (unmapped : ℕ) → (generated : Option (List ℕ)) → List ℕ
printed_totals form unmapped None = []
printed_totals form unmapped (Some text) = if is_json form then json_line (totals_value unmapped (length text)) else totals_lines unmapped (length text)

-- how many mappings do not fit a generated text, where that is asked for and there is one
abbrev pub misfits_in : (asked : Bool) → MapRecord → (generated : Option (List ℕ)) → Option ℕ
misfits_in false stated generated = None
misfits_in true stated None = None
misfits_in true stated (Some text) = Some (misfits (fit_in text stated.sources (joined stated.parts)))

abbrev pub misfits_line : ℕ → List ℕ
misfits_line misfits = line_from (codes "misfits " ∷ decimal misfits ∷ [])

abbrev pub misfits_value : ℕ → Data
misfits_value misfits = object (member (codes "misfits") (count misfits) no_members)

abbrev pub printed_misfits : Form → Option ℕ → List ℕ
printed_misfits form None = []
printed_misfits form (Some misfits) = if is_json form then json_line (misfits_value misfits) else misfits_line misfits

-- the text for these rows of a map
abbrev pub rows_text : SourceOptions → MapRecord → (generated : Option (List ℕ)) → List SourceRow → List ℕ
rows_text options stated generated rows =
    flat_map (printed_row options.form stated) rows ++ printed_totals options.form (unmapped_in (joined stated.parts) generated) generated
    ++ printed_misfits options.form (misfits_in options.fit stated generated)

-- what is printed of the sources of a map: by index or, by their bytes, those with the most first
pub record IsSourcesText (options : SourceOptions) (stated : MapRecord) (generated : Option (List ℕ)) (text : List ℕ) : Type 0 where
  pub rows : List SourceRow
  pub ordered : IsOrderedRows options.by_bytes (rows_of (joined stated.parts) generated (length stated.sources)) rows
  pub printed : text ≡ rows_text options stated generated rows
