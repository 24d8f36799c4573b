-- What is printed of the mappings of a map: a line each, in their order. Lines and columns count from 1 in what is printed,
-- indices from 0.
use Rattle.std.specs.Prelude.{ℕ, ◌+◌, ◌==◌, Bool, false, true, List, [], ◌++◌, Option, Some, None, codes, if◌then◌else◌, filter, not, option_and_then, slice_get}
use Rattle.std.specs.Fmt.{decimal}
use Rattle.std.specs.List.{flat_map, list_any}
use Rattle.serde_json.specs.Data.{Data, boolean, string, object, no_members, member}
use Rattle.smap_mappings.specs.declared.mapping.Mapping.{Mapping}
use Rattle.smap_mappings.specs.declared.mapping.Origin.{Origin}
use Rattle.smap_index.specs.Answer.{answer_of}
use Rattle.smap_index.specs.Parts.{joined}
use Rattle.smap_record.specs.DebugId.{id_member}
use Rattle.smap_record.specs.Record.{MapRecord}
use Rattle.smap_record.specs.Sources.{StatedSource}
use Rattle.smap_record.specs.Written.{is_ignored_where}
use Rattle.smap_command.specs.Options.{is_json}
use Rattle.smap_command.specs.declared.options.Form.{Form}
use Rattle.smap_printing.specs.Json.{count, json_line, origin_members}
use Rattle.smap_printing.specs.Lines.{none_line}
use Rattle.smap_printing.specs.Lookup.{answer_line}
use Rattle.smap_command.specs.declared.options.MappingsOptions.{MappingsOptions}

-- ---- a mapping

-- where it stands and, behind this text, the line for what it answers
abbrev pub line_with : (between : List ℕ) → MapRecord → Mapping → List ℕ
line_with between stated mapping =
    decimal (mapping.line + 1) ++ (codes ":" ++ (decimal (mapping.column + 1) ++ (between ++ answer_line stated None (answer_of mapping))))

abbrev pub mapping_line : MapRecord → Mapping → List ℕ
mapping_line stated mapping = line_with (codes " ") stated mapping

-- a mapping of this line and column that has no original
abbrev pub bare_value : (line column : ℕ) → Data
bare_value line column = object (
    member (codes "answer") (string (codes "unmapped"))
    (member (codes "generatedColumn") (count (column + 1))
    (member (codes "generatedLine") (count (line + 1)) no_members)))

-- a mapping of this line and column, and where it comes from
abbrev pub mapped_value : (line column : ℕ) → Origin → Option StatedSource → (name : Option (List ℕ)) → Data
mapped_value line column origin source name = object (
    member (codes "answer") (string (codes "found"))
    (member (codes "generatedColumn") (count (column + 1))
    (member (codes "generatedLine") (count (line + 1))
    (member (codes "ignored") (boolean (is_ignored_where source)) (origin_members origin source name no_members)))))

abbrev pub value_with : MapRecord → (line column : ℕ) → Option Origin → Data
value_with stated line column None = bare_value line column
value_with stated line column (Some origin) =
    mapped_value line column origin (slice_get stated.sources origin.source) (option_and_then (slice_get stated.names) origin.name)

abbrev pub mapping_value : MapRecord → Mapping → Data
mapping_value stated mapping = value_with stated mapping.line mapping.column mapping.origin

-- the line for a mapping, as JSON or as text
abbrev pub printed_mapping : Form → MapRecord → Mapping → List ℕ
printed_mapping form stated mapping = if is_json form then json_line (mapping_value stated mapping) else mapping_line stated mapping

-- ---- all of them

-- the mapping stands on this generated line, from 0, where one is given
abbrev pub is_on_line : (line : Option ℕ) → Mapping → Bool
is_on_line None mapping = true
is_on_line (Some line) mapping = mapping.line == line

-- the lines for those of these mappings that stand on this generated line or, where none is given, for all
abbrev pub printed_mappings : Form → (line : Option ℕ) → MapRecord → List Mapping → List ℕ
printed_mappings form line stated mappings = flat_map (printed_mapping form stated) (filter (is_on_line line) mappings)

-- what is printed of the mappings of a map
unfoldable pub mappings_text : MappingsOptions → MapRecord → List ℕ
mappings_text options stated = printed_mappings options.form options.line stated (joined stated.parts)

-- that there is none, where some are asked for
abbrev pub no_mapping_value : Data
no_mapping_value = object (member (codes "answer") (string (codes "none")) no_members)

abbrev pub no_mapping_line : Form → List ℕ
no_mapping_line form = if is_json form then json_line no_mapping_value else none_line

-- no mapping stands on a generated line, from 0, that is given
abbrev pub is_bare : (line : Option ℕ) → List Mapping → Bool
is_bare None list = false
is_bare (Some line) list = not (list_any (is_on_line (Some line)) list)

-- what is printed of the mappings of a map, or that there is none on the line that is asked for
abbrev pub asked_text : MappingsOptions → MapRecord → List ℕ
asked_text options stated =
    if is_bare options.line (joined stated.parts) then no_mapping_line options.form else mappings_text options stated

-- ---- and a debug id

abbrev pub id_value : (id : List ℕ) → Data
id_value id = object (id_member id)

-- the line for a debug id, where one is told
abbrev pub printed_id : Option (List ℕ) → List ℕ
printed_id None = []
printed_id (Some id) = json_line (id_value id)

-- what is printed of the mappings of a map and, behind them, of a debug id
abbrev pub text_with_id : MappingsOptions → (id : Option (List ℕ)) → MapRecord → List ℕ
text_with_id options id stated = asked_text options stated ++ printed_id id
