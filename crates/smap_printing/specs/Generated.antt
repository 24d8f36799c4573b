-- What is printed of the generated places of an original place: a line each, in the order of the map. Lines and columns count
-- from 1 in what is printed.
use Rattle.std.specs.Prelude.{ℕ, List, ◌==◌, codes, if◌then◌else◌, length}
use Rattle.std.specs.List.{flat_map}
use Rattle.smap_mappings.specs.declared.mapping.Mapping.{Mapping}
use Rattle.smap_record.specs.Record.{MapRecord}
use Rattle.smap_command.specs.Options.{is_json}
use Rattle.smap_command.specs.declared.options.Form.{Form}
use Rattle.smap_printing.specs.Json.{json_line}
use Rattle.smap_printing.specs.Mappings.{line_with, mapping_value, no_mapping_line}

-- a mapping, as text its place and behind `of` its original
abbrev pub generated_line : Form → MapRecord → Mapping → List ℕ
generated_line form stated mapping =
    if is_json form then json_line (mapping_value stated mapping) else line_with (codes " of ") stated mapping

-- these mappings, or that there is none
abbrev pub generated_text : Form → MapRecord → List Mapping → List ℕ
generated_text form stated mappings =
    if length mappings == 0 then no_mapping_line form else flat_map (generated_line form stated) mappings
