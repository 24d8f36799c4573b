-- What `lookup` prints: as text or as JSON.
use Rattle.std.specs.Prelude.{ℕ, ◌++◌, Bool, false, true, List, if◌then◌else◌}
use Rattle.smap_command.specs.Options.{is_json}
use Rattle.smap_command.specs.declared.options.LookupOptions.{LookupOptions}
use Rattle.smap_index.specs.Answer.{neighbours}
use Rattle.smap_index.specs.Parts.{joined}
use Rattle.smap_record.specs.Record.{MapRecord}
use Rattle.smap_printing.specs.Json.{lookup_json}
use Rattle.smap_printing.specs.Lookup.{lookup_text}
use Rattle.smap_command.specs.declared.options.Direction.{Direction}
use Rattle.smap_verdicts.specs.NearestLines.{nearest_text}

-- which mappings stand nearest to the position
abbrev pub about_text : (line column : ℕ) → MapRecord → List ℕ
about_text line column stated = nearest_text line (neighbours (joined stated.parts) line column)

-- the answer as text and, where that is asked, the mappings nearest to the position
abbrev pub lookup_lines : Direction → (explain : Bool) (line column : ℕ) → MapRecord → List ℕ
lookup_lines direction false line column stated = lookup_text direction line column stated
lookup_lines direction true line column stated = lookup_text direction line column stated ++ about_text line column stated

-- for a generated line and column, from 0
abbrev pub lookup_print : Direction → LookupOptions → (line column : ℕ) → MapRecord → List ℕ
lookup_print direction options line column stated =
    if is_json options.form then lookup_json direction line column stated else lookup_lines direction options.explain line column stated
