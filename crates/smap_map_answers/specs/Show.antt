-- What `show` answers: what a map states, written as one regular map.
use Rattle.std.specs.Prelude.{ℕ, List, [], ◌∷◌, Option, if◌then◌else◌}
use Rattle.smap_mappings.specs.Canonical.{canonical_text}
use Rattle.smap_mappings.specs.Encode.{is_text_too_long}
use Rattle.smap_index.specs.Parts.{joined}
use Rattle.smap_record.specs.DebugId.{with_debug_id_of}
use Rattle.smap_record.specs.Record.{MapRecord}
use Rattle.smap_record.specs.Written.{written}
use Rattle.smap_command.specs.Lines.{line_from}
use Rattle.smap_codes.specs.declared.code.Code.TheVariants.{O1}
use Rattle.smap_replies.specs.Outcome.{Report, answer, out_of_memory, refused_by}
use Rattle.smap_command.specs.Limits.{usual_interval}
use Rattle.smap_command.specs.Options.{leaves_out}
use Rattle.smap_map_answers.specs.WithId.{ReportsMapWithId}
use Rattle.smap_map_answers.specs.Written.{written_result}
use Rattle.smap_replies.specs.Files.{MayRead}
use Rattle.smap_replies.specs.Map.{IsResult}
use Rattle.smap_command.specs.declared.options.WriteOptions.{WriteOptions}
use Rattle.smap_compose.specs.Composition.{all_composed}
use Rattle.smap_compose.specs.declared.refusal.ComposeRefusal.{ComposeRefusal}
use Rattle.smap_compose.specs.declared.refusal.ComposeRefusal.TheVariants.{SourceIndex, TooLarge, Memory}
use Rattle.url.specs.Parts.{Parts}

-- the written map, as a line, with a debug id, where one is given
abbrev pub written_line : (id : Option (List ℕ)) → MapRecord → List ℕ
written_line id stated = line_from (
    with_debug_id_of id (written stated.sources stated.names stated.file (canonical_text (joined stated.parts))) ∷ [])

-- the written map, where its mappings text is not too long
abbrev pub show_result : (id : Option (List ℕ)) → MapRecord → Report
show_result id stated =
    if is_text_too_long (joined stated.parts) then refused_by O1 else answer (written_line id stated)

-- ---- without what is left out

-- why such a map is not written
abbrev pub show_refusal_result : ComposeRefusal → Report
show_refusal_result SourceIndex = out_of_memory
show_refusal_result TooLarge = refused_by O1
show_refusal_result Memory = out_of_memory

-- what a map states, composed with no inner map
abbrev pub show_with_result : WriteOptions → (id : Option (List ℕ)) → MapRecord → Report
show_with_result options id stated = written_result show_refusal_result options id (all_composed stated [])

-- ---- by the options

-- what is said of a map: it is written as it stands, where nothing is left out
abbrev pub shown_result : WriteOptions → (id : Option (List ℕ)) → MapRecord → Report
shown_result options id stated = if leaves_out options then show_with_result options id stated else show_result id stated

-- what is said of the file at a path
abbrev pub ReportsShown : MayRead → (path : List ℕ) → Option Parts → WriteOptions → Report → Type 0
ReportsShown Reads path base options =
    ReportsMapWithId Reads 0 path base usual_interval options.keep_debug_id (λ id. IsResult (shown_result options id))
