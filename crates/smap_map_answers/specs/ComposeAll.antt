-- What `compose` prints of a map file and the files of the maps of several of its sources: the pairs of a source's name and of a
-- path are words of the command line, and then lines of a list.
use Rattle.std.specs.Prelude.{◌≡◌, ◌⊎◌, ℕ, ◌+◌, Bool, false, List, [], ◌∷◌, ◌++◌, Option, Some, None, Result, Ok, Err, MatchBool, MatchOption, is_some, map, option_and_then, option_map, string_bytes}
use Rattle.std.specs.List.{list_any}
use Rattle.std.specs.Option.{option_map_or}
use Rattle.std.specs.Str.{bytes_eq}
use Rattle.std.specs.Str.Lines.{lines}
use Rattle.smap_codes.specs.Codes.{text_of}
use Rattle.smap_codes.specs.declared.code.Code.TheVariants.{A2, C4}
use Rattle.smap_command.specs.Limits.{usual_interval}
use Rattle.smap_command.specs.declared.asked.ComposeAll.{ComposeAll}
use Rattle.smap_command.specs.declared.options.WriteOptions.{WriteOptions}
use Rattle.smap_compose.specs.Composition.{all_composed}
use Rattle.smap_locations.specs.ByText.{IsWith, value_under}
use Rattle.smap_locations.specs.Named.{Named}
use Rattle.smap_record.specs.Record.{MapRecord}
use Rattle.smap_record.specs.Sources.{StatedSource}
use Rattle.smap_record.specs.Written.{text_of_source}
use Rattle.smap_record.specs.declared.refusal.MapRefusal.{MapRefusal}
use Rattle.smap_record.specs.declared.refusal.MapRefusal.TheVariants.{Url}
use Rattle.smap_record.specs.FileText.{without_mark}
use Rattle.smap_locations.specs.ListLine.{line_entry}
use Rattle.smap_locations.specs.declared.refusal.ListFault.{ListFault}
use Rattle.smap_locations.specs.declared.refusal.ListFault.TheVariants.{Twice}
use Rattle.smap_map_answers.specs.Compose.{compose_refusal_result}
use Rattle.smap_replies.specs.Files.{MayRead, IsUnread}
use Rattle.smap_replies.specs.Lines.{argument_refused_line}
use Rattle.smap_map_answers.specs.ComposedLines.{no_source_named_text}
use Rattle.smap_replies.specs.Map.{Never, ReportsMap, refusal_result, refused_file}
use Rattle.smap_replies.specs.Outcome.{OrMemory, Report, misuse, out_of_memory, refusal}
use Rattle.smap_replies.specs.Lists.{list_bytes_refusal, list_refusal}
use Rattle.smap_replies.specs.Arguments.{argument_of, argument_text}
use Rattle.smap_replies.specs.Standing.{record_standing}
use Rattle.smap_replies.specs.Standing.StandingSeen.{at_url}
use Rattle.smap_map_answers.specs.WithId.{IsStatedWithId}
use Rattle.smap_map_answers.specs.Written.{written_result}
use Rattle.smap_io.specs.Device.{SinkSeen}
use Rattle.smap_map_answers.specs.Warning.{IsWarned, warnings}

-- ---- which sources have an inner map

-- a source's name prints so
abbrev pub is_called : (name : List ℕ) → StatedSource → Bool
is_called name source = option_map_or (bytes_eq name) (text_of_source source) false

-- what comes next goes on from what there is, or says what is reported already
abbrev pub OrRefused : {A B : Type 0} → Result A Report → (A → Result B Report → Type 0) → Result B Report → Type 0
OrRefused (Err reported) Goes result = result ≡ Err reported
OrRefused (Ok it) Goes result = Goes it result

-- a path goes under a name that has none yet, where a source of the outer map has that name
abbrev pub NamesFirst : List StatedSource → (old : Named) → (name path : List ℕ) → Result Named Report → Type 0
NamesFirst sources old name path result =
    MatchBool (list_any (is_called name) sources) ((new : Named) × IsWith old name path new × (result ≡ Ok new))
    (result ≡ Err (refusal (Some C4) (no_source_named_text sources name)))

-- the same of any name, unless memory runs out. What is said of the second path of a name depends on where it stands
abbrev pub NamesPair : List StatedSource → (twice : Report) → (old : Named) → (name path : List ℕ) → Result Named Report → Type 0
NamesPair sources twice old name path result =
    (result ≡ Err out_of_memory)
    ⊎ MatchBool (is_some (value_under name old)) (result ≡ Err twice) (NamesFirst sources old name path result)

-- the words of the command line, one after another, up to the first that is refused
abbrev pub NamesWords : List StatedSource → List (List ℕ × List ℕ) → (old : Named) → Result Named Report → Type 0
NamesWords sources [] old result = result ≡ Ok old
NamesWords sources ((name, path) ∷ words) old result =
    (next : Result Named Report) × NamesPair sources (misuse (argument_refused_line (argument_text name path) (text_of A2))) old name path next
    × OrRefused next (NamesWords sources words) result

-- a line of a list, whose number counts from 1, by what it says
abbrev pub NamesEntry : List StatedSource → (list : List ℕ) (number : ℕ) → Result (Option (List ℕ × List ℕ)) ListFault → (old : Named)
    → Result Named Report → Type 0
NamesEntry sources list number (Err fault) old result =
    (result ≡ Err out_of_memory) ⊎ (result ≡ Err (list_refusal list (record { line = number; fault = fault })))
NamesEntry sources list number (Ok None) old result = result ≡ Ok old
NamesEntry sources list number (Ok (Some (name, path))) old result =
    NamesPair sources (list_refusal list (record { line = number; fault = Twice })) old name path result

-- the lines of a list from this number on
abbrev pub NamesLines : List StatedSource → (list : List ℕ) (number : ℕ) (lines : List (List ℕ)) → (old : Named) → Result Named Report → Type 0
NamesLines sources list number [] old result = result ≡ Ok old
NamesLines sources list number (line ∷ lines) old result =
    (next : Result Named Report) × NamesEntry sources list number (line_entry line) old next
    × OrRefused next (NamesLines sources list (number + 1) lines) result

-- the list at this path, which has these bytes; a byte order mark at its start is no part of its first line
abbrev pub NamesBytes : List StatedSource → (list bytes : List ℕ) → (old : Named) → Result Named Report → Type 0
NamesBytes sources list bytes old result =
    (result ≡ Err out_of_memory)
    ⊎ MatchOption (list_bytes_refusal bytes) (NamesLines sources list 1 (lines (without_mark bytes)) old result)
    (λ code. result ≡ Err (refused_file list code))

-- the list, where there is one, is the file of number 1
abbrev pub NamesList : MayRead → List StatedSource → (list : Option (List ℕ)) → (old : Named) → Result Named Report → Type 0
NamesList Reads sources None old result = result ≡ Ok old
NamesList Reads sources (Some list) old result =
    ((report : Report) × OrMemory (IsUnread Reads 1 list) report × (result ≡ Err report))
    ⊎ ((bytes : List ℕ) × Reads 1 list (Ok bytes) × NamesBytes sources list bytes old result)

-- ---- their maps

-- what a file gives, or why it is refused: a source's URL that is too long refuses it too
abbrev pub GivesFound : (path : List ℕ) → Result MapRecord MapRefusal → Result MapRecord Report → Type 0
GivesFound path (Err refused) result = result ≡ Err (refusal_result path refused)
GivesFound path (Ok stated) result = (result ≡ Err (refusal_result path Url)) ⊎ (result ≡ Ok stated)

-- what the file at this path states, which has the number 2. Its sources are resolved against the name of the source that it
-- is a map of, where that is a URL
abbrev pub ReadsInner : MayRead → (name path : List ℕ) → Result MapRecord Report → Type 0
ReadsInner Reads name path result =
    ((report : Report) × OrMemory (IsUnread Reads 2 path) report × (result ≡ Err report))
    ⊎ ((bytes : List ℕ) × Reads 2 path (Ok bytes)
    × ((result ≡ Err out_of_memory) ⊎ GivesFound path (record_standing (at_url name) usual_interval bytes) result))

abbrev pub with_name : (name : List ℕ) → (path : Option (List ℕ)) → Option (List ℕ × List ℕ)
with_name name None = None
with_name name (Some path) = Some (name, path)

-- the name and the path of a source's map, where it has one
abbrev pub pair_of : Named → StatedSource → Option (List ℕ × List ℕ)
pair_of named source = option_and_then (λ name. with_name name (value_under name named)) (text_of_source source)

-- what the map of a source states, where it has one
abbrev pub ReadsSource : MayRead → Option (List ℕ × List ℕ) → Result (Option MapRecord) Report → Type 0
ReadsSource Reads None result = result ≡ Ok None
ReadsSource Reads (Some (name, path)) result =
    (inner : Result MapRecord Report) × ReadsInner Reads name path inner × OrRefused inner (λ stated result. result ≡ Ok (Some stated)) result

-- the sources from one on, after what those before it have
abbrev pub ReadsInners : MayRead → Named → List StatedSource → (so_far : List (Option MapRecord)) → Result (List (Option MapRecord)) Report → Type 0
ReadsInners Reads named [] so_far result = result ≡ Ok so_far
ReadsInners Reads named (source ∷ sources) so_far result =
    (next : Result (Option MapRecord) Report) × ReadsSource Reads (pair_of named source) next
    × OrRefused next (λ inner. ReadsInners Reads named sources (so_far ++ inner ∷ [])) result

-- ---- all of it

-- the paths that words and a list name
abbrev pub NamesInners : MayRead → List StatedSource → List (List ℕ × List ℕ) → (list : Option (List ℕ)) → Result Named Report → Type 0
NamesInners Reads sources words list result =
    (first : Result Named Report) × NamesWords sources words [] first × OrRefused first (NamesList Reads sources list) result

-- the inner maps of these sources, or what is reported where one is refused
abbrev pub GathersInners : MayRead → List StatedSource → List (List ℕ × List ℕ) → (list : Option (List ℕ))
    → Result (List (Option MapRecord)) Report → Type 0
GathersInners Reads sources words list result =
    (named : Result Named Report) × NamesInners Reads sources words list named
    × OrRefused named (λ named. ReadsInners Reads named sources []) result

-- what is said of an outer map and of those of its sources
abbrev pub inners_result : WriteOptions → (id : Option (List ℕ)) (outer : MapRecord) (inners : List (Option MapRecord)) → Report
inners_result options id outer inners = written_result compose_refusal_result options id (all_composed outer inners)

-- standard error is warned of the maps that do not fit their sources, and what all come to is said
abbrev pub ComposesInners : MayRead → WriteOptions → List (List ℕ × List ℕ) → (list : Option (List ℕ)) → (id : Option (List ℕ)) → (outer : MapRecord)
    → (before after : SinkSeen) → Report → Type 0
ComposesInners Reads options words list id outer before after report =
    (inners : List (Option MapRecord)) × GathersInners Reads outer.sources words list (Ok inners)
    × IsWarned (warnings outer.sources inners) before after
    × OrMemory (λ reported. reported ≡ inners_result options id outer inners) report

-- what is said of an outer map that has this debug id, where it is written, and states this; where an inner map is refused, standard
-- error is warned of nothing
abbrev pub ReportsInners : MayRead → WriteOptions → List (List ℕ × List ℕ) → (list : Option (List ℕ)) → (id : Option (List ℕ)) → (outer : MapRecord)
    → (before after : SinkSeen) → Report → Type 0
ReportsInners Reads options words list id outer before after report =
    ((after ≡ before) × OrMemory (λ reported. GathersInners Reads outer.sources words list (Err reported)) report)
    ⊎ ComposesInners Reads options words list id outer before after report

-- what is said of the outer map, which is read first
abbrev pub ReportsAllComposed : MayRead → ComposeAll → (before after : SinkSeen) → Report → Type 0
ReportsAllComposed Reads asked before after report =
    ((after ≡ before) × OrMemory (ReportsMap Reads 0 (string_bytes asked.outer) asked.base usual_interval Never) report)
    ⊎ ((id : Option (List ℕ)) × (outer : MapRecord)
    × IsStatedWithId Reads 0 (string_bytes asked.outer) asked.base usual_interval asked.options.keep_debug_id id outer
    × ReportsInners Reads asked.options (map argument_of asked.inners.items) (option_map string_bytes asked.list) id outer before after report)
