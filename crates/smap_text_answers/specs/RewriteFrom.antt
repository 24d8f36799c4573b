-- What `rewrite` does over files and folders of maps that are read when a trace names them: it gathers what it is over, rewrites
-- the text over a store of maps, and says what that came to. The status is the greatest of all that was reported.
use Rattle.std.specs.Prelude.{◌≡◌, ◌⊎◌, ℕ, ◌+◌, ◌==◌, Bool, List, [], ◌∷◌, Option, Result, Ok, Err, MatchBool, codes, length, max}
use Rattle.std.specs.Prelude.{◌++◌, ◌&&◌, ◌||◌, false, true, if◌then◌else◌, nat_lt, not}
use Rattle.std.specs.Fmt.{decimal}
use Rattle.std.specs.List.{concat}
use Rattle.url.specs.Parts.{Parts}
use Rattle.smap_io.specs.Device.{SinkSeen, SourceSeen}
use Rattle.smap_lines.specs.Editing.{DevicesSeen, devices_seen}
use Rattle.smap_lines.specs.RunEnds.{RunEnds}
use Rattle.smap_lines.specs.declared.fault.LineFault.{LineFault}
use Rattle.smap_anywhere.specs.Anywhere.{PlacesAsked, RewritesAnywhereFront}
use Rattle.smap_anywhere.specs.AnywhereBy.{RewritesAnywhereBy}
use Rattle.smap_anywhere.specs.ChunkParts.{parts_in, unknown_in}
use Rattle.smap_anywhere.specs.Counted.{counted_in}
use Rattle.smap_anywhere.specs.MapUrls.{urls_known}
use Rattle.smap_anywhere.specs.NamedParts.{parts_by}
use Rattle.smap_anywhere.specs.Parts.{Part}
use Rattle.smap_anywhere.specs.Replaced.{by_maps}
use Rattle.smap_anywhere.specs.SeemingUrls.{urls_seeming}
use Rattle.smap_pairs.specs.Known.{UrlsKnown}
use Rattle.smap_record.specs.Record.{MapRecord}
use Rattle.smap_store.specs.Program.{program_of}
use Rattle.smap_store.specs.Stored.{FindsIn, GivesIn, LoadsMay, LoadsStep, StoredSeen, found_in}
use Rattle.smap_trace.specs.Hiding.{HidingSeen}
use Rattle.smap_trace.specs.MapsOf.{MapsByUrl, RewritesBy}
use Rattle.smap_trace.specs.Noted.{nothing_noted}
use Rattle.smap_trace.specs.Passed.{PlaceCount}
use Rattle.smap_trace.specs.UrlNotes.{NotesSeen}
use Rattle.smap_text_answers.specs.Dotted.{TellsPatterns, with_errors}
use Rattle.smap_text_answers.specs.Fitting.{Compares}
use Rattle.smap_text_answers.specs.Lines.{counted_text}
use Rattle.smap_text_answers.specs.Names.{Programs}
use Rattle.smap_text_answers.specs.Told.{TellsLines, ToldSeen, nothing_told, told_seen}
use Rattle.smap_text_answers.specs.Naming.{RewritesNames, RewritesNamesFront}
use Rattle.smap_text_answers.specs.Places.{RewritesPlacesOver}
use Rattle.smap_text_answers.specs.Required.{Requires}
use Rattle.smap_text_answers.specs.NothingLine.{nothing_line}
use Rattle.smap_text_answers.specs.UrlLines.{TellsUrls}
use Rattle.smap_trace.specs.Rewriting.{Looked, RewriteAsked, RewritesFrontOver, RewritesOver}
use Rattle.smap_trace.specs.declared.outcome.RewriteCounts.{RewriteCounts}
use Rattle.smap_replies.specs.Files.{MayCause, MayRead}
use Rattle.smap_command.specs.Lines.{line_from}
use Rattle.smap_replies.specs.Lines.{memory_line}
use Rattle.smap_replies.specs.Outcome.{Report}
use Rattle.smap_text_answers.specs.SameBytes.{AreSettled, BytesByPath, ReadsSame, maps_at, stored_maps}
use Rattle.smap_text_answers.specs.Sources.{GathersSources}
use Rattle.smap_replies.specs.Streams.{Ends, IsReportedTo, Sinks, Streams, sinks_seen}
use Rattle.smap_text_answers.specs.Request.{RequestSeen, fit_number, most_passed}
use Rattle.smap_text_answers.specs.StoreRun.{EndsStore, IsOverStore}
use Rattle.smap_text_answers.specs.declared.storing.StoreEnd.{StoreEnd}
use Rattle.smap_text_answers.specs.declared.sources.MapSources.{MapSources}

-- ---- a text over a store

-- which URLs an argument or a list has
abbrev pub urls_of : MapSources → UrlsKnown
urls_of sources = urls_known (record { table = sources.exact; locations = sources.locations })

-- what is asked of its places: which they are, with the functions of frames or without, and which URLs look like one and have no map
abbrev pub places_by : (is_named : Bool) → UrlsKnown → RequestSeen → PlacesAsked
places_by is_named known request = record {
  parts = parts_by is_named known;
  unknown = unknown_in known urls_seeming;
  most_bytes = request.limit_bytes;
  is_noted = request.explain;
}

abbrev pub places_asked : (is_named : Bool) → RequestSeen → MapSources → PlacesAsked
places_asked is_named request sources = places_by is_named (urls_of sources) request

-- what is asked of its frames: of its other lines the places are counted up to a number
abbrev pub asked_by : RequestSeen → PlaceCount → RewriteAsked
asked_by request count = record {
  hide = request.hide;
  most = request.limit_bytes;
  is_noted = request.explain;
  count = count;
  most_passed = most_passed request;
}

abbrev pub asked_of : RequestSeen → MapSources → RewriteAsked
asked_of request sources = asked_by request (counted_in (urls_of sources) request.arguments)

-- where the programs are that its maps are of
abbrev pub programs_of : RequestSeen → MapSources → Programs
programs_of request sources = record { number = length request.arguments + 2; arguments = request.arguments; locations = sources.locations }

-- a text is rewritten over stored maps: its places, or the frames of a trace, with the written names of functions where that is asked;
-- and these are the notes of what it names, and what is told of names
abbrev pub RewritesText : {L : Type 0} → MayRead → RequestSeen → MapSources → (Finds : StoredSeen L → (url : List ℕ) → StoredSeen L → Type 0)
    → (before after : DevicesSeen) → (old new : StoredSeen L) → RewriteCounts → (notes others : NotesSeen) → (told : ToldSeen) → Type 0
RewritesText Reads request sources Finds before after old new counts notes others told =
    MatchBool request.names
    (RewritesNames Reads (programs_of request sources) request.names_bytes request.anywhere (places_asked true request sources) (asked_of request sources) Finds
    before after old new counts notes others told)
    (MatchBool request.anywhere (RewritesPlacesOver by_maps Finds found_in (places_asked false request sources) before after old new counts notes others)
    (RewritesOver Finds found_in (asked_of request sources) before after old new counts notes × (others ≡ nothing_noted)) × (told ≡ nothing_told))

-- or up to a fault
abbrev pub RewritesTextFront : MayRead → RequestSeen → MapSources → (Gives : (url : List ℕ) → Option MapRecord → Type 0) → (before after : DevicesSeen) → LineFault
    → Type 0
RewritesTextFront Reads request sources Gives before after fault =
    MatchBool request.names
    (RewritesNamesFront Reads (programs_of request sources) request.names_bytes request.anywhere (places_asked true request sources) (asked_of request sources) Gives
    (program_of sources.exact sources.locations) before after fault)
    (MatchBool request.anywhere (RewritesAnywhereFront Gives (places_asked false request sources) before after fault)
    (RewritesFrontOver Gives request.hide request.limit_bytes before after fault))

-- how a run over a store of maps that are loaded so ends, and how the store stands then
pub record EndsText {R W L : Type 0} (input_seen : R → SourceSeen) (output_seen : W → SinkSeen) (Reads : MayRead) (Loads : LoadsStep L) (May : LoadsMay L)
    (request : RequestSeen) (sources : MapSources) (input_old input_new : R) (output_old output_new : W) (old new : StoredSeen L) (notes others : NotesSeen)
    (told : ToldSeen) (result : Result RewriteCounts LineFault) : Type 0 where
  pub ends : RunEnds input_seen output_seen input_old input_new output_old output_new
      (λ before after counts. RewritesText Reads request sources (FindsIn Loads) before after old new counts notes others told)
      (RewritesTextFront Reads request sources (GivesIn May old)) result
  pub looked : Looked (FindsIn Loads) old new

-- what rewriting over a store came to, after this was told of maps that were compared, and what was noted and told of names then
abbrev pub IsTextOverStore : MayRead → MayCause → Option Parts → (k : ℕ) → RequestSeen → MapSources → StoreEnd RewriteCounts → (compared : ToldSeen) → (notes others : NotesSeen) → (told : ToldSeen)
    → (before after : Streams) → Type 0
IsTextOverStore Reads Causes base k request sources end compared notes others told before after =
    IsOverStore (λ Finds before after old new counts. RewritesText Reads request sources Finds before after old new counts notes others told)
    (RewritesTextFront Reads request sources) Reads Causes request.paths base k (length request.arguments + 1) (fit_number request) request.cache_bytes compared sources end
    before after

-- a text becomes what the maps make of it that a function gives: its places, by these parts, or the frames of a trace
abbrev pub RewritesTextBy : (anywhere : Bool) → (maps : MapsByUrl) → (parts : List ℕ → List Part) → (hide : HidingSeen) → (most : ℕ)
    → (before after : DevicesSeen) → RewriteCounts → Type 0
RewritesTextBy anywhere maps parts hide most before after counts =
    MatchBool anywhere (RewritesAnywhereBy maps parts most before after counts.summary) (RewritesBy maps hide most before after counts)

-- where each path gives the same bytes whenever it is read, and nothing was reported of a map, or what fails always fails and no map
-- was lost, a text whose functions keep their names, over maps that are not compared, becomes what the maps make of it that the files have, however few are kept; the URL of a file that can't be read
-- or whose map is refused has none
abbrev pub AnswersByPath : MayRead → Option Parts → (k : ℕ) → RequestSeen → MapSources → StoreEnd RewriteCounts → (before after : Streams) → Type 0
AnswersByPath Reads base k request sources end before after =
    (bytes_at : BytesByPath) → ReadsSame Reads (length request.arguments + 1) bytes_at → request.names ≡ false → request.fit ≡ false
    → (counts : RewriteCounts) → end.result ≡ Ok counts
    → AreSettled Reads (length request.arguments + 1) bytes_at end.status end.lost → end.shortages ≡ 0
    → RewritesTextBy request.anywhere (stored_maps (maps_at request.paths base k bytes_at) sources.exact sources.locations) (parts_in (urls_of sources)) request.hide request.limit_bytes
    (devices_seen before.input before.sinks.output) (devices_seen after.input after.sinks.output) counts

-- ---- what is reported at the end

-- what was in the trace
abbrev pub trace_text : RewriteCounts → List ℕ
trace_text counts = concat (
    codes "lines " ∷ decimal counts.summary.lines
    ∷ codes " frames " ∷ decimal counts.summary.frames
    ∷ codes " mapped " ∷ decimal counts.summary.mapped
    ∷ codes " hidden " ∷ decimal counts.summary.hidden
    ∷ codes " long " ∷ decimal counts.long
    ∷ [])

-- how many maps were read, and how many were not
abbrev pub maps_text : StoreEnd RewriteCounts → List ℕ
maps_text end = concat (
    codes "maps " ∷ decimal end.maps
    ∷ codes " missing " ∷ decimal end.missing
    ∷ codes " refused " ∷ decimal end.refused
    ∷ [])

-- how many places were passed, in lines that are no frames, where not all places are rewritten
abbrev pub passed_text : (anywhere : Bool) → RewriteCounts → List ℕ
passed_text anywhere counts = if anywhere then [] else codes " passed " ++ decimal counts.passed

-- what was done
abbrev pub summary_line : StoreEnd RewriteCounts → (anywhere : Bool) → RewriteCounts → List ℕ
summary_line end anywhere counts = line_from (codes "ok " ∷ trace_text counts ∷ codes " " ∷ maps_text end ∷ passed_text anywhere counts ∷ [])

-- this is reported, or that memory ran out, with this status
abbrev pub ReportsSummary : (line : List ℕ) → (status : ℕ) → (before after : SinkSeen) → Type 0
ReportsSummary line status before after =
    ((status ≡ 0) × IsReportedTo before after line) ⊎ ((status ≡ 3) × IsReportedTo before after memory_line)

-- of a text that was rewritten to its end, what was done is reported, where that is asked; and the status of that
abbrev pub SumsResult : StoreEnd RewriteCounts → (anywhere : Bool) → Result RewriteCounts LineFault → (status : ℕ) → (before after : SinkSeen) → Type 0
SumsResult end anywhere (Ok counts) status before after = ReportsSummary (summary_line end anywhere counts) status before after
SumsResult end anywhere (Err fault) status before after = (status ≡ 0) × (after ≡ before)

abbrev pub SumsUp : StoreEnd RewriteCounts → (summary anywhere : Bool) → (status : ℕ) → (before after : SinkSeen) → Type 0
SumsUp end summary anywhere status before after =
    MatchBool summary (SumsResult end anywhere end.result status before after) ((status ≡ 0) × (after ≡ before))

-- what became of the URLs that were noted is said then, or why there is none, where that is asked; and the status of that
abbrev pub SaysResult : MayRead → Option Parts → (k : ℕ) → RequestSeen → (sources : MapSources) → Result RewriteCounts LineFault → (notes others : NotesSeen)
    → (status : ℕ) → (before after : SinkSeen) → Type 0
SaysResult Reads base k request sources (Ok counts) notes others status before after =
    TellsUrls Reads request.paths base k (length request.arguments + 1) (fit_number request) request.arguments sources.locations request.anywhere
    (nothing_line request.anywhere request.arguments counts) notes others status before after
SaysResult Reads base k request sources (Err fault) notes others status before after = (status ≡ 0) × (after ≡ before)

abbrev pub SaysUrls : MayRead → Option Parts → (k : ℕ) → RequestSeen → (sources : MapSources) → StoreEnd RewriteCounts → (notes others : NotesSeen) → (status : ℕ)
    → (before after : SinkSeen) → Type 0
SaysUrls Reads base k request sources end notes others status before after =
    MatchBool request.explain (SaysResult Reads base k request sources end.result notes others status before after) ((status ≡ 0) × (after ≡ before))

-- ---- what a terminal is told

-- nothing else was said up to this status: no refusal, no summary and no URL
abbrev pub is_silent : RequestSeen → NotesSeen → (status : ℕ) → Bool
is_silent request notes status =
    request.hint && (not request.summary && ((not request.explain || length notes.notes == 0) && status == 0))

-- places were passed over
abbrev pub has_passed : RewriteCounts → Bool
has_passed counts = nat_lt 0 counts.passed

-- nothing of a text that is not empty was replaced or left out, and either it has frames or no place was passed over; what
-- became of its URLs was not said
abbrev pub is_as_it_was : RequestSeen → RewriteCounts → Bool
is_as_it_was request counts =
    not request.explain && ((nat_lt 0 counts.summary.lines && (counts.summary.mapped == 0 && counts.summary.hidden == 0))
    && (nat_lt 0 counts.summary.frames || not (has_passed counts)))

-- what takes the places that were passed over, some of which stand beside frames
abbrev pub passed_line : List ℕ
passed_line = codes "smap rewrite --anywhere takes places anywhere in a line\n"

-- how many frames there were, or places anywhere, and what says why
abbrev pub none_mapped_line : (anywhere : Bool) → RewriteCounts → List ℕ
none_mapped_line anywhere counts =
    line_from (codes "0 of " ∷ decimal counts.summary.frames ∷ counted_text anywhere ∷ codes " mapped; --explain says why" ∷ [])

abbrev pub none_mapped_text : (anywhere : Bool) → RewriteCounts → List ℕ
none_mapped_text anywhere counts = none_mapped_line anywhere counts ++ (if has_passed counts then passed_line else [])

-- this is said, and the status of that
abbrev pub HintsCounts : RequestSeen → RewriteCounts → (status : ℕ) → (before after : SinkSeen) → Type 0
HintsCounts request counts status before after =
    MatchBool (is_as_it_was request counts) (ReportsSummary (none_mapped_text request.anywhere counts) status before after)
    ((status ≡ 0) × MatchBool (has_passed counts) (IsReportedTo before after passed_line) (after ≡ before))

-- of a text that was rewritten to its end
abbrev pub HintsResult : RequestSeen → Result RewriteCounts LineFault → (status : ℕ) → (before after : SinkSeen) → Type 0
HintsResult request (Ok counts) status before after = HintsCounts request counts status before after
HintsResult request (Err fault) status before after = (status ≡ 0) × (after ≡ before)

-- where nothing else was said
abbrev pub Hints : RequestSeen → StoreEnd RewriteCounts → NotesSeen → (said status : ℕ) → (before after : SinkSeen) → Type 0
Hints request end notes said status before after =
    MatchBool (is_silent request notes said) (HintsResult request end.result status before after) ((status ≡ 0) × (after ≡ before))

-- ---- the run

-- over what it gathered, where the maps of words came to this when they were compared
abbrev pub RewritesCompared : MayRead → MayCause → Option Parts → (k : ℕ) → RequestSeen → MapSources → Result ToldSeen Report → (status : ℕ)
    → (before after : Streams) → Type 0
RewritesCompared Reads Causes base k request sources (Err refused) status before after =
    (after.input ≡ before.input) × Ends refused status before.sinks after.sinks
RewritesCompared Reads Causes base k request sources (Ok compared) status before after =
    (end : StoreEnd RewriteCounts) × (notes : NotesSeen) × (others : NotesSeen) × (warned : SinkSeen) × (told : ToldSeen) × (between : Streams) × (stood : Sinks)
    × (listed : SinkSeen) × (fitted : SinkSeen) × (summed : SinkSeen) × (named : SinkSeen) × (refused : Sinks) × (ended : ℕ) × (listing : ℕ) × (fitting : ℕ)
    × (summing : ℕ) × (said : ℕ) × (needed : ℕ) × (reported : ℕ) × (hinted : ℕ)
    × TellsPatterns request.arguments before.sinks.errors warned
    × IsTextOverStore Reads Causes base k request sources end compared notes others told (with_errors warned before) between
    × AnswersByPath Reads base k request sources end (with_errors warned before) between × (after.input ≡ between.input) × EndsStore end request.missing_ok ended between.sinks stood
    × TellsLines told end.result listing stood.errors listed
    × TellsLines (told_seen end.told) end.result fitting listed fitted
    × SumsUp end request.summary request.anywhere summing fitted summed
    × SaysUrls Reads base k request sources end notes others said summed named
    × Requires request end.result needed (sinks_seen stood.output named stood.code) refused
    × (after.sinks.output ≡ refused.output) × (after.sinks.code ≡ refused.code) × Hints request end notes reported hinted refused.errors after.sinks.errors
    × (reported ≡ max (max (max (max (max ended listing) fitting) summing) said) needed) × (status ≡ max reported hinted)

-- the maps of words are compared first, or what was gathered is refused
abbrev pub RewritesSources : MayRead → MayCause → Option Parts → (k : ℕ) → RequestSeen → Result MapSources Report → (status : ℕ)
    → (before after : Streams) → Type 0
RewritesSources Reads Causes base k request (Err refused) status before after = (after.input ≡ before.input) × Ends refused status before.sinks after.sinks
RewritesSources Reads Causes base k request (Ok sources) status before after =
    (compared : Result ToldSeen Report) × Compares Reads (fit_number request) sources.exact request.arguments compared
    × RewritesCompared Reads Causes base k request sources compared status before after

abbrev pub RewritesFrom : MayRead → MayCause → Option Parts → (k : ℕ) → RequestSeen → (status : ℕ) → (before after : Streams) → Type 0
RewritesFrom Reads Causes base k request status before after =
    (gathered : Result MapSources Report) × GathersSources Reads request.paths request.anywhere base k request.arguments request.list gathered
    × RewritesSources Reads Causes base k request gathered status before after
