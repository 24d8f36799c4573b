-- What `locate` does over files and folders of maps that are read when a line names them: it gathers what it is over, answers the
-- lines over a store of maps, and says what that came to, and what is told of names. The status is the greatest of all that was
-- reported.
use Rattle.std.specs.Prelude.{◌≡◌, ℕ, ◌+◌, ◌-◌, false, List, MatchBool, None, Option, Result, Ok, Err, length, map, max, option_map, string_bytes, unwrap_or}
use Rattle.smap_io.specs.Device.{SinkSeen, SourceSeen}
use Rattle.smap_lines.specs.Editing.{DevicesSeen, EditsFrontInto, EditsInto, devices_seen}
use Rattle.smap_lines.specs.Limits.{most_text_bytes}
use Rattle.smap_lines.specs.RunEnds.{RunEnds}
use Rattle.smap_lines.specs.declared.counts.LineCounts.{LineCounts}
use Rattle.smap_lines.specs.declared.fault.LineFault.{LineFault}
use Rattle.smap_record.specs.Record.{MapRecord}
use Rattle.smap_store.specs.Program.{program_of}
use Rattle.smap_store.specs.Stored.{FindsIn, GivesIn, LoadsMay, LoadsStep, StoredSeen}
use Rattle.smap_text_answers.specs.NamedLocating.{AnswersNames, AnswersNamesFront}
use Rattle.smap_text_answers.specs.Names.{Programs}
use Rattle.smap_text_answers.specs.Request.{bytes_for_names}
use Rattle.smap_trace.specs.Rewriting.{Looked}
use Rattle.smap_text_answers.specs.Dotted.{TellsPatterns, with_errors}
use Rattle.smap_text_answers.specs.AnswersOfFiles.{AnswersAll, AnswersLine}
use Rattle.smap_text_answers.specs.Locating.{BecomesAnswer, LocateStep}
use Rattle.smap_text_answers.specs.declared.storing.StoreEnd.{StoreEnd}
use Rattle.smap_command.specs.Limits.{usual_cache_bytes}
use Rattle.smap_command.specs.declared.asked.Locate.{Locate}
use Rattle.smap_replies.specs.Arguments.{argument_of}
use Rattle.smap_replies.specs.Files.{MayCause, MayRead}
use Rattle.smap_replies.specs.Outcome.{Report}
use Rattle.smap_replies.specs.Streams.{Ends, Sinks, Streams}
use Rattle.smap_text_answers.specs.StoreRun.{EndsStore, IsOverStore}
use Rattle.smap_text_answers.specs.SameBytes.{BytesByPath, ReadsAlike}
use Rattle.smap_text_answers.specs.Sources.{GathersSources}
use Rattle.smap_text_answers.specs.Told.{TellsLines, ToldSeen, nothing_told}
use Rattle.smap_text_answers.specs.declared.sources.MapSources.{MapSources}

-- ---- what is kept

-- how many bytes of files are kept, as maps and, where functions are asked for, a quarter of them as declarations
abbrev pub all_bytes : Locate → ℕ
all_bytes asked = unwrap_or asked.cache_bytes usual_cache_bytes

abbrev pub names_bytes : Locate → ℕ
names_bytes asked = bytes_for_names asked.names (all_bytes asked)

abbrev pub map_bytes : Locate → ℕ
map_bytes asked = all_bytes asked - names_bytes asked

-- ---- over a store of maps

-- where the programs are that the maps are of
abbrev pub located_programs : Locate → MapSources → Programs
located_programs asked sources = record {
  number = length asked.maps.items + 2;
  arguments = map argument_of asked.maps.items;
  locations = sources.locations;
}

-- the lines of a text are answered over stored maps, with the functions beside their places where these are asked for, and this is
-- told of names
abbrev pub LocatesText : {L : Type 0} → MayRead → Locate → MapSources → (Finds : StoredSeen L → (url : List ℕ) → StoredSeen L → Type 0)
    → (before after : DevicesSeen) → (old new : StoredSeen L) → LineCounts → (told : ToldSeen) → Type 0
LocatesText Reads asked sources Finds before after old new counts told =
    MatchBool asked.names
    (AnswersNames Reads (located_programs asked sources) (names_bytes asked) asked.options Finds before after old new counts told)
    (EditsInto (LocateStep Finds asked.options) most_text_bytes before after old new counts × (told ≡ nothing_told))

-- or up to a fault
abbrev pub LocatesTextFront : MayRead → Locate → MapSources → (Gives : (url : List ℕ) → Option MapRecord → Type 0) → (before after : DevicesSeen) → LineFault
    → Type 0
LocatesTextFront Reads asked sources Gives before after fault =
    MatchBool asked.names
    (AnswersNamesFront Reads (located_programs asked sources) (names_bytes asked) asked.options Gives (program_of sources.exact sources.locations)
    before after fault)
    (EditsFrontInto (BecomesAnswer Gives asked.options) most_text_bytes before after fault)

-- how a run over a store of maps that are loaded so ends, and how the store stands then
pub record EndsLocating {R W L : Type 0} (input_seen : R → SourceSeen) (output_seen : W → SinkSeen) (Reads : MayRead) (Loads : LoadsStep L) (May : LoadsMay L)
    (asked : Locate) (sources : MapSources) (input_old input_new : R) (output_old output_new : W) (old new : StoredSeen L) (told : ToldSeen)
    (result : Result LineCounts LineFault) : Type 0 where
  pub ends : RunEnds input_seen output_seen input_old input_new output_old output_new
      (λ before after counts. LocatesText Reads asked sources (FindsIn Loads) before after old new counts told)
      (LocatesTextFront Reads asked sources (GivesIn May old)) result
  pub looked : Looked (FindsIn Loads) old new

-- what answering the lines of a text over a store came to, and what is told of names then
abbrev pub IsLocatedOverStore : MayRead → MayCause → Locate → MapSources → StoreEnd LineCounts → (told : ToldSeen) → (before after : Streams) → Type 0
IsLocatedOverStore Reads Causes asked sources end told before after =
    IsOverStore (λ Finds before after old new counts. LocatesText Reads asked sources Finds before after old new counts told)
    (LocatesTextFront Reads asked sources) Reads Causes asked.paths asked.base asked.interval
    (length asked.maps.items + 1) None (map_bytes asked) nothing_told sources end before after

-- where each path gives the same whenever it is read, each line is answered by what the files have, or by that memory ran out, where no
-- functions are asked for
abbrev pub AnswersByPath : MayRead → Locate → MapSources → StoreEnd LineCounts → (before after : Streams) → Type 0
AnswersByPath Reads asked sources end before after =
    (bytes_at : BytesByPath) → ReadsAlike Reads (length asked.maps.items + 1) bytes_at → asked.names ≡ false
    → (counts : LineCounts) → end.result ≡ Ok counts
    → AnswersAll (AnswersLine asked.paths asked.base asked.interval bytes_at sources.exact sources.locations asked.options)
    (devices_seen before.input before.sinks.output) (devices_seen after.input after.sinks.output)

-- ---- the run

-- over what it gathered, or where that is refused; what is told of names is reported at the end
abbrev pub LocatesOver : MayRead → MayCause → Locate → Result MapSources Report → (status : ℕ) → (before after : Streams) → Type 0
LocatesOver Reads Causes asked (Err refused) status before after = (after.input ≡ before.input) × Ends refused status before.sinks after.sinks
LocatesOver Reads Causes asked (Ok sources) status before after =
    (end : StoreEnd LineCounts) × (warned : SinkSeen) × (told : ToldSeen) × (between : Streams) × (stood : Sinks) × (ended : ℕ) × (listing : ℕ)
    × TellsPatterns (map argument_of asked.maps.items) before.sinks.errors warned
    × IsLocatedOverStore Reads Causes asked sources end told (with_errors warned before) between
    × AnswersByPath Reads asked sources end (with_errors warned before) between × (after.input ≡ between.input)
    × EndsStore end false ended between.sinks stood
    × TellsLines told end.result listing stood.errors after.sinks.errors
    × (after.sinks.output ≡ stood.output) × (after.sinks.code ≡ stood.code) × (status ≡ max ended listing)

abbrev pub RunsLocate : MayRead → MayCause → Locate → (status : ℕ) → (before after : Streams) → Type 0
RunsLocate Reads Causes asked status before after = (gathered : Result MapSources Report)
    × GathersSources Reads asked.paths false asked.base asked.interval (map argument_of asked.maps.items) (option_map string_bytes asked.list) gathered
    × LocatesOver Reads Causes asked gathered status before after
