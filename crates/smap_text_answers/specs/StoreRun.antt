-- A run over a store of maps that are read when a text names them: how it ends, and what is reported then.
use Rattle.std.specs.Prelude.{◌≡◌, ℕ, ◌+◌, ◌-◌, ◌^◌, ◌==◌, Bool, List, Option, Result, Ok, Err, IfErr, IfOk, MatchBool, [], if◌then◌else◌, length, max, min, option_copied}
use Rattle.url.specs.Parts.{Parts}
use Rattle.smap_codes.specs.declared.code.Code.{Code}
use Rattle.smap_io.specs.Device.{SinkSeen}
use Rattle.smap_lines.specs.Editing.{DevicesSeen, devices_seen}
use Rattle.smap_lines.specs.RunEnds.{is_read_fault}
use Rattle.smap_lines.specs.declared.fault.LineFault.{LineFault}
use Rattle.smap_lines.specs.declared.fault.LineFault.TheVariants.{Memory}
use Rattle.smap_record.specs.Record.{MapRecord}
use Rattle.smap_replies.specs.Files.{MayCause, MayRead}
use Rattle.smap_replies.specs.Lines.{memory_line}
use Rattle.smap_replies.specs.Outcome.{answer, fault_report}
use Rattle.smap_replies.specs.Streams.{Ends, IsReportedTo, Sinks, Streams}
use Rattle.smap_store.specs.Cache.{CacheSeen, cache_at_first}
use Rattle.smap_store.specs.Stored.{FindsIn, GivesIn, LoadsMay, LoadsStep, StoredSeen}
use Rattle.smap_text_answers.specs.Loader.{LoaderSeen, Loads, MayLoad, loader_at_first}
use Rattle.smap_text_answers.specs.declared.loader.FileLoader.{FileLoader}
use Rattle.smap_text_answers.specs.declared.sources.MapSources.{MapSources}
use Rattle.smap_text_answers.specs.declared.storing.StoreEnd.{StoreEnd}
use Rattle.smap_text_answers.specs.Told.{ToldSeen, told_seen}
use Rattle.smap_trace.specs.Rewriting.{Looked}

-- ---- the store

-- a store of maps of these files and folders
abbrev pub store_of : {L : Type 0} → MapSources → CacheSeen → (loader : L) → StoredSeen L
store_of sources cache loader = record { exact = sources.exact; locations = sources.locations; cache = cache; loader = loader }

-- the store before anything was read into it, after this was told
abbrev pub store_start : MapSources → (cache_bytes : ℕ) → (errors : SinkSeen) → (code : Option Code) → (told : ToldSeen) → StoredSeen LoaderSeen
store_start sources cache_bytes errors code told = store_of sources (cache_at_first cache_bytes) (loader_at_first errors code told)

-- what such a loader gives, as a run shows it, and what it may give
abbrev pub LoadsOf : {F E : Type 0} → (gives : F → MayRead) → (causes : F → MayCause) → FileLoader F E → LoadsStep LoaderSeen
LoadsOf gives causes loader = Loads (gives loader.maps.now.files.now) (causes loader.maps.now.files.now) loader.paths (option_copied loader.maps.now.base)
    loader.maps.now.interval loader.number loader.fit

abbrev pub MayLoadOf : {F E : Type 0} → (gives : F → MayRead) → FileLoader F E → LoadsMay LoaderSeen
MayLoadOf gives loader seen = MayLoad (gives loader.maps.now.files.now) loader.paths (option_copied loader.maps.now.base) loader.maps.now.interval loader.number loader.fit

-- ---- what is made of a text

-- how the map of a URL is looked for, and which a URL may have
abbrev pub Finding : Type 1
Finding = StoredSeen LoaderSeen → (url : List ℕ) → StoredSeen LoaderSeen → Type 0

abbrev pub Giving : Type 1
Giving = (url : List ℕ) → Option MapRecord → Type 0

-- one number more than another, as far as 64 bits can count
abbrev pub both_counted : ℕ → ℕ → ℕ
both_counted one other = min (one + other) (2 ^ 64 - 1)

-- what a run came to that makes this of a text, whole or up to a fault, over maps whose files are read under this number,
-- and compared with the generated files, which are read under another, where there is one, and after this was told
pub record IsOverStore {C : Type 0} (Whole : Finding → (before after : DevicesSeen) → (old new : StoredSeen LoaderSeen) → C → Type 0)
    (Front : Giving → (before after : DevicesSeen) → LineFault → Type 0) (Reads : MayRead) (Causes : MayCause) (paths : Bool) (base : Option Parts)
    (k number : ℕ) (fit : Option ℕ) (cache_bytes : ℕ) (compared : ToldSeen) (sources : MapSources) (end : StoreEnd C) (before after : Streams) : Type 0 where
  pub last : StoredSeen LoaderSeen
  pub whole : IfOk end.result (Whole (FindsIn (Loads Reads Causes paths base k number fit)) (devices_seen before.input before.sinks.output)
      (devices_seen after.input after.sinks.output) (store_start sources cache_bytes before.sinks.errors before.sinks.code compared) last)
  pub front : IfErr end.result (Front
      (GivesIn (λ loader. MayLoad Reads paths base k number fit) (store_start sources cache_bytes before.sinks.errors before.sinks.code compared))
      (devices_seen before.input before.sinks.output) (devices_seen after.input after.sinks.output))
  pub looked : Looked (FindsIn (Loads Reads Causes paths base k number fit)) (store_start sources cache_bytes before.sinks.errors before.sinks.code compared) last
  pub errors : after.sinks.errors ≡ last.loader.errors
  pub code : after.sinks.code ≡ last.loader.code
  pub input_failed : after.input.failed ≡ is_read_fault end.result
  pub untouched : end.result ≡ Err Memory → (after.input ≡ before.input) × (after.sinks.output ≡ before.sinks.output)
  pub status : end.status ≡ last.loader.status
  pub present_status : end.present_status ≡ last.loader.present_status
  pub maps : end.maps ≡ both_counted last.cache.read (length sources.exact)
  pub missing : end.missing ≡ last.cache.missing - last.loader.refused
  pub refused : end.refused ≡ last.loader.refused
  pub lost : end.lost ≡ last.loader.lost
  pub told : told_seen end.told ≡ last.loader.told
  pub shortages : end.shortages ≡ last.cache.shortages

-- ---- what is reported at the end

-- that memory ran out for some maps is reported with this status, where it did
abbrev pub ReportsShortage : (shortages status : ℕ) → (before after : SinkSeen) → Type 0
ReportsShortage shortages status before after =
    MatchBool (shortages == 0) ((status ≡ 0) × (after ≡ before)) ((status ≡ 3) × IsReportedTo before after memory_line)

-- the greatest status of what was reported of maps; or of all but files that are not there, where these are passed over
abbrev pub map_status : {C : Type 0} → StoreEnd C → (missing_ok : Bool) → ℕ
map_status end missing_ok = if missing_ok then end.present_status else end.status

-- what the run came to, and behind what it wrote that memory ran out for some maps; and the status of all, of these maps too
abbrev pub EndsRun : {C : Type 0} → StoreEnd C → Result C LineFault → (maps status : ℕ) → (before after : Sinks) → Type 0
EndsRun end (Ok counts) maps status before after =
    (reported : ℕ) × (between : Sinks) × (short : ℕ) × Ends (answer []) reported before between × (after.output ≡ between.output) × (after.code ≡ between.code)
    × ReportsShortage end.shortages short between.errors after.errors × (status ≡ max (max maps reported) short)
EndsRun end (Err fault) maps status before after =
    (reported : ℕ) × Ends (fault_report fault) reported before after × (status ≡ max maps reported)

abbrev pub EndsStore : {C : Type 0} → StoreEnd C → (missing_ok : Bool) → (status : ℕ) → (before after : Sinks) → Type 0
EndsStore end missing_ok status before after = EndsRun end end.result (map_status end missing_ok) status before after
