-- The maps that are read when a text names them: each from its file, and what is said of one that can't be had.
use Rattle.std.specs.Prelude.{◌≡◌, ◌⊎◌, ℕ, ◌+◌, ◌-◌, ◌^◌, ◌==◌, ◌||◌, Bool, false, true, List, Option, Some, None, Ok, Err, MatchBool, ⊤, cond, length, max, min, nat_lt}
use Rattle.url.specs.Parts.{Parts}
use Rattle.std.specs.Option.{option_or}
use Rattle.smap_codes.specs.declared.code.Code.{Code}
use Rattle.smap_io.specs.Device.{SinkSeen}
use Rattle.smap_record.specs.Record.{MapRecord}
use Rattle.smap_record.specs.declared.refusal.MapRefusal.{MapRefusal}
use Rattle.smap_record.specs.declared.refusal.MapRefusal.TheVariants.{Url}
use Rattle.smap_io.specs.declared.transfer.ReadFailure.TheVariants.{Device}
use Rattle.smap_replies.specs.Files.{MayCause, MayRead}
use Rattle.smap_replies.specs.Lines.{file_failed_line}
use Rattle.smap_replies.specs.Map.{refusal_result}
use Rattle.smap_replies.specs.Standing.{IsRefusedFor}
use Rattle.smap_store.specs.Loaded.{Came}
use Rattle.smap_trace.specs.declared.maps.NoMap.{NoMap}
use Rattle.smap_trace.specs.declared.maps.NoMap.TheVariants.{Unnamed, Unread, Refused, Memory}
use Rattle.smap_text_answers.specs.Fitting.{Fits, FitsNot, misfit_report}
use Rattle.smap_text_answers.specs.Standing.{record_loaded}
use Rattle.smap_text_answers.specs.Told.{Said, Tells, ToldSeen, told_seen}
use Rattle.smap_text_answers.specs.Lines.{map_memory_line}
use Rattle.smap_replies.specs.Outcome.{Report, failure, out_of_memory}
use Rattle.smap_replies.specs.Streams.{IsReportedTo}
use Rattle.smap_replies.specs.declared.files.UnreadCause.{UnreadCause}
use Rattle.smap_replies.specs.declared.files.UnreadCause.TheVariants.{Missing}
use Rattle.smap_text_answers.specs.declared.loader.FileLoader.{FileLoader}

-- ---- what reads maps

-- what it shows: standard error, the greatest status of what was reported, and that of all but files that are not there, the code
-- of the first refusal, how many maps could not be had, how many of these were refused, whether one was lost, and what is told of
-- maps that were not compared
pub record LoaderSeen : Type 0 where
  pub errors : SinkSeen
  pub status : ℕ
  pub present_status : ℕ
  pub code : Option Code
  pub reported : ℕ
  pub refused : ℕ
  pub lost : Bool
  pub told : ToldSeen

abbrev pub loader_seen : {F E : Type 0} → (seen : E → SinkSeen) → FileLoader F E → LoaderSeen
loader_seen seen loader = record {
  errors = seen loader.errors.now;
  status = loader.status;
  present_status = loader.present_status;
  code = loader.code;
  reported = loader.reported;
  refused = loader.refused;
  lost = loader.lost;
  told = told_seen loader.told.now;
}

-- before it read anything
abbrev pub loader_at_first : (errors : SinkSeen) → (code : Option Code) → (told : ToldSeen) → LoaderSeen
loader_at_first errors code told =
    record { errors = errors; status = 0; present_status = 0; code = code; reported = 0; refused = 0; lost = false; told = told }

-- it reads the same files in the same way, into the same standard error and the same lines
pub record IsSameLoader {F E : Type 0} (old new : FileLoader F E) : Type 0 where
  pub maps : new.maps ≡ old.maps
  pub paths : new.paths ≡ old.paths
  pub number : new.number ≡ old.number
  pub fit : new.fit ≡ old.fit
  pub errors : new.errors.ghost_name ≡ old.errors.ghost_name
  pub told : new.told.ghost_name ≡ old.told.ghost_name

-- how it is reported that no map comes from the file at a path: a URL whose map does not fit its generated file has none; want of
-- memory with the path, if there is memory for that
abbrev pub IsReportFor : NoMap → (path : List ℕ) → Report → Type 0
IsReportFor Unnamed path report = report ≡ misfit_report path
IsReportFor Unread path report = report ≡ failure (file_failed_line path)
IsReportFor (Refused refusal) path report = report ≡ refusal_result path refusal
IsReportFor Memory path report = (report ≡ failure (map_memory_line path)) ⊎ (report ≡ out_of_memory)

module _ (Reads : MayRead) (paths : Bool) (base : Option Parts) (k number : ℕ) where
  -- reading the file at this path gives these bytes, and they are a map that states this
  abbrev pub IsRead : (url path bytes : List ℕ) → MapRecord → Type 0
  IsRead url path bytes stated = Reads number path (Ok bytes) × (record_loaded paths base k url bytes ≡ Ok stated)

  -- the same of so many bytes
  abbrev pub IsLoaded : (url path : List ℕ) → MapRecord → (file_bytes : ℕ) → Type 0
  IsLoaded url path stated file_bytes = (bytes : List ℕ) × Reads number path (Ok bytes) × (file_bytes ≡ length bytes)
      × (record_loaded paths base k url bytes ≡ Ok stated)

  -- where maps are compared with their generated files, these are read under a number
  module _ (fit : Option ℕ) where
    -- or none does: memory ran out; or the file can't be read; or its map is refused, for this; or the map does not fit
    abbrev pub FailsBy : NoMap → (url path : List ℕ) → Type 0
    FailsBy Unnamed url path =
        (bytes : List ℕ) × (stated : MapRecord) × IsRead url path bytes stated × FitsNot Reads fit path stated
    FailsBy Unread url path = Reads number path (Err Device)
    FailsBy (Refused refusal) url path =
        (bytes : List ℕ) × Reads number path (Ok bytes) × IsRefusedFor (record_loaded paths base k url bytes) refusal
    FailsBy Memory url path = ⊤

    -- and this is reported
    abbrev pub FailsWith : NoMap → (url path : List ℕ) → Report → Type 0
    FailsWith why url path report = FailsBy why url path × IsReportFor why path report

    -- a map fits, and this is said of it
    abbrev pub IsUsable : (url path : List ℕ) → MapRecord → (file_bytes : ℕ) → Said → Type 0
    IsUsable url path stated file_bytes said = IsLoaded url path stated file_bytes × Fits Reads fit path stated said

    -- what may come
    abbrev pub MayLoad : (url path : List ℕ) → Option MapRecord → Type 0
    MayLoad url path None = (why : NoMap) × (report : Report) × FailsWith why url path report
    MayLoad url path (Some stated) = (file_bytes : ℕ) × (said : Said) × IsUsable url path stated file_bytes said

-- one more, as far as 64 bits can count
abbrev pub one_more : ℕ → ℕ
one_more count = min (count + 1) (2 ^ 64 - 1)

-- resolving a source gave a URL that is too long
abbrev pub is_of_url : MapRefusal → Bool
is_of_url Url = true
is_of_url _ = false

-- a map is lost of which its file does not say so: memory ran out, or resolving a source gave a URL that is too long
abbrev pub is_lost : NoMap → Bool
is_lost Unnamed = false
is_lost Unread = false
is_lost (Refused refusal) = is_of_url refusal
is_lost Memory = true

-- there is no file
abbrev pub is_no_file : UnreadCause → Bool
is_no_file Missing = true
is_no_file _ = false

-- a map can't be had since there is no file at the path: why a file can't be read is asked anew
abbrev pub IsMissing : MayCause → NoMap → (path : List ℕ) → Bool → Type 0
IsMissing Causes Unread path is_missing = (cause : UnreadCause) × Causes path cause × (is_missing ≡ is_no_file cause)
IsMissing Causes _ path is_missing = is_missing ≡ false

-- why a map of the file at a path can't be had is reported, of the first 100, and counted
pub record Notes (Causes : MayCause) (old : LoaderSeen) (why : NoMap) (path : List ℕ) (report : Report) (new : LoaderSeen) : Type 0 where
  pub status : new.status ≡ max old.status report.status
  pub code : new.code ≡ cond (nat_lt old.reported 100) (option_or old.code report.code) old.code
  pub is_missing : Bool
  pub missing : IsMissing Causes why path is_missing
  pub present_status : new.present_status ≡ cond is_missing old.present_status (max old.present_status report.status)
  pub reported : new.reported ≡ one_more old.reported
  pub refused : new.refused ≡ cond (report.status == 1) (one_more old.refused) old.refused
  pub lost : new.lost ≡ (old.lost || is_lost why)
  pub told : new.told ≡ old.told
  pub errors : MatchBool (nat_lt old.reported 100) (IsReportedTo old.errors new.errors report.text) (new.errors ≡ old.errors)

-- what is said of a map that came is told, and nothing else is changed
pub record TellsOf (old : LoaderSeen) (said : Said) (new : LoaderSeen) : Type 0 where
  pub told : Tells old.told said new.told
  pub same : new ≡ record old { told = new.told }

-- what came for a URL from the file at a path, with the number of its bytes, or why nothing did, and how the loader shows then
abbrev pub Loads : MayRead → MayCause → (paths : Bool) → Option Parts → (k number : ℕ) → (fit : Option ℕ) → (old : LoaderSeen) (url path : List ℕ)
    → Came → (new : LoaderSeen) → Type 0
Loads Reads Causes paths base k number fit old url path (Err why) new =
    (report : Report) × FailsWith Reads paths base k number fit why url path report × Notes Causes old why path report new
Loads Reads Causes paths base k number fit old url path (Ok (stated, file_bytes)) new =
    (said : Said) × IsUsable Reads paths base k number fit url path stated file_bytes said × TellsOf old said new
