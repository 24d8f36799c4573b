-- What a command reports a map file: what the map states decides, or why the map is refused.
use Rattle.std.specs.Prelude.{◌≡◌, ℕ, ◌⊎◌, List, Option, Result, Ok, Err, Some, None, MatchOption, if◌then◌else◌, length, nat_lt, not, string_bytes}
use Rattle.std.specs.Str.{is_utf8}
use Rattle.smap_codes.specs.Codes.{name_of}
use Rattle.smap_codes.specs.declared.code.Code.{Code}
use Rattle.smap_codes.specs.declared.code.Code.TheVariants.{M1, NotUtf8}
use Rattle.smap_command.specs.declared.asked.MapChoice.{MapChoice}
use Rattle.smap_record.specs.Codes.{map_code}
use Rattle.smap_record.specs.Limits.{most_file_bytes}
use Rattle.smap_record.specs.Record.{MapRecord, record_of}
use Rattle.smap_record.specs.declared.refusal.MapRefusal.{MapRefusal}
use Rattle.smap_record.specs.declared.refusal.MapRefusal.TheVariants.{Url}
use Rattle.smap_replies.specs.Files.{MayRead, OfFile}
use Rattle.smap_replies.specs.Lines.{map_refused_line}
use Rattle.smap_replies.specs.Outcome.{Report, answer, refusal}
use Rattle.smap_verdicts.specs.Refusal.{refusal_text}
use Rattle.url.specs.Parts.{Parts}

-- the file at this path is refused, and the name of this code says why
abbrev pub refused_file : (path : List ℕ) → Code → Report
refused_file path code = refusal (Some code) (map_refused_line path (name_of code))

-- why the bytes of a text are refused, where they are: they are more than a map file may have, or no UTF-8
abbrev pub text_refusal : (bytes : List ℕ) → Option Code
text_refusal bytes =
    if nat_lt most_file_bytes (length bytes) then Some M1
    else if not (is_utf8 bytes) then Some NotUtf8
    else None

-- a text file of these bytes at a path is refused, and that is reported; or the text decides
abbrev pub OfBytes : (path : List ℕ) → (List ℕ → Report → Type 0) → (bytes : List ℕ) → Report → Type 0
OfBytes path Reports bytes report = MatchOption (text_refusal bytes) (Reports bytes report) (λ code. report ≡ refused_file path code)

-- the same of what the file of this number and path gives
abbrev pub OfText : MayRead → (number : ℕ) (path : List ℕ) → (List ℕ → Report → Type 0) → Report → Type 0
OfText Reads number path Reports = OfFile Reads number path (OfBytes path Reports)

-- the file of this number and path gives this text
abbrev pub IsText : MayRead → (number : ℕ) (path text : List ℕ) → Type 0
IsText Reads number path text = (bytes : List ℕ) × Reads number path (Ok bytes) × (text ≡ bytes) × (text_refusal bytes ≡ None)

-- nothing is reported a text
abbrev pub NeverText : List ℕ → Report → Type 0
NeverText text report = ⊥

-- the map of the file at this path is refused
abbrev pub refusal_result : (path : List ℕ) → MapRefusal → Report
refusal_result path refused = refusal (Some (map_code refused)) (map_refused_line path (refusal_text refused))

-- a map that is found decides what is reported, and so does its refusal; one that is not refused may yet be refused since
-- resolving a source gave a URL that is too long: when that is so, `url` decides
abbrev pub ReportsRead : (MapRefusal → Report → Type 0) → Result MapRecord MapRefusal → (MapRecord → Report → Type 0) → Report → Type 0
ReportsRead Refuses (Err refused) Reports report = Refuses refused report
ReportsRead Refuses (Ok stated) Reports report = Refuses Url report ⊎ Reports stated report

-- the same, where its refusal alone decides what is said of it
abbrev pub ReportsFound : (MapRefusal → Report) → Result MapRecord MapRefusal → (MapRecord → Report → Type 0) → Report → Type 0
ReportsFound refusal_of = ReportsRead (λ refused report. report ≡ refusal_of refused)

-- the same of what the bytes of a file give, with its sources resolved against the base and checkpoints at the interval k
abbrev pub ReportsMap : MayRead → (number : ℕ) (path : List ℕ) → Option Parts → (k : ℕ) → (MapRecord → Report → Type 0) → Report → Type 0
ReportsMap Reads number path base k Reports = OfFile Reads number path (λ bytes. ReportsFound (refusal_result path) (record_of bytes base k) Reports)

-- this is the result of what a map states
abbrev pub IsResult : (result_of : MapRecord → Report) → MapRecord → Report → Type 0
IsResult result_of stated report = report ≡ result_of stated

-- the result is this line of what a map states
abbrev pub IsLine : (line_of : MapRecord → List ℕ) → MapRecord → Report → Type 0
IsLine line_of stated report = report ≡ answer (line_of stated)

-- ---- a file that is read for its map

-- it gives a map that states this
abbrev pub IsStated : MayRead → (number : ℕ) (path : List ℕ) → Option Parts → (k : ℕ) → MapRecord → Type 0
IsStated Reads number path base k stated = (bytes : List ℕ) × Reads number path (Ok bytes) × (record_of bytes base k ≡ Ok stated)

-- the same of the map that a command chooses, which is the first of its files
abbrev pub StatesChosen : MayRead → MapChoice → MapRecord → Type 0
StatesChosen Reads chosen = IsStated Reads 0 (string_bytes chosen.path) chosen.base chosen.interval

-- nothing is reported a map
abbrev pub Never : MapRecord → Report → Type 0
Never stated report = ⊥
