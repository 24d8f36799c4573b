-- Why a file gives no map, where that is asked.
use Rattle.std.specs.Prelude.{◌≡◌, ℕ, ◌⊎◌, ◌++◌, ◌==◌, ◌&&◌, Bool, true, false, List, [], Option, Some, Ok, Err, codes, if◌then◌else◌, length, string_bytes}
use Rattle.std.specs.Bool.{nat_eq}
use Rattle.std.specs.List.{starts_with}
use Rattle.smap_command.specs.declared.asked.MapChoice.{MapChoice}
use Rattle.smap_explain.specs.Beginning.{has_bytes}
use Rattle.smap_explain.specs.Explain.{IsExplained}
use Rattle.smap_explain.specs.declared.explanation.Beginning.{Beginning}
use Rattle.smap_explain.specs.declared.explanation.Beginning.TheVariants.{Script}
use Rattle.smap_explain.specs.declared.explanation.Explanation.{Explanation}
use Rattle.smap_explain.specs.declared.explanation.Explanation.TheVariants.{NotJson}
use Rattle.smap_io.specs.declared.transfer.ReadFailure.TheVariants.{Device}
use Rattle.smap_record.specs.Codes.{map_code}
use Rattle.smap_record.specs.Record.{MapRecord, record_of}
use Rattle.smap_record.specs.declared.refusal.MapRefusal.{MapRefusal}
use Rattle.smap_replies.specs.Files.{MayRead}
use Rattle.smap_replies.specs.Lines.{file_failed_line, map_refused_line}
use Rattle.smap_replies.specs.Map.{ReportsRead, refusal_result}
use Rattle.smap_replies.specs.Outcome.{Report, failure, refusal}
use Rattle.smap_replies.specs.declared.files.UnreadCause.{UnreadCause}
use Rattle.smap_replies.specs.declared.files.UnreadCause.TheVariants as causes
use Rattle.smap_verdicts.specs.Keys.{explanation_text}
use Rattle.smap_verdicts.specs.Refusal.{refusal_text}
use Rattle.url.specs.Parts.{Parts}

-- ---- a script in place of a map

abbrev pub is_script : Beginning → Bool
is_script Script = true
is_script _ = false

-- the file is no JSON, but a script that names its map
abbrev pub is_of_script : Explanation → Bool
is_of_script (NotJson facts) = is_script facts.begins_as
is_of_script _ = false

-- how to take the map out of a script that holds it
abbrev pub take_out_text : List ℕ
take_out_text = codes "  a sourceMappingURL in it is a data: URL, which holds the map; if that is base64, this takes it out:\n"
    ++ codes "  sed -n 's/^.*sourceMappingURL=data:[^,]*base64,//p' FILE | base64 -d > FILE.map\n"

-- the same of these bytes, where they are such a script; of any others nothing
abbrev pub inline_text : (bytes : List ℕ) → Explanation → List ℕ
inline_text bytes explanation =
    if is_of_script explanation && has_bytes bytes (codes "sourceMappingURL=data:") then take_out_text else []

-- ---- a map that is refused

-- why the map is refused
pub record IsWhyText (bytes : List ℕ) (refused : MapRefusal) (text : List ℕ) : Type 0 where
  pub explanation : Explanation
  pub known : IsExplained bytes refused explanation
  pub lines : text ≡ explanation_text explanation ++ inline_text bytes explanation

-- the line of a refusal, and then why the map is refused
pub record IsWhyLine (bytes path : List ℕ) (refused : MapRefusal) (line : List ℕ) : Type 0 where
  pub why : List ℕ
  pub explained : IsWhyText bytes refused why
  pub text : line ≡ map_refused_line path (refusal_text refused) ++ why

-- a refusal is reported on standard error, and why, where that is asked
abbrev pub IsRefused : (bytes path : List ℕ) → (explain : Bool) → MapRefusal → Report → Type 0
IsRefused bytes path false refused report = report ≡ refusal_result path refused
IsRefused bytes path true refused report = (line : List ℕ) × IsWhyLine bytes path refused line × (report ≡ refusal (Some (map_code refused)) line)

-- ---- a file that can't be read

-- there is no file; of an empty path, that it is; of one that is a URL, that only files are read; of one that no shell made of a
-- `~`, where a shell does
abbrev pub missing_text : (path : List ℕ) → List ℕ
missing_text path =
    if length path == 0 then codes "  the path is empty: in URL=FILE it stands behind the last =\n"
    else (if has_bytes path (codes "://") then codes "  the path is a URL, and only files are read: swapped? in URL=FILE the URL stands first\n"
    else (if starts_with nat_eq path (codes "~/") then codes "  there is no such file: a shell puts a folder for ~ only where a word begins with it\n"
    else codes "  there is no such file\n"))

-- why the file at a path can't be read
abbrev pub cause_text : (path : List ℕ) → UnreadCause → List ℕ
cause_text path causes.Missing = missing_text path
cause_text path causes.Folder =
    codes "  the path is that of a folder: to rewrite and locate a folder of maps is PREFIX/=FOLDER/, to check FOLDER/*.map\n"
cause_text path causes.NoPermission = codes "  the file may not be read: permission is denied\n"
cause_text path causes.Other = codes "  reading the file failed for another cause\n"

-- the file at a path can't be read, and that is reported, and why, where that is asked: the machine says the cause
abbrev pub IsUnreadFor : (path : List ℕ) → (explain : Bool) → Report → Type 0
IsUnreadFor path false report = report ≡ failure (file_failed_line path)
IsUnreadFor path true report = (cause : UnreadCause) × (report ≡ failure (file_failed_line path ++ cause_text path cause))

-- that is so of the file of this number and path
abbrev pub IsUnreadWhy : MayRead → (explain : Bool) → (number : ℕ) (path : List ℕ) → Report → Type 0
IsUnreadWhy Reads explain number path report = Reads number path (Err Device) × IsUnreadFor path explain report

-- ---- either

-- the file of this number and path can't be read, or its bytes decide
abbrev pub OfFileWhy : MayRead → (explain : Bool) → (number : ℕ) (path : List ℕ) → (List ℕ → Report → Type 0) → Report → Type 0
OfFileWhy Reads explain number path Reports report =
    IsUnreadWhy Reads explain number path report
    ⊎ ((bytes : List ℕ) × Reads number path (Ok bytes) × Reports bytes report)

-- its map is refused, or what it states decides
abbrev pub ReportsMapWhy : MayRead → (explain : Bool) → (number : ℕ) (path : List ℕ) → Option Parts → (k : ℕ) → (MapRecord → Report → Type 0) → Report → Type 0
ReportsMapWhy Reads explain number path base k Reports =
    OfFileWhy Reads explain number path (λ bytes. ReportsRead (IsRefused bytes path explain) (record_of bytes base k) Reports)

-- the same of the map that a command chooses, which is the first of its files
abbrev pub ReportsChosen : MayRead → (explain : Bool) → MapChoice → (MapRecord → Report → Type 0) → Report → Type 0
ReportsChosen Reads explain chosen = ReportsMapWhy Reads explain 0 (string_bytes chosen.path) chosen.base chosen.interval
