-- What is told of the files of a command that could not be read, or are no maps, behind what was reported.
use Rattle.std.specs.Prelude.{◌≡◌, ◌≢◌, ◌⊎◌, ℕ, Bool, true, false, List, [], ◌∷◌, Option, Some, None, Ok, Err, codes, if◌then◌else◌, option_map}
use Rattle.std.specs.List.{concat}
use Rattle.std.specs.Option.{IsSomeAnd}
use Rattle.smap_command.specs.Limits.{usual_interval}
use Rattle.smap_explain.specs.Beginning.{begins_as}
use Rattle.smap_explain.specs.declared.explanation.Beginning.{Beginning}
use Rattle.smap_explain.specs.declared.explanation.Beginning.TheVariants.{Json}
use Rattle.smap_io.specs.Device.{SinkSeen}
use Rattle.smap_io.specs.declared.transfer.ReadFailure.TheVariants.{Device}
use Rattle.smap_record.specs.Record.{MapRecord, record_of}
use Rattle.smap_record.specs.declared.refusal.MapRefusal.{MapRefusal}
use Rattle.smap_replies.specs.Files.{MayCause, MayRead}
use Rattle.smap_replies.specs.Lines.{memory_line}
use Rattle.smap_replies.specs.Standing.{IsRefusedFor}
use Rattle.smap_replies.specs.Streams.{IsReportedTo}
use Rattle.smap_replies.specs.Why.{IsWhyText, cause_text}
use Rattle.smap_replies.specs.declared.files.UnreadCause.{UnreadCause}
use Rattle.smap_replies.specs.declared.files.UnreadCause.TheVariants.{Other}
use Rattle.smap_replies.specs.declared.telling.NamedFile.{NamedFile}
use Rattle.smap_text.specs.Shown.{shown}

-- ---- the first of several files

-- a file that a command names: its number among the paths of the command, from 0, its path, whether it is to be a map, and the
-- number and the path of what it may have been swapped with
pub record FileSeen : Type 0 where
  pub number : ℕ
  pub path : List ℕ
  pub is_map : Bool
  pub beside : Option (ℕ × List ℕ)

abbrev pub file_seen : NamedFile → FileSeen
file_seen file = record {
  number = file.number;
  path = file.path.now;
  is_map = file.is_map;
  beside = option_map (λ beside. (beside.0, beside.1.now)) file.beside;
}

-- what is told of a file: nothing, where it is passed over
abbrev pub IsToldOf : (Passes : FileSeen → Type 0) → (Told : FileSeen → (text : List ℕ) → Type 0) → FileSeen → Option (List ℕ) → Type 0
IsToldOf Passes Told file None = Passes file
IsToldOf Passes Told file (Some text) = Told file text

-- what is told of the first of several files that is not passed over: nothing, where all are
abbrev pub IsFirstTold : (Passes : FileSeen → Type 0) → (Told : FileSeen → (text : List ℕ) → Type 0) → List FileSeen → Option (List ℕ) → Type 0
IsFirstTold Passes Told [] told = told ≡ None
IsFirstTold Passes Told (file ∷ files) told = (Passes file × IsFirstTold Passes Told files told) ⊎ IsSomeAnd told (Told file)

-- standard error takes a text, or nothing
abbrev pub TellsText : Option (List ℕ) → (before after : SinkSeen) → Type 0
TellsText None before after = after ≡ before
TellsText (Some text) before after = IsReportedTo before after text

-- ---- a file that can't be read

-- no cause need be known
abbrev pub IsCauseUnknown : MayCause → FileSeen → Type 0
IsCauseUnknown Causes file = Causes file.path Other

-- why it can't be
abbrev pub IsCauseTold : MayCause → FileSeen → (text : List ℕ) → Type 0
IsCauseTold Causes file text = (cause : UnreadCause) × Causes file.path cause × (cause ≢ Other) × (text ≡ cause_text file.path cause)

-- of the first of these files for which a cause is known
abbrev pub TellsCause : MayCause → List FileSeen → (before after : SinkSeen) → Type 0
TellsCause Causes files before after =
    (told : Option (List ℕ)) × IsFirstTold (IsCauseUnknown Causes) (IsCauseTold Causes) files told × TellsText told before after

-- ---- a file that is no map

-- a file begins as a map does
abbrev pub is_json : Beginning → Bool
is_json Json = true
is_json _ = false

-- two files may be swapped
abbrev pub swapped_text : Bool → List ℕ
swapped_text is_swapped = if is_swapped then codes "  what stands beside it begins as a map: swapped?\n" else []

-- why the bytes of the file at a path are no map
pub record IsNoMapText (path bytes : List ℕ) (is_swapped : Bool) (text : List ℕ) : Type 0 where
  pub refused : MapRefusal
  pub known : IsRefusedFor (record_of bytes None usual_interval) refused
  pub why : List ℕ
  pub explained : IsWhyText bytes refused why
  pub lines : text ≡ concat (codes "  " ∷ shown path ∷ codes ":\n" ∷ why ∷ swapped_text is_swapped ∷ [])

-- what stands beside a file begins as a map does: not so where nothing does, or that can't be read
abbrev pub IsSwapped : MayRead → (beside : Option (ℕ × List ℕ)) → Bool → Type 0
IsSwapped Reads None is_swapped = is_swapped ≡ false
IsSwapped Reads (Some (number, path)) is_swapped =
    (Reads number path (Err Device) × (is_swapped ≡ false))
    ⊎ ((bytes : List ℕ) × Reads number path (Ok bytes) × (is_swapped ≡ is_json (begins_as bytes)))

-- what is told of a file that is to be a map, and whose bytes do not begin as one
pub record IsNoMapTold (Reads : MayRead) (file : FileSeen) (text : List ℕ) : Type 0 where
  pub is_map : file.is_map ≡ true
  pub bytes : List ℕ
  pub read : Reads file.number file.path (Ok bytes)
  pub begins : is_json (begins_as bytes) ≡ false
  pub is_swapped : Bool
  pub swapped : IsSwapped Reads file.beside is_swapped
  pub said : IsNoMapText file.path bytes is_swapped text

-- bytes are a map
abbrev pub IsStatedMap : (bytes : List ℕ) → Type 0
IsStatedMap bytes = (stated : MapRecord) × (record_of bytes None usual_interval ≡ Ok stated)

-- why the bytes of the file at a path are no map; nothing, where they are one
abbrev pub TextOrMap : (path bytes : List ℕ) → (is_swapped : Bool) → Option (List ℕ) → Type 0
TextOrMap path bytes is_swapped None = IsStatedMap bytes
TextOrMap path bytes is_swapped (Some text) = IsNoMapText path bytes is_swapped text

-- bytes begin as a map does, or are one
abbrev pub IsLikeMap : (bytes : List ℕ) → Type 0
IsLikeMap bytes = (is_json (begins_as bytes) ≡ true) ⊎ IsStatedMap bytes

-- a file is to be no map, or can't be read, or its bytes are like a map
abbrev pub IsPassedOver : MayRead → FileSeen → Type 0
IsPassedOver Reads file = (file.is_map ≡ false)
    ⊎ (Reads file.number file.path (Err Device) ⊎ ((bytes : List ℕ) × Reads file.number file.path (Ok bytes) × IsLikeMap bytes))

-- why the first of these files is none that is no map; or that memory ran out
abbrev pub TellsNoMap : MayRead → List FileSeen → (before after : SinkSeen) → Type 0
TellsNoMap Reads files before after = IsReportedTo before after memory_line
    ⊎ ((told : Option (List ℕ)) × IsFirstTold (IsPassedOver Reads) (IsNoMapTold Reads) files told × TellsText told before after)
