-- A list of maps (this project's own), whose lines end in LF or CR LF.
use Rattle.std.specs.Prelude.{◌≡◌, ◌⊎◌, ℕ, ◌+◌, ◌==◌, ◌||◌, ◌&&◌, Bool, false, not, List, [], ◌∷◌, ◌++◌, Option, Some, None, is_some, Result}
use Rattle.std.specs.Prelude.{MatchBool, MatchOption, MatchResult, if◌then◌else◌, length}
use Rattle.std.specs.List.{list_any}
use Rattle.smap_locations.specs.ListLine.{entry_of, is_folder, is_passed_over, is_rule, pattern_text}
use Rattle.smap_locations.specs.Locations.{LocationsSeen}
use Rattle.smap_locations.specs.Patterns.{ends_in_separator, has_text}
use Rattle.smap_locations.specs.ByText.{IsWith, value_under}
use Rattle.smap_record.specs.Record.{MapRecord}
use Rattle.smap_trace.specs.Table.{is_bad_url}
use Rattle.smap_locations.specs.declared.refusal.ListFault.{ListFault}
use Rattle.smap_locations.specs.declared.refusal.ListFault.TheVariants.{NoTab, NoFolder, BadUrl, Twice, Memory}
use Rattle.smap_locations.specs.declared.refusal.ListRefusal.{ListRefusal}

-- ---- why it is not taken, memory aside

abbrev pub file_fault : List (List ℕ × MapRecord) → LocationsSeen → (url : List ℕ) → Option ListFault
file_fault exact locations url =
    if is_bad_url url then Some BadUrl
    else if is_some (value_under url exact) || is_some (value_under url locations.files) then Some Twice
    else None

abbrev pub folder_fault : LocationsSeen → (prefix : List ℕ) → Option ListFault
folder_fault locations prefix =
    if not (is_folder prefix) then Some NoFolder
    else if is_bad_url prefix then Some BadUrl
    else if is_some (value_under prefix locations.folders) then Some Twice
    else None

-- a line ends at this byte
abbrev pub is_line_byte : ℕ → Bool
is_line_byte byte = byte == 10 || byte == 13

abbrev pub pattern_fault : LocationsSeen → (text path : List ℕ) → Option ListFault
pattern_fault locations text path =
    if is_folder path && not (ends_in_separator text) then Some NoFolder
    else if list_any is_line_byte text then Some BadUrl
    else if list_any (has_text text) locations.patterns then Some Twice
    else None

-- of an entry that is a rule: of its pattern, where this is the text of one, or of its prefix
abbrev pub fault_of_rule : LocationsSeen → (pattern : Option (List ℕ)) → (url path : List ℕ) → Option ListFault
fault_of_rule locations None url path = folder_fault locations url
fault_of_rule locations (Some text) url path = pattern_fault locations text path

abbrev pub rule_fault : LocationsSeen → (url path : List ℕ) → Option ListFault
rule_fault locations url path = fault_of_rule locations (pattern_text url) url path

abbrev pub entry_fault : List (List ℕ × MapRecord) → LocationsSeen → Option (List ℕ × List ℕ) → Option ListFault
entry_fault exact locations None = Some NoTab
entry_fault exact locations (Some (url, path)) = if is_rule url path then rule_fault locations url path else file_fault exact locations url

abbrev pub line_fault : List (List ℕ × MapRecord) → LocationsSeen → (line : List ℕ) → Option ListFault
line_fault exact locations line = if is_passed_over line then None else entry_fault exact locations (entry_of line)

-- ---- what it changes

-- one file more
pub record PutsFile (old : LocationsSeen) (url path : List ℕ) (new : LocationsSeen) : Type 0 where
  pub files : IsWith old.files url path new.files
  pub folders : new.folders ≡ old.folders
  pub patterns : new.patterns ≡ old.patterns

-- one folder more
pub record PutsFolder (old : LocationsSeen) (prefix folder : List ℕ) (new : LocationsSeen) : Type 0 where
  pub folders : IsWith old.folders prefix folder new.folders
  pub files : new.files ≡ old.files
  pub patterns : new.patterns ≡ old.patterns

-- one pattern more, behind those that there were
pub record PutsPattern (old : LocationsSeen) (text path : List ℕ) (new : LocationsSeen) : Type 0 where
  pub patterns : new.patterns ≡ old.patterns ++ (text, path) ∷ []
  pub files : new.files ≡ old.files
  pub folders : new.folders ≡ old.folders

-- one rule more
abbrev pub PutsRule : (old : LocationsSeen) → (url path : List ℕ) → (new : LocationsSeen) → Type 0
PutsRule old url path new = MatchOption (pattern_text url) (PutsFolder old url path new) (λ text. PutsPattern old text path new)

-- what a line names
abbrev pub Puts : (old : LocationsSeen) → Option (List ℕ × List ℕ) → (new : LocationsSeen) → Type 0
Puts old None new = new ≡ old
Puts old (Some (url, path)) new = MatchBool (is_rule url path) (PutsRule old url path new) (PutsFile old url path new)

-- a line is taken
pub record IsTaken (exact : List (List ℕ × MapRecord)) (old : LocationsSeen) (line : List ℕ) (new : LocationsSeen) : Type 0 where
  pub faultless : line_fault exact old line ≡ None
  pub puts : MatchBool (is_passed_over line) (new ≡ old) (Puts old (entry_of line) new)

-- a line is refused: for this fault, or, where it has none, since memory ran out
abbrev pub IsRefused : List (List ℕ × MapRecord) → LocationsSeen → (line : List ℕ) → ListFault → Type 0
IsRefused exact locations line fault =
    (line_fault exact locations line ≡ Some fault)
    ⊎ ((is_passed_over line ≡ false) × (line_fault exact locations line ≡ None) × (fault ≡ Memory))

-- ---- a list

-- lines are taken, one after another
abbrev pub AreTaken : List (List ℕ × MapRecord) → (lines : List (List ℕ)) → (old new : LocationsSeen) → Type 0
AreTaken exact [] old new = new ≡ old
AreTaken exact (line ∷ lines) old new = (between : LocationsSeen) × IsTaken exact old line between × AreTaken exact lines between new

-- the first line that is refused, whose number counts from 1, ends it; those before it are taken
pub record IsRefusedAt (exact : List (List ℕ × MapRecord)) (lines : List (List ℕ)) (old new : LocationsSeen) (refusal : ListRefusal) : Type 0 where
  pub before : List (List ℕ)
  pub line : List ℕ
  pub after : List (List ℕ)
  pub lines_are : lines ≡ before ++ line ∷ after
  pub number : refusal.line ≡ length before + 1
  pub taken : AreTaken exact before old new
  pub refused : IsRefused exact new line refusal.fault

-- all lines of a list are taken, or those before one that is refused
abbrev pub TakesList : List (List ℕ × MapRecord) → (lines : List (List ℕ)) (old : LocationsSeen) → Result (Unit {0}) ListRefusal
    → (new : LocationsSeen) → Type 0
TakesList exact lines old result new = MatchResult result (λ _. AreTaken exact lines old new) (IsRefusedAt exact lines old new)
