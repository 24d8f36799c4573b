-- What a trace becomes: each of its lines by itself, over a table of the maps and their URLs, with the frames of sources
-- that a map says to ignore hidden or not (this project's own).
use Rattle.std.specs.Prelude.{◌≡◌, ℕ, ◌+◌, ◌-◌, ◌==◌, ◌||◌, Bool, true, false, List, [], ◌++◌, Option, Some, None, is_some, codes, length}
use Rattle.std.specs.Prelude.{if◌then◌else◌, option_and_then, slice_get, filter}
use Rattle.std.specs.Char.{is_ascii_control}
use Rattle.std.specs.Fmt.{decimal}
use Rattle.std.specs.List.{list_any}
use Rattle.smap_index.specs.declared.answer.Answer.{Answer}
use Rattle.smap_index.specs.declared.answer.Answer.TheVariants.{Nothing, Unmapped, Found}
use Rattle.smap_lines.specs.Edited.{edited}
use Rattle.smap_lines.specs.Lines.{Line, end_in, line_text, lines_with_ends}
use Rattle.smap_record.specs.Record.{MapRecord, answer_of_map}
use Rattle.smap_record.specs.Sources.{StatedSource}
use Rattle.smap_record.specs.Written.{is_ignored_where, text_of_source}
use Rattle.smap_trace.specs.Frame.{FrameParts}
use Rattle.smap_trace.specs.FrameOf.{frame_of}
use Rattle.smap_trace.specs.FunctionNames.{FunctionNames, named}
use Rattle.smap_trace.specs.Hiding.{HidingSeen, hides, only_ignored}
use Rattle.smap_locations.specs.ByText.{value_under}

-- ---- a source

-- a name that a frame can print: it has a byte, and none is a control character of ASCII, which could break a line of a
-- trace or steer a terminal
abbrev pub printable : Option (List ℕ) → Option (List ℕ)
printable None = None
printable (Some name) = if length name == 0 || list_any is_ascii_control name then None else Some name

abbrev pub name_in : Option StatedSource → Option (List ℕ)
name_in source = printable (option_and_then text_of_source source)

-- ---- a place

-- where a place comes from: the name of a source, if it has one that prints, whether its map says to ignore it, and a
-- location in it; the line and the column count from 1
pub record SourceLocation : Type 0 where
  pub name : Option (List ℕ)
  pub ignored : Bool
  pub line : ℕ
  pub column : ℕ

-- the location of an answer, whose lines and columns count from 0
abbrev pub location_of_answer : MapRecord → Answer → Option SourceLocation
location_of_answer stated Nothing = None
location_of_answer stated (Unmapped column) = None
location_of_answer stated (Found column origin) =
    let source = slice_get stated.sources origin.source in
    Some (record { name = name_in source; ignored = is_ignored_where source; line = origin.line + 1; column = origin.column + 1 })

-- where a place comes from, if its map has an origin for it; the line and the column count from 1
abbrev pub original_at : MapRecord → (line column : ℕ) → Option SourceLocation
original_at stated line column = location_of_answer stated (answer_of_map stated (line - 1) (column - 1))

-- where a frame comes from, if its URL has this map, and that an origin for it
abbrev pub original_in : FrameParts → Option MapRecord → Option SourceLocation
original_in parts found = option_and_then (λ stated. original_at stated parts.line parts.column) found

-- the same over a table
abbrev pub original_of : FrameParts → List (List ℕ × MapRecord) → Option SourceLocation
original_of parts table = original_in parts (value_under parts.url table)

-- a location in a source of this name, as it is printed
abbrev pub location_text : (name : List ℕ) (line column : ℕ) → List ℕ
location_text name line column = name ++ codes ":" ++ decimal line ++ codes ":" ++ decimal column

-- ---- a line

-- what a line is to a trace: no frame, or a frame that stays, is replaced by this text, or is hidden
pub data Fate : Type 0 where
  no_frame : Fate
  stays : Fate
  replaced : List ℕ → Fate
  hidden : Fate

-- the fate of a frame from this location, if its source has this name
abbrev pub named_fate : FrameParts → SourceLocation → (name : Option (List ℕ)) → Fate
named_fate parts location None = stays
named_fate parts location (Some name) = replaced (parts.head ++ location_text name location.line location.column ++ parts.tail)

-- that of a frame from this location, which is hidden or not by its source; a hidden one needs no name
abbrev pub fate_at : (hide : HidingSeen) → FrameParts → Option SourceLocation → Fate
fate_at hide parts None = stays
fate_at hide parts (Some location) = if hides hide location.ignored location.name then hidden else named_fate parts location location.name

abbrev pub fate_of : (hide : Bool) → List (List ℕ × MapRecord) → Option FrameParts → Fate
fate_of hide table None = no_frame
fate_of hide table (Some parts) = fate_at (only_ignored hide) parts (original_of parts table)

-- the fate of a line, without its LF
unfoldable pub fate : List ℕ → List (List ℕ × MapRecord) → (hide : Bool) → Fate
fate line table hide = fate_of hide table (frame_of line)

-- the fate of a line, where the maps are given by what finds them: that of its frame's URL is looked for, and how the maps
-- stand then decides; where it is replaced, its function has the name that they say was written
abbrev pub NamedStep : {M : Type 0} → (Finds : M → (url : List ℕ) → M → Type 0) → (found : M → (url : List ℕ) → Option MapRecord)
    → (names : M → (url : List ℕ) → Option FunctionNames) → (hide : HidingSeen) → (old : M) → Option FrameParts → Fate → (new : M) → Type 0
NamedStep Finds found names hide old None met new = (met ≡ no_frame) × (new ≡ old)
NamedStep Finds found names hide old (Some parts) met new =
    Finds old parts.url new × (met ≡ fate_at hide (named (names new parts.url) parts) (original_in parts (found new parts.url)))

-- the same where nothing is known of the functions' names
abbrev pub FateStep : {M : Type 0} → (Finds : M → (url : List ℕ) → M → Type 0) → (found : M → (url : List ℕ) → Option MapRecord) → (hide : HidingSeen)
    → (old : M) → Option FrameParts → Fate → (new : M) → Type 0
FateStep Finds found = NamedStep Finds found (λ maps url. None)

-- the fate that a line may have from now on, where each URL may have these maps
abbrev pub MayMeet : (Gives : (url : List ℕ) → Option MapRecord → Type 0) → (hide : HidingSeen) → Option FrameParts → Fate → Type 0
MayMeet Gives hide None met = met ≡ no_frame
MayMeet Gives hide (Some parts) met = (found : Option MapRecord) × Gives parts.url found × (met ≡ fate_at hide parts (original_in parts found))

-- the same where functions are named: each URL may have these maps with these names
abbrev pub NamesMeet : (GivesNames : (url : List ℕ) → Option MapRecord → Option FunctionNames → Type 0) → (hide : HidingSeen) → Option FrameParts → Fate → Type 0
NamesMeet GivesNames hide None met = met ≡ no_frame
NamesMeet GivesNames hide (Some parts) met =
    (found : Option MapRecord) × (names : Option FunctionNames) × GivesNames parts.url found names
    × (met ≡ fate_at hide (named names parts) (original_in parts found))

-- where they are named or not
abbrev pub NamedMeet : (Gives : (url : List ℕ) → Option MapRecord → Type 0) → (GivesNames : (url : List ℕ) → Option MapRecord → Option FunctionNames → Type 0)
    → (names_any : Bool) → (hide : HidingSeen) → Option FrameParts → Fate → Type 0
NamedMeet Gives GivesNames false = MayMeet Gives
NamedMeet Gives GivesNames true = NamesMeet GivesNames

-- ---- a trace

-- what becomes of a line with its LF, where it has one: a hidden one goes with it
abbrev pub line_after : Line → Fate → List ℕ
line_after line no_frame = line_text line
line_after line stays = line_text line
line_after line (replaced text) = text ++ end_in line.is_ended
line_after line hidden = []

-- a line, rewritten
abbrev pub rewritten_line : List (List ℕ × MapRecord) → (hide : Bool) → Line → List ℕ
rewritten_line table hide line = line_after line (fate line.bytes table hide)

-- a trace, rewritten
abbrev pub rewritten : List ℕ → List (List ℕ × MapRecord) → (hide : Bool) → List ℕ
rewritten text table hide = edited (rewritten_line table hide) text

-- ---- what is counted

abbrev pub is_frame_line : Line → Bool
is_frame_line line = is_some (frame_of line.bytes)

-- the frame is replaced
abbrev pub is_mapped : Fate → Bool
is_mapped no_frame = false
is_mapped stays = false
is_mapped (replaced text) = true
is_mapped hidden = false

abbrev pub is_hidden : Fate → Bool
is_hidden no_frame = false
is_hidden stays = false
is_hidden (replaced text) = false
is_hidden hidden = true

abbrev pub is_mapped_line : List (List ℕ × MapRecord) → (hide : Bool) → Line → Bool
is_mapped_line table hide line = is_mapped (fate line.bytes table hide)

abbrev pub is_hidden_line : List (List ℕ × MapRecord) → (hide : Bool) → Line → Bool
is_hidden_line table hide line = is_hidden (fate line.bytes table hide)

pub record Counts : Type 0 where
  pub lines : ℕ
  pub frames : ℕ
  pub mapped : ℕ
  pub hidden : ℕ

-- the lines of a trace, those that are frames, those that are replaced, and those that are hidden
unfoldable pub counts_of : List ℕ → List (List ℕ × MapRecord) → (hide : Bool) → Counts
counts_of text table hide = record {
  lines = length (lines_with_ends text);
  frames = length (filter is_frame_line (lines_with_ends text));
  mapped = length (filter (is_mapped_line table hide) (lines_with_ends text));
  hidden = length (filter (is_hidden_line table hide) (lines_with_ends text));
}
