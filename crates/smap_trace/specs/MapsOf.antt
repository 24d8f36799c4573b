-- What a trace becomes, where a function gives for each URL its map and what names the functions of its program (this project's
-- own): the definitions over a table, for maps that come from anywhere, with the written names where these are known.
use Rattle.std.specs.Prelude.{◌≡◌, ℕ, Bool, List, Option, Some, None, filter, length}
use Rattle.smap_lines.specs.Edited.{edited, long_lines}
use Rattle.smap_lines.specs.Editing.{DevicesSeen, Edits}
use Rattle.smap_lines.specs.Lines.{Line, lines_with_ends}
use Rattle.smap_record.specs.Record.{MapRecord}
use Rattle.smap_trace.specs.Frame.{FrameParts}
use Rattle.smap_trace.specs.FrameOf.{frame_of}
use Rattle.smap_trace.specs.FunctionNames.{FunctionNames, named}
use Rattle.smap_trace.specs.Hiding.{HidingSeen}
use Rattle.smap_trace.specs.Rewriting.{counts_seen}
use Rattle.smap_trace.specs.Rewritten.{Counts, Fate, fate_at, is_frame_line, is_hidden, is_mapped, line_after, no_frame, original_in}
use Rattle.smap_trace.specs.declared.outcome.RewriteCounts.{RewriteCounts}

-- the map of each URL, where it has one
abbrev pub MapsByUrl : Type 0
MapsByUrl = (url : List ℕ) → Option MapRecord

-- what names the functions of the program of each URL, where that is known
abbrev pub NamesByUrl : Type 0
NamesByUrl = (url : List ℕ) → Option FunctionNames

-- both
pub record NamedByUrl : Type 0 where
  pub maps : MapsByUrl
  pub names : NamesByUrl

-- maps, where nothing is known of the functions' names
abbrev pub nameless : MapsByUrl → NamedByUrl
nameless maps = record { maps = maps; names = λ url. None }

-- ---- a line

abbrev pub fate_named : NamedByUrl → (hide : HidingSeen) → Option FrameParts → Fate
fate_named known hide None = no_frame
fate_named known hide (Some parts) = fate_at hide (named (known.names parts.url) parts) (original_in parts (known.maps parts.url))

-- a line, rewritten
abbrev pub line_named : NamedByUrl → (hide : HidingSeen) → Line → List ℕ
line_named known hide line = line_after line (fate_named known hide (frame_of line.bytes))

-- ---- a trace

-- a trace, rewritten
abbrev pub rewritten_named : NamedByUrl → (hide : HidingSeen) → (text : List ℕ) → List ℕ
rewritten_named known hide text = edited (line_named known hide) text

-- ---- what is counted

abbrev pub is_mapped_named : NamedByUrl → (hide : HidingSeen) → Line → Bool
is_mapped_named known hide line = is_mapped (fate_named known hide (frame_of line.bytes))

abbrev pub is_hidden_named : NamedByUrl → (hide : HidingSeen) → Line → Bool
is_hidden_named known hide line = is_hidden (fate_named known hide (frame_of line.bytes))

-- the lines of a trace, those that are frames, those that are replaced, and those that are hidden
unfoldable pub counts_named : NamedByUrl → (hide : HidingSeen) → (text : List ℕ) → Counts
counts_named known hide text = record {
  lines = length (lines_with_ends text);
  frames = length (filter is_frame_line (lines_with_ends text));
  mapped = length (filter (is_mapped_named known hide) (lines_with_ends text));
  hidden = length (filter (is_hidden_named known hide) (lines_with_ends text));
}

-- ---- what rewriting does to its devices

-- all that the input had, which is at most `most` bytes, was read, and what it becomes was written, and nothing else; and
-- this was counted
pub record RewritesNamedBy (known : NamedByUrl) (hide : HidingSeen) (most : ℕ) (before after : DevicesSeen) (counts : RewriteCounts) : Type 0 where
  pub bytes : List ℕ
  pub edits : Edits (line_named known hide) most before after bytes counts.summary.lines
  pub counted : counts_seen counts.summary ≡ counts_named known hide bytes
  pub long : counts.long ≡ long_lines bytes

-- ---- the same, where nothing is known of the functions' names

abbrev pub fate_by : MapsByUrl → (hide : HidingSeen) → Option FrameParts → Fate
fate_by maps = fate_named (nameless maps)

abbrev pub line_by : MapsByUrl → (hide : HidingSeen) → Line → List ℕ
line_by maps = line_named (nameless maps)

abbrev pub rewritten_by : MapsByUrl → (hide : HidingSeen) → (text : List ℕ) → List ℕ
rewritten_by maps = rewritten_named (nameless maps)

abbrev pub counts_by : MapsByUrl → (hide : HidingSeen) → (text : List ℕ) → Counts
counts_by maps = counts_named (nameless maps)

abbrev pub RewritesBy : (maps : MapsByUrl) → (hide : HidingSeen) → (most : ℕ) → (before after : DevicesSeen) → (counts : RewriteCounts) → Type 0
RewritesBy maps = RewritesNamedBy (nameless maps)
