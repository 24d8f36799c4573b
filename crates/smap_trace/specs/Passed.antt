-- How many places rewriting the frames of a trace passes over: those in lines that are no frames of the maps.
use Rattle.std.specs.Prelude.{ℕ, Bool, false, List, Option, Some, None, if◌then◌else◌, is_some}
use Rattle.smap_lines.specs.Lines.{Line}
use Rattle.smap_record.specs.Record.{MapRecord}
use Rattle.smap_trace.specs.Frame.{FrameParts}
use Rattle.smap_trace.specs.FrameOf.{frame_of}

-- what is counted of a line: its places whose URL is another than one, where that is given; and how often URLs stand in it, in
-- places or not
pub record PlaceCount : Type 0 where
  pub others : (own : Option (List ℕ)) → (line : List ℕ) → ℕ
  pub mentions : (line : List ℕ) → ℕ

-- nothing is
abbrev pub nothing_counted : PlaceCount
nothing_counted = record { others = λ own line. 0; mentions = λ line. 0 }

-- how many are passed in a line whose frame has this URL, where it is one: none, if that has a map
abbrev pub passed_beside : (count : PlaceCount) → (own : Option (List ℕ)) → (has_map : Bool) → (line : List ℕ) → ℕ
passed_beside count own has_map line = if has_map then 0 else count.others own line

-- so all, where it is no frame; and of a frame whose URL has no map those of other URLs, as of `eval at f (URL:1:2),
-- <anonymous>:1:1`
abbrev pub passed_of : (count : PlaceCount) → (found : (url : List ℕ) → Option MapRecord) → Option FrameParts → (line : List ℕ) → ℕ
passed_of count found None line = passed_beside count None false line
passed_of count found (Some parts) line = passed_beside count (Some parts.url) (is_some (found parts.url)) line

abbrev pub passed_in : (count : PlaceCount) → (found : (url : List ℕ) → Option MapRecord) → Line → ℕ
passed_in count found line = passed_of count found (frame_of line.bytes) line.bytes
