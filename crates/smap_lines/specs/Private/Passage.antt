-- How far the editing of a text has come.
use Rattle.std.specs.Prelude.{◌≡◌, ◌<◌, ◌≤◌, ◌+◌, ℕ, true, false, List, [], ◌++◌, Option, length, if◌then◌else◌}
use Rattle.smap_io.specs.Device.{Takes, TakesFront}
use Rattle.smap_lines.specs.Edited.{IsEdited, StepsText, long_lines}
use Rattle.smap_lines.specs.Limits.{most_line_bytes}
use Rattle.smap_lines.specs.Lines.{IsWholeLines, Line, has_line_end, lines_with_ends}
use Rattle.smap_lines.specs.Private.OpenLine.{OpenState}
use Rattle.smap_lines.specs.declared.counts.LineCounts.{LineCounts}

-- what of an open line was handed on already
abbrev pub passed : OpenState → (begun : List ℕ) → List ℕ
passed state begun = if state.is_passing then begun else []

-- the state is that of an open line of these bytes
pub record IsOpen (state : OpenState) (begun : List ℕ) : Type 0 where
  pub one : has_line_end begun ≡ false
  pub short : length state.kept ≤ most_line_bytes
  pub kept : state.is_passing ≡ false → state.kept ≡ begun
  pub none_kept : state.is_passing ≡ true → state.kept ≡ []
  pub long : state.is_passing ≡ true → most_line_bytes < length begun

-- what the editing has come to: the editor, what the output has taken, the bytes that wait, the open line, and how many
-- lines were ended, and were too long
pub record Now (E : Type 0) : Type 0 where
  pub editor : E
  pub taken : Option (List ℕ)
  pub waiting : List ℕ
  pub state : OpenState
  pub counts : LineCounts

-- of these bytes, which were read, all but the later ones went through an editor that began as `first`, over an output
-- that had taken `before`
pub record IsThrough {E : Type 0} (Becomes : E → Line → List ℕ → Type 0) (Steps : E → Line → List ℕ → E → Type 0) (room : E → ℕ) (first : E)
    (before : Option (List ℕ))
    (bytes : List ℕ) (now : Now E) (later : List ℕ) : Type 0 where
  pub done : List ℕ
  pub begun : List ℕ
  pub written : List ℕ
  pub bytes_is : bytes ≡ (done ++ begun) ++ later
  pub whole : IsWholeLines done
  pub open_is : IsOpen now.state begun
  pub taken : Takes before now.taken written
  pub became : List ℕ
  pub edited : IsEdited (Becomes first) done became
  pub handed_on : written ++ now.waiting ≡ became ++ passed now.state begun
  pub steps : StepsText Steps first done became now.editor
  pub same : (line : Line) (text : List ℕ) → Becomes now.editor line text → Becomes first line text
  pub counted : now.counts.lines ≡ length (lines_with_ends done)
  pub long : now.counts.long ≡ long_lines done
  pub room_left : room first ≤ room now.editor + now.counts.lines

-- the output took a front of a text that these bytes may become
pub record TakesEditedFront (Becomes : Line → List ℕ → Type 0) (old new : Option (List ℕ)) (bytes : List ℕ) : Type 0 where
  pub text : List ℕ
  pub edited : IsEdited Becomes bytes text
  pub front : TakesFront old new text
