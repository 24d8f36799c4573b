-- A text, edited line by line: what becomes of a line hangs on that line alone.
use Rattle.std.specs.Prelude.{◌≡◌, ℕ, Bool, not, List, [], ◌∷◌, ◌++◌, length, fold, filter, nat_le, MatchBool, if◌then◌else◌}
use Rattle.std.specs.List.{AllZip, concat, flat_map}
use Rattle.smap_lines.specs.Limits.{most_line_bytes}
use Rattle.smap_lines.specs.Lines.{Line, line_text, lines_with_ends}

-- the line has at most 65,536 bytes, its LF aside
abbrev pub is_short : Line → Bool
is_short line = nat_le (length line.bytes) most_line_bytes

-- the line is longer
abbrev pub is_long : Line → Bool
is_long line = not (is_short line)

-- how many lines of a text are
abbrev pub long_lines : List ℕ → ℕ
long_lines text = length (filter is_long (lines_with_ends text))

-- what becomes of a line: a longer one stays
abbrev pub edited_line : (Line → List ℕ) → Line → List ℕ
edited_line becomes line = if is_short line then becomes line else line_text line

-- the text, with what becomes of it in place of each line
unfoldable pub edited : (Line → List ℕ) → List ℕ → List ℕ
edited becomes text = flat_map (edited_line becomes) (lines_with_ends text)

-- an editor after a line: a longer one does not change it
abbrev pub after_line : {E : Type 0} → (E → Line → E) → E → Line → E
after_line step editor line = if is_short line then step editor line else editor

-- an editor after the lines of a text
unfoldable pub after_text : {E : Type 0} → (E → Line → E) → E → List ℕ → E
after_text step editor text = fold (after_line step) editor (lines_with_ends text)

-- ---- the same, where a line may become one of several texts, and the editor may stand in several ways after it

-- what a line may become: a longer one stays
abbrev pub IsEditedLine : (Line → List ℕ → Type 0) → Line → (text : List ℕ) → Type 0
IsEditedLine Becomes line text = MatchBool (is_short line) (Becomes line text) (text ≡ line_text line)

-- the text, with one of the texts that it may become in place of each line
pub record IsEdited (Becomes : Line → List ℕ → Type 0) (text result : List ℕ) : Type 0 where
  pub texts : List (List ℕ)
  pub each : AllZip (IsEditedLine Becomes) (lines_with_ends text) texts
  pub joined : result ≡ concat texts

-- what an editor made of a line, and how it stands after it: a longer line stays, and does not change it
abbrev pub StepsLine : {E : Type 0} → (E → Line → List ℕ → E → Type 0) → (old : E) → Line → (text : List ℕ) → (new : E) → Type 0
StepsLine Steps old line text new = MatchBool (is_short line) (Steps old line text new) ((text ≡ line_text line) × (new ≡ old))

-- the same of lines, one after another
abbrev pub StepsLines : {E : Type 0} → (E → Line → List ℕ → E → Type 0) → (old : E) → List Line → (text : List ℕ) → (new : E) → Type 0
StepsLines Steps old [] text new = (text ≡ []) × (new ≡ old)
StepsLines {E = E} Steps old (line ∷ lines) text new = (mid : E) × (first : List ℕ) × (rest : List ℕ)
    × StepsLine Steps old line first mid × StepsLines Steps mid lines rest new × (text ≡ first ++ rest)

-- the same of the lines of a text
pub record StepsText {E : Type 0} (Steps : E → Line → List ℕ → E → Type 0) (old : E) (text result : List ℕ) (new : E) : Type 0 where
  pub each : StepsLines Steps old (lines_with_ends text) result new
