-- The line that is not yet ended.
use Rattle.std.specs.Prelude.{◌≡◌, ◌==◌, ◌||◌, MatchBool, ℕ, Bool, not, true, false, cond, List, [], ◌++◌, length, nat_le, if◌then◌else◌}
use Rattle.smap_lines.specs.Limits.{most_line_bytes}
use Rattle.smap_lines.specs.Lines.{Line, line_text}
use Rattle.smap_lines.specs.declared.counts.LineCounts.{LineCounts}

-- its bytes so far; or that it is longer than a line that is edited, and was handed on
pub record OpenState : Type 0 where
  pub kept : List ℕ
  pub is_passing : Bool

-- no line is begun
abbrev pub nothing_open : OpenState
nothing_open = record { kept = []; is_passing = false }

-- the line with these bytes too is short enough to be edited
abbrev pub is_kept : OpenState → (bytes : List ℕ) → Bool
is_kept state bytes = if state.is_passing then false else nat_le (length (state.kept ++ bytes)) most_line_bytes

-- the line that is kept, with these bytes
abbrev pub line_with : OpenState → (bytes : List ℕ) → (is_ended : Bool) → Line
line_with state bytes is_ended = record { bytes = state.kept ++ bytes; is_ended = is_ended }

-- ---- these bytes come, and the end of the line

-- what may be handed on; and what was, and how the editor stands after it
abbrev pub EndedText : (Line → List ℕ → Type 0) → OpenState → (bytes text : List ℕ) → Type 0
EndedText Becomes state bytes text =
    MatchBool (is_kept state bytes) (Becomes (line_with state bytes true) text) (text ≡ line_text (line_with state bytes true))

abbrev pub AfterEnded : {E : Type 0} → (E → Line → List ℕ → E → Type 0) → (old : E) → OpenState → (bytes text : List ℕ) → (new : E) → Type 0
AfterEnded Steps old state bytes text new =
    MatchBool (is_kept state bytes) (Steps old (line_with state bytes true) text new) ((text ≡ line_text (line_with state bytes true)) × (new ≡ old))

-- ---- these bytes come, and no end of the line

-- what is handed on, and what is open then
abbrev pub continued_text : OpenState → (bytes : List ℕ) → List ℕ
continued_text state bytes = if is_kept state bytes then [] else state.kept ++ bytes

abbrev pub continued : OpenState → (bytes : List ℕ) → OpenState
continued state bytes =
    if is_kept state bytes then record { kept = state.kept ++ bytes; is_passing = false } else record { kept = []; is_passing = true }

-- ---- the text ends

-- it ends in a line without an LF
abbrev pub has_last : OpenState → Bool
has_last state = state.is_passing || not (length state.kept == 0)

-- what may be handed on; and what was, and how the editor stands after it
abbrev pub LastText : (Line → List ℕ → Type 0) → OpenState → (text : List ℕ) → Type 0
LastText Becomes state text = MatchBool (length state.kept == 0) (text ≡ []) (Becomes (record { bytes = state.kept; is_ended = false }) text)

abbrev pub AfterLast : {E : Type 0} → (E → Line → List ℕ → E → Type 0) → (old : E) → OpenState → (text : List ℕ) → (new : E) → Type 0
AfterLast Steps old state text new =
    MatchBool (length state.kept == 0) ((text ≡ []) × (new ≡ old)) (Steps old (record { bytes = state.kept; is_ended = false }) text new)

-- how many lines that is, and how many of them are too long
abbrev pub last_counts : OpenState → LineCounts
last_counts state = record { lines = cond (has_last state) 1 0; long = cond state.is_passing 1 0 }
