-- The lines of a list as JSON, without its brackets.
use Rattle.std.specs.Prelude.{ℕ, Bool, true, false, List, [], ◌∷◌, ◌++◌}
use Rattle.serde_json.specs.Data.{string}
use Rattle.serde_json.specs.Written.{comma_if, compact_text}
use Rattle.smap_printing.specs.Context.{shown_line}

-- a line, behind a comma where others stand before it
abbrev pub item_text : (later : Bool) → (line : List ℕ) → List ℕ
item_text later line = comma_if later ++ compact_text (string (shown_line line))

abbrev pub lines_text : (later : Bool) → List (List ℕ) → List ℕ
lines_text later [] = []
lines_text later (line ∷ lines) = item_text later line ++ lines_text true lines

-- there is one
abbrev pub has_line : List (List ℕ) → Bool
has_line [] = false
has_line (line ∷ lines) = true
