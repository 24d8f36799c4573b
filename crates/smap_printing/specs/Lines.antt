-- The line that is printed of a place, and the lines where there is none.
use Rattle.std.specs.Prelude.{ℕ, ◌+◌, codes, Bool, if◌then◌else◌, Option, None, Some, List, [], ◌∷◌, ◌++◌}
use Rattle.std.specs.Fmt.{decimal}
use Rattle.smap_command.specs.Lines.{line_from}
use Rattle.smap_text.specs.Shown.{shown}

-- no mapping answers
abbrev pub none_line : List ℕ
none_line = line_from (codes "none" ∷ [])

-- the mapping that answers has no original
abbrev pub unmapped_line : List ℕ
unmapped_line = line_from (codes "unmapped" ∷ [])

-- the line is no position
abbrev pub bad_position_line : List ℕ
bad_position_line = line_from (codes "bad position" ∷ [])

-- what prints of a name
abbrev pub name_suffix : Option (List ℕ) → List ℕ
name_suffix None = []
name_suffix (Some name) = codes " name " ++ shown name

-- what prints of whether a source is ignored
abbrev pub ignored_text : Bool → List ℕ
ignored_text ignored = if ignored then codes " ignored" else []

-- what prints of the function that is asked for beside a place, where one is
abbrev pub function_suffix : Option (List ℕ) → List ℕ
function_suffix None = []
function_suffix (Some function) = codes "\t" ++ shown function

-- a place in a source that prints like this, and behind it the function, where one is asked for; its line and column count from 0,
-- and print from 1
abbrev pub place_line : (source : List ℕ) (line column : ℕ) (name : Option (List ℕ)) (ignored : Bool) (function : Option (List ℕ)) → List ℕ
place_line source line column name ignored function = line_from (
    source ∷ codes ":" ∷ decimal (line + 1) ∷ codes ":" ∷ decimal (column + 1)
    ∷ name_suffix name ∷ ignored_text ignored ∷ function_suffix function ∷ [])
