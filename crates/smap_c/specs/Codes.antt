-- The number of each code: its place among all of them, from 1. A new code stands behind all others, so that a number stays.
use Rattle.std.specs.Prelude.{ℕ, suc, ◌-◌, ◌==◌, Bool, List, Option, None, slice_get, if◌then◌else◌}
use Rattle.std.specs.List.{position}
use Rattle.std.specs.Option.{option_map_or}
use Rattle.std.specs.Str.{bytes_eq}
use Rattle.smap_codes.specs.Codes.{all_codes, label_of}
use Rattle.smap_codes.specs.declared.code.Code.{Code}

-- a code is called so
abbrev pub has_label : (label : List ℕ) → Code → Bool
has_label label code = bytes_eq (label_of code) label

-- the number of a code, and none of them has 0
unfoldable pub code_number : Code → ℕ
code_number code = option_map_or suc (position (has_label (label_of code)) all_codes) 0

-- the code of a number, if it has one
abbrev pub code_at : (number : ℕ) → Option Code
code_at number = if number == 0 then None else slice_get all_codes (number - 1)
