-- Lines that are printed where a text is rewritten.
use Rattle.std.specs.Prelude.{Bool, if◌then◌else◌, ℕ, codes, List, [], ◌∷◌}
use Rattle.smap_codes.specs.Codes.{text_of}
use Rattle.smap_codes.specs.declared.code.Code.TheVariants.{A4}
use Rattle.smap_command.specs.Lines.{line_from}
use Rattle.smap_replies.specs.Lines.{map_refused_line}
use Rattle.smap_text.specs.Shown.{shown}

-- memory ran out while the map of a file was read
abbrev pub map_memory_line : (path : List ℕ) → List ℕ
map_memory_line path = line_from (codes "memory: " ∷ shown path ∷ [])

-- the map of a file does not fit its generated file
abbrev pub misfit_line : (path : List ℕ) → List ℕ
misfit_line path = map_refused_line path (text_of A4)

-- what is counted, for one line: places anywhere, or frames
abbrev pub counted_text : (anywhere : Bool) → List ℕ
counted_text anywhere = if anywhere then codes " places" else codes " frames"
