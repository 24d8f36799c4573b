-- What is said after a refusal, or a mistake in the arguments, on a terminal.
use Rattle.std.specs.Prelude.{ℕ, ◌||◌, Bool, List, [], ◌∷◌, codes}
use Rattle.std.specs.Str.{bytes_eq}
use Rattle.smap_codes.specs.Codes.{label_of}
use Rattle.smap_codes.specs.declared.code.Code.{Code}
use Rattle.smap_command.specs.Lines.{line_from}

-- which word of `explain` says more
abbrev pub hint_line : Code → List ℕ
hint_line code = line_from (codes "smap explain " ∷ label_of code ∷ codes " says more" ∷ [])

-- the command of this name reads its text from standard input
abbrev pub reads_input : (name : List ℕ) → Bool
reads_input name =
    bytes_eq name (codes "rewrite") || bytes_eq name (codes "locate") || bytes_eq name (codes "positions") || bytes_eq name (codes "raw")

-- which is said
abbrev pub input_line : (name : List ℕ) → List ℕ
input_line name =
    line_from (codes "smap " ∷ name ∷ codes " reads its text from standard input: smap " ∷ name ∷ codes " .. < TEXT" ∷ [])
