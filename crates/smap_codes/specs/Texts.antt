-- What is said of a code.
use Rattle.std.specs.Prelude.{◌≡◌, ◌++◌, ◌∷◌, List, [], None, Option, Some, codes, flat_map, map, ℕ}
use Rattle.smap_codes.specs.Codes.{text_of}
use Rattle.smap_codes.specs.declared.code.Code.{Code}
use Rattle.smap_codes.specs.declared.row.Row.{Row}

-- how it is called, as a line
abbrev pub title_line : Code → List ℕ
title_line code = text_of code ++ (10 ∷ [])

-- all that is to be known of it, on four lines
abbrev pub code_text : Row → List ℕ
code_text row = text_of row.code ++ (codes "\n  means: " ++ (row.meaning.now ++ (codes "\n  causes: " ++ (row.cause.now
    ++ (codes "\n  to do: " ++ (row.remedy.now ++ (10 ∷ [])))))))

-- nothing is told where there is no code, and else what is to be known of each, one after another
abbrev pub TellsOf : List Code → (told : Option (List ℕ)) → Type 0
TellsOf [] told = told ≡ None
TellsOf (code ∷ others) told = (rows : List Row) × (map (λ row. row.code) rows ≡ code ∷ others) × (told ≡ Some (flat_map code_text rows))
