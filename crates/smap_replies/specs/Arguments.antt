-- Arguments of the command line that are pairs: of a URL, or of a source's name, and a path.
use Rattle.std.specs.Prelude.{ℕ, List, [], ◌∷◌, String, codes, string_bytes}
use Rattle.smap_verdicts.specs.Texts.{text_from}

-- an argument of `rewrite`: a URL and a path
abbrev pub argument_of : {A : Type 0} → String A × String A → List ℕ × List ℕ
argument_of word = (string_bytes word.0, string_bytes word.1)

-- how such an argument is written
abbrev pub argument_text : (url path : List ℕ) → List ℕ
argument_text url path = text_from (url ∷ codes "=" ∷ path ∷ [])
