-- The option `--require-mapped` of `rewrite`, whose number may be left out: it is 0 then.
use Rattle.std.specs.Prelude.{◌&&◌, Bool, false, true, not, List, [], ◌∷◌, codes, if◌then◌else◌}
use Rattle.std.specs.Str.{bytes_eq}
use Rattle.clap.specs.Words.{Text}

-- the arguments are those of `rewrite`
abbrev pub is_rewrite : List Text → Bool
is_rewrite [] = false
is_rewrite (program ∷ []) = false
is_rewrite (program ∷ name ∷ words) = bytes_eq name (codes "rewrite")

-- options may stand at this word and behind it: they might before it, and it is not `--`
abbrev pub may_be_options : (were : Bool) → (word : Text) → Bool
may_be_options were word = were && not (bytes_eq word (codes "--"))

-- the word with the number, where it is the option without one
abbrev pub numbered : (may : Bool) → (word : Text) → Text
numbered may word = if may && bytes_eq word (codes "--require-mapped") then codes "--require-mapped=0" else word

unfoldable pub numbered_words : (were : Bool) → List Text → List Text
numbered_words were [] = []
numbered_words were (word ∷ words) =
    numbered (may_be_options were word) word ∷ numbered_words (may_be_options were word) words

-- the same behind the program's name, where the arguments are those of `rewrite`
abbrev pub numbered_behind : List Text → List Text
numbered_behind [] = []
numbered_behind (program ∷ words) = program ∷ numbered_words true words

abbrev pub with_numbers : List Text → List Text
with_numbers arguments = if is_rewrite arguments then numbered_behind arguments else arguments
