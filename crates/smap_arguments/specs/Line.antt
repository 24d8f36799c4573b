-- Which command line reads the arguments: `lookup` has one of its own, and with `--generated`, where its words are others, another.
use Rattle.std.specs.Prelude.{◌&&◌, Bool, false, true, List, [], ◌∷◌, codes, if◌then◌else◌}
use Rattle.std.specs.Str.{bytes_eq}
use Rattle.clap.specs.Words.{App, Text}
use Rattle.smap_arguments.specs.CommandLine.{generated, lookup, smap, smap_with}

-- the arguments are those of `lookup`
abbrev pub is_lookup : List Text → Bool
is_lookup [] = false
is_lookup (program ∷ []) = false
is_lookup (program ∷ name ∷ words) = bytes_eq name (codes "lookup")

-- `--generated` is this word, or among those behind it, where this word is not `--`
abbrev pub is_generated_at : (word : Text) → (behind : Bool) → Bool
is_generated_at word behind = if bytes_eq word (codes "--") then false
    else (if bytes_eq word (codes "--generated") then true else behind)

-- it is among the words, before the first `--`
unfoldable pub has_generated : List Text → Bool
has_generated [] = false
has_generated (word ∷ words) = is_generated_at word (has_generated words)

-- the arguments are those of `lookup` with `--generated`
abbrev pub asks_generated : List Text → Bool
asks_generated [] = false
asks_generated (program ∷ []) = false
asks_generated (program ∷ name ∷ words) = bytes_eq name (codes "lookup") && has_generated words

-- the command line that reads them
abbrev pub line_for : (is_generated is_lookup : Bool) → App
line_for is_generated is_lookup = if is_generated then smap_with generated else (if is_lookup then smap_with lookup else smap)

abbrev pub line_of : (arguments : List Text) → App
line_of arguments = line_for (asks_generated arguments) (is_lookup arguments)
