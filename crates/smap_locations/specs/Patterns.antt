-- Patterns of URLs (this project's own): a text that stands behind `*`, with the path of a file or, where that ends in `/`, of a
-- folder. A file is for the URLs that end with the text, and a folder for those in which it stands; and there a piece of the
-- URL begins, which `/` or `\` ends. Of a URL's patterns the one with the longest text decides.
use Rattle.std.specs.Prelude.{ℕ, ◌==◌, ◌||◌, ◌&&◌, ◌-◌, Bool, true, not, nat_lt, List, [], ◌∷◌, Option, Some, None, codes, drop, false, filter, is_some, length, map, option_map, take}
use Rattle.std.specs.Prelude.{if◌then◌else◌}
use Rattle.std.specs.Bool.{nat_eq}
use Rattle.std.specs.List.{ends_with, list_any, starts_with}
use Rattle.std.specs.Str.{bytes_eq}
use Rattle.smap_locations.specs.ListLine.{is_folder}
use Rattle.smap_locations.specs.Named.{Named}
use Rattle.smap_locations.specs.Paths.{map_path}
use Rattle.smap_locations.specs.declared.refusal.LocationRefusal.{LocationRefusal}
use Rattle.smap_locations.specs.declared.refusal.LocationRefusal.TheVariants.{NoFolder, Twice}

-- ---- pieces

-- what stands between the pieces of a URL
abbrev pub is_separator : ℕ → Bool
is_separator byte = byte == 47 || byte == 92

abbrev pub begins_with_separator : List ℕ → Bool
begins_with_separator text = starts_with nat_eq text (codes "/") || starts_with nat_eq text (codes "\\")

abbrev pub ends_in_separator : List ℕ → Bool
ends_in_separator text = ends_with nat_eq text (codes "/") || ends_with nat_eq text (codes "\\")

-- ---- the URLs of a file

-- behind these bytes of a URL a text begins with a piece, or with what stands before one
abbrev pub begins_piece : (before text : List ℕ) → Bool
begins_piece before text = length before == 0 || ends_in_separator before || begins_with_separator text

-- what stands before the end of a URL that has as many bytes as a text
abbrev pub before_end : (text url : List ℕ) → List ℕ
before_end text url = take (length url - length text) url

-- a URL ends with a text, which is empty or begins so
abbrev pub has_ending : (text url : List ℕ) → Bool
has_ending text url =
    bytes_eq (drop (length url - length text) url) text && (length text == 0 || begins_piece (before_end text url) text)

-- ---- the URLs of a folder

-- what a URL has behind a text with which it begins, where that may begin there: `begins` says that a piece does
abbrev pub rest_here : (text : List ℕ) → (begins : Bool) → (url : List ℕ) → Option (List ℕ)
rest_here text begins url =
    if (begins || begins_with_separator url) && bytes_eq (take (length text) url) text then Some (drop (length text) url) else None

abbrev pub rest_or : Option (List ℕ) → (other : Option (List ℕ)) → Option (List ℕ)
rest_or None other = other
rest_or (Some rest) other = Some rest

-- what it has behind the first place of the text
abbrev pub rest_from : (text : List ℕ) → (begins : Bool) → (url : List ℕ) → Option (List ℕ)
rest_from text begins [] = None
rest_from text begins (byte ∷ url) = rest_or (rest_here text begins (byte ∷ url)) (rest_from text (is_separator byte) url)

abbrev pub rest_behind : (text url : List ℕ) → Option (List ℕ)
rest_behind text url = rest_from text true url

-- the rest as a path: where the text ends in `\`, each `\` stands for `/`
abbrev pub slash_for : ℕ → ℕ
slash_for byte = if byte == 92 then 47 else byte

abbrev pub path_byte : (has_backslashes : Bool) → ℕ → ℕ
path_byte true byte = slash_for byte
path_byte false byte = byte

abbrev pub with_slashes : (text rest : List ℕ) → List ℕ
with_slashes text rest = if ends_with nat_eq text (codes "\\") then map slash_for rest else rest

-- ---- one pattern, and a URL as it stands and without its query and its fragment

abbrev pub has_url : (pattern : List ℕ × List ℕ) → (url short : List ℕ) → Bool
has_url (text, path) url short =
    if is_folder path then is_some (rest_behind text short) else has_ending text url || has_ending text short

abbrev pub path_in : (text folder : List ℕ) → (rest : Option (List ℕ)) → Option (List ℕ)
path_in text folder None = None
path_in text folder (Some rest) = map_path folder (with_slashes text rest)

-- the path that it gives, where it gives one
abbrev pub path_by : (pattern : List ℕ × List ℕ) → (short : List ℕ) → Option (List ℕ)
path_by (text, path) short = if is_folder path then path_in text path (rest_behind text short) else Some path

-- ---- several patterns

-- one decides before another: its text is longer; or as long, and it is a file's and the other a folder's
abbrev pub comes_before : (pattern other : List ℕ × List ℕ) → Bool
comes_before (text, path) (other, other_path) =
    nat_lt (length other) (length text) || length text == length other && is_folder other_path && not (is_folder path)

abbrev pub is_better : (best : Option (List ℕ × List ℕ)) → (pattern : List ℕ × List ℕ) → Bool
is_better None pattern = true
is_better (Some best) pattern = comes_before pattern best

abbrev pub better : (url short : List ℕ) → (best : Option (List ℕ × List ℕ)) → (pattern : List ℕ × List ℕ) → Option (List ℕ × List ℕ)
better url short best pattern = if is_better best pattern && has_url pattern url short then Some pattern else best

-- the one that decides of these and of the best before them; of two that come before none of each other the first
abbrev pub deciding : (url short : List ℕ) → (best : Option (List ℕ × List ℕ)) → (patterns : Named) → Option (List ℕ × List ℕ)
deciding url short best [] = best
deciding url short best (pattern ∷ patterns) = deciding url short (better url short best pattern) patterns

abbrev pub path_of : (short : List ℕ) → Option (List ℕ × List ℕ) → Option (List ℕ)
path_of short None = None
path_of short (Some pattern) = path_by pattern short

-- the text of the pattern that decides for a URL
abbrev pub text_by_patterns : (patterns : Named) → (url short : List ℕ) → Option (List ℕ)
text_by_patterns patterns url short = option_map (λ pattern. pattern.0) (deciding url short None patterns)

-- the path that patterns give for a URL
abbrev pub path_by_patterns : (patterns : Named) → (url short : List ℕ) → Option (List ℕ)
path_by_patterns patterns url short = path_of short (deciding url short None patterns)

-- a pattern has the URL for its query or its fragment alone
abbrev pub needs_query : (url short : List ℕ) → (pattern : List ℕ × List ℕ) → Bool
needs_query url short (text, path) = not (is_folder path) && has_ending text url && not (has_ending text short)

-- in a text that is no trace a pattern has no URL by an empty text: `12:30:45` is a time of day
abbrev pub is_for_texts : (pattern : List ℕ × List ℕ) → Bool
is_for_texts pattern = not (length pattern.0 == 0)

-- the pattern that decides there for a URL gives a path
abbrev pub has_path_in_text : (patterns : Named) → (url short : List ℕ) → Bool
has_path_in_text patterns url short = is_some (path_by_patterns (filter is_for_texts patterns) url short)

-- ---- what is added

abbrev pub has_text : (text : List ℕ) → (pattern : List ℕ × List ℕ) → Bool
has_text text pattern = bytes_eq text pattern.0

-- why a pattern is not added, memory aside
abbrev pub pattern_refusal : (patterns : Named) → (text path : List ℕ) → Option LocationRefusal
pattern_refusal patterns text path =
    if is_folder path && not (ends_in_separator text) then Some NoFolder
    else if list_any (has_text text) patterns then Some Twice
    else None
