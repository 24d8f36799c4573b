-- Which codes a word calls.
use Rattle.std.specs.Prelude.{Bool, true, false, List, [], ◌∷◌, ◌||◌, ℕ}
use Rattle.std.specs.List.{filter}
use Rattle.std.specs.Str.{bytes_eq, str_to_ascii_lowercase}
use Rattle.smap_codes.specs.Codes.{all_codes, label_of, name_of}
use Rattle.smap_codes.specs.declared.code.Code.{Code}

-- the words differ in the case of ASCII letters at most
abbrev pub same_letters : (word other : List ℕ) → Bool
same_letters word other = bytes_eq (str_to_ascii_lowercase word) (str_to_ascii_lowercase other)

-- the word is the label or the name of a code, as it is or whatever the case of its letters
abbrev pub is_called : (exactly : Bool) (word : List ℕ) → Code → Bool
is_called true word code = bytes_eq word (label_of code) || bytes_eq word (name_of code)
is_called false word code = same_letters word (label_of code) || same_letters word (name_of code)

-- the first list, or the second where that is empty
abbrev pub some_or : (first second : List Code) → List Code
some_or [] second = second
some_or (code ∷ codes) second = code ∷ codes

-- the codes whose label or name it is, as names may be shared; where there is none, those whose it is in another case
abbrev pub codes_called : (word : List ℕ) → List Code
codes_called word = some_or (filter (is_called true word) all_codes) (filter (is_called false word) all_codes)
