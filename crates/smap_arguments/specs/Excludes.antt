-- What excludes each other among the words and options of `rewrite`, each of which it takes by itself.
use Rattle.std.specs.Prelude.{◌++◌, ◌∷◌, ◌==◌, ◌&&◌, Bool, List, [], None, Option, Some, String, codes, if◌then◌else◌, length, nat_lt, not, string_bytes, vec_len}
use Rattle.std.specs.List.{list_any}
use Rattle.std.specs.Str.{bytes_eq}
use Rattle.clap.specs.Words.{Text}
use Rattle.smap_command.specs.Limits.{most_hidden}
use Rattle.smap_command.specs.declared.options.FurtherOptions.{FurtherOptions}

-- sources are named by paths, and resolved against a URL
abbrev pub base_and_paths_line : Text
base_and_paths_line = codes "usage: not together: --base, --paths" ++ 10 ∷ []

-- lines of frames are dropped, and places are rewritten anywhere in a line
abbrev pub both_flags_line : Text
both_flags_line = codes "usage: not together: --hide-ignored, --anywhere" ++ 10 ∷ []

-- each place is one of a URL that ends in nothing, as times of day are
abbrev pub any_url_line : Text
any_url_line = codes "usage: not together: *=FILE, --anywhere" ++ 10 ∷ []

-- a URL is the pattern of all that there are: `*` alone
abbrev pub is_any_url : (url : Text) → Bool
is_any_url url = bytes_eq url (codes "*")

-- texts that hide frames are more than there may be
abbrev pub many_hidden_line : Text
many_hidden_line = codes "usage: more than 16 --hide" ++ 10 ∷ []

-- one of them is empty, as each name has it
abbrev pub empty_hidden_line : Text
empty_hidden_line = codes "usage: --hide without TEXT" ++ 10 ∷ []

-- a text is empty
abbrev pub has_empty : {A : Type 0} → List (String A) → Bool
has_empty = list_any (λ text. length (string_bytes text) == 0)

-- they are beside places anywhere in a line
abbrev pub hidden_anywhere_line : Text
hidden_anywhere_line = codes "usage: not together: --hide, --anywhere" ++ 10 ∷ []

module _ {A : Type 0} (maps : List (String A × String A)) where
  -- a pair is of all URLs
  abbrev pub has_any_url : Bool
  has_any_url = list_any (λ pair. is_any_url (string_bytes pair.0)) maps

  -- the line that is reported of these pairs and options of `rewrite`, where one is
  abbrev pub excluded_line : (has_base hide_ignored : Bool) → FurtherOptions → Option Text
  excluded_line has_base hide_ignored options = if nat_lt most_hidden (vec_len options.hide) then Some many_hidden_line
      else (if has_empty options.hide.items then Some empty_hidden_line
      else (if has_base && options.paths then Some base_and_paths_line
      else (if not options.anywhere then None
      else (if hide_ignored then Some both_flags_line
      else (if not (vec_len options.hide == 0) then Some hidden_anywhere_line
      else (if has_any_url then Some any_url_line else None))))))
