-- Where the map of a URL is (this project's own): in the file that is named for it, or for it without its query and its
-- fragment; else in the folder of the longest prefix of the latter; else where a pattern says.
use Rattle.std.specs.Prelude.{ℕ, zero, suc, ◌||◌, Bool, List, [], Option, Some, None, is_some, length, take, drop, if◌then◌else◌}
use Rattle.std.specs.List.{list_any}
use Rattle.smap_locations.specs.ListLine.{is_folder}
use Rattle.smap_locations.specs.ByText.{value_under}
use Rattle.smap_locations.specs.Named.{Named, twice}
use Rattle.smap_locations.specs.Paths.{map_path, without_query}
use Rattle.smap_locations.specs.Patterns.{has_path_in_text, needs_query, path_by_patterns, text_by_patterns}
use Rattle.smap_locations.specs.declared.refusal.LocationRefusal.{LocationRefusal}
use Rattle.smap_locations.specs.declared.refusal.LocationRefusal.TheVariants.{NoFolder}

-- files under URLs, folders under prefixes, and the files and folders of patterns
pub record LocationsSeen : Type 0 where
  pub files : Named
  pub folders : Named
  pub patterns : Named

-- what a folder has for a URL behind so many bytes, or else what another has
abbrev pub folder_path : (url : List ℕ) → (bytes : ℕ) → Option (List ℕ) → (other : Option (List ℕ)) → Option (List ℕ)
folder_path url bytes None other = other
folder_path url bytes (Some folder) other = map_path folder (drop bytes url)

-- what the folder of its longest prefix of at most so many bytes has for a URL
abbrev pub path_within : Named → (url : List ℕ) → (bytes : ℕ) → Option (List ℕ)
path_within folders url zero = None
path_within folders url (suc bytes) = folder_path url (suc bytes) (value_under (take (suc bytes) url) folders) (path_within folders url bytes)

-- what the folder of its longest prefix has
abbrev pub path_in_folders : Named → (url : List ℕ) → Option (List ℕ)
path_in_folders folders url = path_within folders url (length url)

abbrev pub or_else : Option (List ℕ) → Option (List ℕ) → Option (List ℕ)
or_else (Some path) other = Some path
or_else None other = other

-- the path of a URL's map, where it has one
abbrev pub path_for : LocationsSeen → (url : List ℕ) → Option (List ℕ)
path_for locations url =
    or_else (value_under url locations.files)
    (or_else (value_under (without_query url) locations.files)
    (or_else (path_in_folders locations.folders (without_query url)) (path_by_patterns locations.patterns url (without_query url))))

-- the text of the pattern that decides for a URL, where one does
abbrev pub pattern_for : LocationsSeen → (url : List ℕ) → Option (List ℕ)
pattern_for locations url = text_by_patterns locations.patterns url (without_query url)

-- what is named for the URL has a path, but for patterns
abbrev pub has_path_as_named : LocationsSeen → (url : List ℕ) → Bool
has_path_as_named locations url = is_some (path_for (record locations { patterns = [] }) url)

-- patterns have a path for the URL, and not by an empty text
abbrev pub has_pattern_path_in_text : LocationsSeen → (url : List ℕ) → Bool
has_pattern_path_in_text locations url = has_path_in_text locations.patterns url (without_query url)

-- what is named for a URL is so with its query and its fragment
abbrev pub is_whole : LocationsSeen → (url : List ℕ) → Bool
is_whole locations url = is_some (value_under url locations.files) || list_any (needs_query url (without_query url)) locations.patterns

-- the text that stands for a URL where maps are remembered
abbrev pub key_for : LocationsSeen → (url : List ℕ) → List ℕ
key_for locations url = if is_whole locations url then url else without_query url

-- ---- what is added

-- why a folder is not put under a prefix, memory aside
abbrev pub prefix_refusal : Named → (prefix : List ℕ) → Option LocationRefusal
prefix_refusal folders prefix = if is_folder prefix then twice folders prefix else Some NoFolder
