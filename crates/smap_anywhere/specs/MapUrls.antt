-- The URLs of maps (this project's own): those that an argument names, those of files that a list names, and those that folders and
-- patterns have. Where a URL is sought anywhere in a text, none with a quotation mark counts as named, so that a string stays one.
use Rattle.std.specs.Prelude.{ℕ, ◌==◌, ◌||◌, ◌&&◌, Bool, nat_le, not, List, Option, Some, None, if◌then◌else◌, is_some, length, map, take}
use Rattle.std.specs.List.{prefix_len}
use Rattle.std.specs.Str.{bytes_eq}
use Rattle.smap_locations.specs.ByText.{value_under}
use Rattle.smap_locations.specs.Common.{common_front, common_of}
use Rattle.smap_locations.specs.Locations.{has_path_as_named, has_pattern_path_in_text}
use Rattle.smap_locations.specs.Paths.{without_query}
use Rattle.smap_pairs.specs.Json.{has_quotation_mark}
use Rattle.smap_pairs.specs.Known.{UrlsKnown}
use Rattle.smap_pairs.specs.declared.known.NamedBy.{NamedBy}
use Rattle.smap_pairs.specs.declared.known.NamedBy.TheVariants.{Any, Argument, List as ByList}
use Rattle.smap_anywhere.specs.FrameUrl.{frame_url}
use Rattle.smap_anywhere.specs.MapsSeen.{MapsSeen}

-- ---- a text

-- it has neither a query nor a fragment
abbrev pub is_without_query : (text : List ℕ) → Bool
is_without_query text = bytes_eq (without_query text) text

-- ---- by what a file is named for a URL

abbrev pub is_argument : MapsSeen → (url : List ℕ) → Bool
is_argument maps url = is_some (value_under url maps.table)

abbrev pub is_listed : MapsSeen → (url : List ℕ) → Bool
is_listed maps url = is_some (value_under url maps.locations.files)

abbrev pub is_name : MapsSeen → (url : List ℕ) → Bool
is_name maps url = is_argument maps url || is_listed maps url

-- a list has a URL with any query and fragment, too, if it has it without
abbrev pub is_name_by : MapsSeen → NamedBy → (url : List ℕ) → Bool
is_name_by maps Any url = is_name maps url
is_name_by maps Argument url = is_argument maps url
is_name_by maps ByList url = is_listed maps url && is_without_query url

-- a folder is named for a text
abbrev pub has_folder : MapsSeen → (text : List ℕ) → Bool
has_folder maps text = is_some (value_under text maps.locations.folders)

-- ---- what they begin with

-- what texts all begin with of which some begin with one and the others with another, where there are any
abbrev pub common_join : (one other : Option (List ℕ)) → Option (List ℕ)
common_join None other = other
common_join (Some one) None = Some one
common_join (Some one) (Some other) = Some (common_front one other)

-- what URLs that arguments or lists name and prefixes of folders all begin with
abbrev pub common_begin : MapsSeen → Option (List ℕ)
common_begin maps =
    common_join (common_join (common_of (map (λ pair. pair.0) maps.table)) (common_of (map (λ pair. pair.0) maps.locations.files)))
    (common_of (map (λ pair. pair.0) maps.locations.folders))

-- what stands before the first backslash
abbrev pub before_backslash : List ℕ → List ℕ
before_backslash text = take (prefix_len (λ byte. not (byte == 92)) text) text

-- it has two bytes at least
abbrev pub if_long : List ℕ → Option (List ℕ)
if_long text = if nat_le 2 (length text) then Some text else None

abbrev pub front_of : Option (List ℕ) → Option (List ℕ)
front_of None = None
front_of (Some text) = if_long (before_backslash text)

-- what all URLs begin with, where there are no patterns, up to a backslash
abbrev pub front : MapsSeen → Option (List ℕ)
front maps = if length maps.locations.patterns == 0 then front_of (common_begin maps) else None

-- ---- what is known

abbrev pub urls_known : MapsSeen → UrlsKnown
urls_known maps = record {
  frame_url = frame_url;
  has_own = λ url. is_argument maps url || has_path_as_named maps.locations url;
  is_name = is_name maps;
  is_named = λ by url. is_name_by maps by url && not (has_quotation_mark url);
  is_prefix = λ text. has_folder maps text && is_without_query text && not (has_quotation_mark text);
  has_pattern = has_pattern_path_in_text maps.locations;
  front = front maps;
}
