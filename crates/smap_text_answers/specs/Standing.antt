-- Where the maps of URLs stand, and so what the bytes of their files state.
use Rattle.std.specs.Prelude.{ℕ, ◌&&◌, Bool, List, Option, Some, None, Result, is_none, if◌then◌else◌}
use Rattle.std.specs.Str.{is_utf8}
use Rattle.smap_locations.specs.Paths.{without_query}
use Rattle.smap_resolve.specs.ByPath.{is_path}
use Rattle.smap_record.specs.Record.{MapRecord}
use Rattle.smap_record.specs.declared.refusal.MapRefusal.{MapRefusal}
use Rattle.smap_replies.specs.Standing.{StandingSeen, record_standing}
use Rattle.smap_replies.specs.Standing.StandingSeen.{at_base, at_url, by_path}
use Rattle.url.specs.Parts.{Parts}

-- the sources of the map of a URL are named by that: it is asked for, there is no base, and the URL is a path from a root
abbrev pub goes_by_path : (paths : Bool) → (base : Option Parts) → (url : List ℕ) → Bool
goes_by_path paths base url = paths && is_none base && is_path url

-- another stands at the base where there is one, else at this URL
abbrev pub standing_at : (base : Option Parts) → (url : List ℕ) → StandingSeen
standing_at (Some base) url = at_base (Some base)
standing_at None url = at_url url

-- ---- of an argument

-- the map of the file that an argument names for a URL, with its sources named by that where paths are asked for
abbrev pub standing_named : (paths : Bool) → Option Parts → (url : List ℕ) → StandingSeen
standing_named paths base url = if goes_by_path paths base url then by_path url else standing_at base url

abbrev pub record_named : (paths : Bool) → Option Parts → (k : ℕ) → (url bytes : List ℕ) → Result MapRecord MapRefusal
record_named paths base k url bytes = record_standing (standing_named paths base url) k bytes

-- ---- of a URL that a text names

-- at that URL without its query and its fragment, where that is UTF-8
abbrev pub standing_of_text : Option Parts → (url : List ℕ) → StandingSeen
standing_of_text base url = if is_utf8 url then standing_at base url else at_base base

abbrev pub standing_loaded : (paths : Bool) → Option Parts → (url : List ℕ) → StandingSeen
standing_loaded paths base url = if goes_by_path paths base url then by_path url else standing_of_text base (without_query url)

abbrev pub record_loaded : (paths : Bool) → Option Parts → (k : ℕ) → (url bytes : List ℕ) → Result MapRecord MapRefusal
record_loaded paths base k url bytes = record_standing (standing_loaded paths base url) k bytes
