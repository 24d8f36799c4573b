-- URLs of which no file is asked for (this project's own): those of node's own modules, and those by which V8 and Firefox name
-- texts that were evaluated, before the place or behind the URL and the line where that was done.
use Rattle.std.specs.Prelude.{ℕ, ◌||◌, ◌&&◌, Bool, true, false, not, List, Option, Some, None, codes, is_some}
use Rattle.std.specs.Bool.{nat_eq}
use Rattle.std.specs.List.{ends_with, starts_with}
use Rattle.smap_locations.specs.ByText.{value_under}
use Rattle.smap_locations.specs.Locations.{LocationsSeen}
use Rattle.smap_record.specs.Record.{MapRecord}

abbrev pub is_of_node : (url : List ℕ) → Bool
is_of_node url = starts_with nat_eq url (codes "node:")

-- as V8 names it; no argument can have such a URL
abbrev pub is_of_eval : (url : List ℕ) → Bool
is_of_eval url = starts_with nat_eq url (codes "eval at ")

-- as Firefox names it
abbrev pub is_evaluated : (url : List ℕ) → Bool
is_evaluated url = ends_with nat_eq url (codes " > eval") || ends_with nat_eq url (codes " > Function")

-- it is one of them, and no file is named for exactly it
abbrev pub asks_no_file : LocationsSeen → (url : List ℕ) → Bool
asks_no_file locations url = (is_of_node url || (is_of_eval url || is_evaluated url)) && not (is_some (value_under url locations.files))

-- what is known of a URL before any file is asked for: its map, where the table has it; or that it has none
abbrev pub known_beside : (stated : Option MapRecord) → (asks_none : Bool) → Option (Option MapRecord)
known_beside (Some stated) asks_none = Some (Some stated)
known_beside None true = Some None
known_beside None false = None

abbrev pub known_of : (exact : List (List ℕ × MapRecord)) → LocationsSeen → (url : List ℕ) → Option (Option MapRecord)
known_of exact locations url = known_beside (value_under url exact) (asks_no_file locations url)
