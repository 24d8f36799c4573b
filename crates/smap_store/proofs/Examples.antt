-- The definitions on small examples.
use Rattle.std.proofs.Common.{◌≡◌, ℕ, List, [], ◌∷◌, Some, None, Err, codes, refl}
use Rattle.smap_locations.specs.Locations.{LocationsSeen, key_for, path_for}
use Rattle.smap_record.specs.Record.{MapRecord}
use Rattle.smap_trace.specs.Table.{is_bad_url}
use Rattle.smap_store.specs.Cache.{CacheSeen, cache_at_first, kept_under, with_none}
use Rattle.smap_locations.specs.ListLine.{entry_of}
use Rattle.smap_store.specs.MapList.{line_fault}
use Rattle.smap_trace.specs.declared.maps.NoMap.TheVariants.{Unnamed, Unread}
use Rattle.smap_locations.specs.declared.refusal.ListFault.TheVariants.{NoTab, NoFolder, Twice}

-- a file, a folder and a pattern
places : LocationsSeen
places = record {
  files = (codes "a:/f?1", codes "f.map") ∷ [];
  folders = (codes "a:/", codes "m/") ∷ [];
  patterns = (codes "g.js", codes "g.map") ∷ [];
}

-- the URL that a file is named for stands for itself, and others for what stands before their query
key_of_file : key_for places (codes "a:/f?1") ≡ codes "a:/f?1"
unfolding places
key_of_file = refl

key_of_other : key_for places (codes "a:/f?2#x") ≡ codes "a:/f"
unfolding places
key_of_other = refl

path_of_file : path_for places (codes "a:/f?1") ≡ Some (codes "f.map")
unfolding places
path_of_file = refl

-- two URLs that have none, of 4 and 5 bytes, within a sixteenth of 4,240 bytes; of 4,239 the longest unused is dropped
first_none : (most : ℕ) → CacheSeen
first_none most = with_none (codes "a:/f") Unnamed (cache_at_first most)

both_kept : kept_under (codes "a:/f") (with_none (codes "a:/fg") Unread (first_none 4240)) ≡ Some (Err Unnamed)
unfolding first_none
both_kept = refl

last_kept : kept_under (codes "a:/fg") (with_none (codes "a:/fg") Unread (first_none 4239)) ≡ Some (Err Unread)
unfolding first_none
last_kept = refl

first_dropped : kept_under (codes "a:/f") (with_none (codes "a:/fg") Unread (first_none 4239)) ≡ None
unfolding first_none
first_dropped = refl

-- a line is cut at its first TAB
cut_line : entry_of (codes "a:/f\tb\tc") ≡ Some (codes "a:/f", codes "b\tc")
cut_line = refl

-- lines that are taken, and why others are not
exact : List (List ℕ × MapRecord)
exact = []

comment : line_fault exact places (codes "# maps") ≡ None
unfolding exact
comment = refl

no_tab : line_fault exact places (codes "a:/f m/f") ≡ Some NoTab
no_tab = refl

no_folder : line_fault exact places (codes "a:\tm/") ≡ Some NoFolder
no_folder = refl

folder_twice : line_fault exact places (codes "a:/\tn/") ≡ Some Twice
unfolding places is_bad_url
folder_twice = refl

file_twice : line_fault exact places (codes "a:/f?1\tg.map") ≡ Some Twice
unfolding exact places is_bad_url
file_twice = refl

pattern_twice : line_fault exact places (codes "*g.js\th.map") ≡ Some Twice
unfolding places
pattern_twice = refl

pattern_of_folder : line_fault exact places (codes "*g.js\tm/") ≡ Some NoFolder
pattern_of_folder = refl

every_url : line_fault exact places (codes "*\th.map") ≡ None
unfolding places
every_url = refl
