-- What the maps of a text are, where each path gives the same bytes whenever it is read.
use Rattle.std.specs.Prelude.{◌≡◌, ◌⊎◌, ℕ, Bool, false, List, Option, Some, None, Result, Ok, Err}
use Rattle.url.specs.Parts.{Parts}
use Rattle.smap_io.specs.declared.transfer.ReadFailure.TheVariants.{Device}
use Rattle.smap_record.specs.Record.{MapRecord}
use Rattle.smap_record.specs.declared.refusal.MapRefusal.{MapRefusal}
use Rattle.smap_locations.specs.Locations.{LocationsSeen, key_for, path_for}
use Rattle.smap_store.specs.Fileless.{known_of}
use Rattle.smap_store.specs.Stored.{or_other}
use Rattle.smap_trace.specs.MapsOf.{MapsByUrl}
use Rattle.smap_replies.specs.Files.{MayRead}
use Rattle.smap_text_answers.specs.Standing.{record_loaded}

-- ---- the files

-- what each path gives
abbrev pub BytesByPath : Type 0
BytesByPath = (path : List ℕ) → Option (List ℕ)

-- bytes that are read at a path under this number are always those, so a path that has none can't be read
abbrev pub ReadsSame : MayRead → (number : ℕ) → BytesByPath → Type 0
ReadsSame Reads number bytes_at = (path bytes : List ℕ) → Reads number path (Ok bytes) → bytes_at path ≡ Some bytes

-- a path that fails under this number has none
abbrev pub FailsSame : MayRead → (number : ℕ) → BytesByPath → Type 0
FailsSame Reads number bytes_at = (path : List ℕ) → Reads number path (Err Device) → bytes_at path ≡ None

-- reading a path under this number always gives these bytes, or always fails
pub record ReadsAlike (Reads : MayRead) (number : ℕ) (bytes_at : BytesByPath) : Type 0 where
  pub same : ReadsSame Reads number bytes_at
  pub fails : FailsSame Reads number bytes_at

-- ---- the maps

-- the record, where there is one
abbrev pub stated_in : Result MapRecord MapRefusal → Option MapRecord
stated_in (Ok stated) = Some stated
stated_in (Err refused) = None

-- what the bytes state as the map of a URL, where there are some that are not refused
abbrev pub stated_by : (paths : Bool) → Option Parts → (k : ℕ) → (url : List ℕ) → Option (List ℕ) → Option MapRecord
stated_by paths base k url None = None
stated_by paths base k url (Some bytes) = stated_in (record_loaded paths base k url bytes)

-- the map that the file of each path gives, where it gives one, as that of a URL
abbrev pub MapsByPath : Type 0
MapsByPath = (url path : List ℕ) → Option MapRecord

abbrev pub maps_at : (paths : Bool) → Option Parts → (k : ℕ) → BytesByPath → MapsByPath
maps_at paths base k bytes_at url path = stated_by paths base k url (bytes_at path)

-- that of a URL of this path: none, where it has no path
abbrev pub by_path : MapsByPath → (url : List ℕ) (path : Option (List ℕ)) → Option MapRecord
by_path load url None = None
by_path load url (Some path) = load url path

-- the map of each URL: the one that it is known to have, and else that of its file
abbrev pub stored_maps : MapsByPath → (exact : List (List ℕ × MapRecord)) (locations : LocationsSeen) → MapsByUrl
stored_maps load exact locations url = or_other (known_of exact locations url) (by_path load (key_for locations url) (path_for locations url))

-- ---- what became of the maps

-- each that was looked for in a file was there, and none was refused; or what fails always fails, and none was lost
abbrev pub AreSettled : MayRead → (number : ℕ) → BytesByPath → (status : ℕ) → (lost : Bool) → Type 0
AreSettled Reads number bytes_at status lost = (status ≡ 0) ⊎ (FailsSame Reads number bytes_at × (lost ≡ false))
