-- A map that is read with its debug id, where that is asked for.
use Rattle.std.specs.Prelude.{◌≡◌, ℕ, Bool, List, Option, None, Ok, if◌then◌else◌, string_bytes}
use Rattle.smap_command.specs.declared.asked.MapChoice.{MapChoice}
use Rattle.smap_record.specs.DebugId.{debug_id_of}
use Rattle.smap_record.specs.Record.{MapRecord, record_of}
use Rattle.smap_replies.specs.Files.{MayRead, OfFile}
use Rattle.smap_replies.specs.Map.{ReportsFound, refusal_result}
use Rattle.smap_replies.specs.Outcome.{Report}
use Rattle.url.specs.Parts.{Parts}

-- the debug id of the map file of these bytes, where it is asked for and there is one
abbrev pub id_where : (asked : Bool) → (bytes : List ℕ) → Option (List ℕ)
id_where asked bytes = if asked then debug_id_of bytes else None

-- the file of this number and path gives a map that states this, and has this debug id, where that is asked for
pub record IsStatedWithId (Reads : MayRead) (number : ℕ) (path : List ℕ) (base : Option Parts) (k : ℕ) (asked : Bool) (id : Option (List ℕ))
    (stated : MapRecord) : Type 0 where
  pub bytes : List ℕ
  pub reads : Reads number path (Ok bytes)
  pub states : record_of bytes base k ≡ Ok stated
  pub has_id : id ≡ id_where asked bytes

-- the same of the map that a command chooses, which is the first of its files
abbrev pub StatesChosenWithId : MayRead → MapChoice → (asked : Bool) → (id : Option (List ℕ)) → MapRecord → Type 0
StatesChosenWithId Reads chosen = IsStatedWithId Reads 0 (string_bytes chosen.path) chosen.base chosen.interval

-- what the bytes of a file give decides, with their debug id, where that is asked for
abbrev pub ReportsMapWithId : MayRead → (number : ℕ) (path : List ℕ) → Option Parts → (k : ℕ) → (asked : Bool)
    → (Option (List ℕ) → MapRecord → Report → Type 0) → Report → Type 0
ReportsMapWithId Reads number path base k asked Reports =
    OfFile Reads number path (λ bytes. ReportsFound (refusal_result path) (record_of bytes base k) (Reports (id_where asked bytes)))
