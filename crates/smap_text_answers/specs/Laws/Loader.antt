-- Laws of what reads maps from files, which its trait asks for.
use Rattle.std.specs.Prelude.{ℕ, List, Bool, Option, None, Ok, Err, option_copied, refl}
use Rattle.std.proofs.Common.{inr, subst}
use Rattle.url.specs.Parts.{Parts}
use Rattle.smap_record.specs.Record.{MapRecord}
use Rattle.smap_store.specs.Loaded.{Came, record_in}
use Rattle.smap_trace.specs.declared.maps.NoMap.TheVariants.{Memory}
use Rattle.smap_replies.specs.Files.{MayCause, MayRead}
use Rattle.smap_text_answers.specs.Loader.{IsSameLoader, LoaderSeen, Loads, MayLoad}
use Rattle.smap_replies.specs.Outcome.{out_of_memory}
use Rattle.smap_text_answers.specs.declared.loader.FileLoader.{FileLoader}

module _ (Reads : MayRead) (paths : Bool) (base : Option Parts) (k number : ℕ) (fit : Option ℕ) where
  pub some_load : (url path : List ℕ) → (found : Option MapRecord) × MayLoad Reads paths base k number fit url path found
  some_load url path = (None, (Memory, out_of_memory, (tt, inr refl)))

  pub given_load : (Causes : MayCause) (old new : LoaderSeen) (url path : List ℕ) (came : Came)
      → Loads Reads Causes paths base k number fit old url path came new
      → MayLoad Reads paths base k number fit url path (record_in came)
  given_load Causes old new url path (Err why) loads = (why, loads.0, loads.1)
  given_load Causes old new url path (Ok (stated, file_bytes)) loads = (file_bytes, loads.0, loads.1)

pub same_load : {F E : Type 0} (gives : F → MayRead) (old new : FileLoader F E) → IsSameLoader old new → (url path : List ℕ) (found : Option MapRecord)
    → MayLoad (gives new.maps.now.files.now) new.paths (option_copied new.maps.now.base) new.maps.now.interval new.number new.fit url path found
    → MayLoad (gives old.maps.now.files.now) old.paths (option_copied old.maps.now.base) old.maps.now.interval old.number old.fit url path found
same_load gives old new same url path found may =
    subst (λ c. MayLoad (gives old.maps.now.files.now) old.paths (option_copied old.maps.now.base) old.maps.now.interval old.number c url path found) same.fit
    (subst (λ n. MayLoad (gives old.maps.now.files.now) old.paths (option_copied old.maps.now.base) old.maps.now.interval n new.fit url path found) same.number
    (subst (λ p. MayLoad (gives old.maps.now.files.now) p (option_copied old.maps.now.base) old.maps.now.interval new.number new.fit url path found) same.paths
    (subst (λ m. MayLoad (gives m.now.files.now) new.paths (option_copied m.now.base) m.now.interval new.number new.fit url path found) same.maps may)))
