-- A map that is read with its debug id, and a text that it is written into.
use Rattle.std.proofs.Common.{◌<◌, ℕ, Bool, List, Option, Result, Ok, Err, arith, inl, inr, length, subst, sym}
use Rattle.smap_map_answers.specs.WithId.{IsStatedWithId, ReportsMapWithId, id_where}
use Rattle.smap_record.specs.Record.{MapRecord, record_of}
use Rattle.smap_record.specs.Sources.{StatedSource}
use Rattle.smap_record.specs.Written.{written}
use Rattle.smap_record.specs.declared.refusal.MapRefusal.{MapRefusal}
use Rattle.smap_replies.specs.Files.{MayRead}
use Rattle.smap_replies.specs.Map.{Never, ReportsFound, ReportsMap, refusal_result}
use Rattle.smap_replies.specs.Outcome.{OrMemory, Report}
use Rattle.url.specs.Parts.{Parts}

-- nothing but a refusal is reported where nothing is reported a map
pub refused_so : (refusal_of : MapRefusal → Report) (found : Result MapRecord MapRefusal) (Reports : MapRecord → Report → Type 0) (report : Report)
    → ReportsFound refusal_of found Never report → ReportsFound refusal_of found Reports report
refused_so refusal_of (Err refused) Reports report reported = reported
refused_so refusal_of (Ok stated) Reports report (inl reported) = inl reported
refused_so refusal_of (Ok stated) Reports report (inr never) = absurd never

module _ (Reads : MayRead) (number : ℕ) (path : List ℕ) (base : Option Parts) (k : ℕ) (asked : Bool)
    (Reports : Option (List ℕ) → MapRecord → Report → Type 0) (report : Report) where
  -- the file can't be read, or its map is refused
  pub refused_with_id : OrMemory (ReportsMap Reads number path base k Never) report
      → OrMemory (ReportsMapWithId Reads number path base k asked Reports) report
  refused_with_id (inl no_memory) = inl no_memory
  refused_with_id (inr (inl unread)) = inr (inl unread)
  refused_with_id (inr (inr (bytes, reads, refused))) =
      inr (inr (bytes, reads, refused_so (refusal_result path) (record_of bytes base k) (Reports (id_where asked bytes)) report refused))

  -- or its map decides
  pub stated_with_id : (id : Option (List ℕ)) (stated : MapRecord) → IsStatedWithId Reads number path base k asked id stated
      → OrMemory (Reports id stated) report → OrMemory (ReportsMapWithId Reads number path base k asked Reports) report
  stated_with_id id stated is (inl no_memory) = inl no_memory
  stated_with_id id stated is (inr reported) =
      inr (inr (
        is.bytes,
        is.reads,
        subst (λ found. ReportsFound (refusal_result path) found (Reports (id_where asked is.bytes)) report) (sym is.states)
            (inr (subst (λ own. Reports own stated report) is.has_id reported)),
      ))

-- the text of a written map is not empty
pub written_some : (sources : List StatedSource) (names : List (List ℕ)) (file : Option (List ℕ)) (mappings : List ℕ)
    → 0 < length (written sources names file mappings)
unfolding written
written_some sources names file mappings = omega arith
