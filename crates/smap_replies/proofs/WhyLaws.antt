-- Why a file gives no map.
use Rattle.std.proofs.Common.{ℕ, Bool, List, inl, inr}
use Rattle.std.specs.Prelude.{Option, Result, Ok, Err, true}
use Rattle.smap_record.specs.Record.{MapRecord, record_of}
use Rattle.smap_record.specs.declared.refusal.MapRefusal.{MapRefusal}
use Rattle.smap_replies.specs.Files.{MayRead}
use Rattle.smap_replies.specs.Map.{Never, ReportsRead}
use Rattle.smap_replies.specs.Outcome.{OrMemory, Report}
use Rattle.smap_replies.specs.Why.{IsRefused, ReportsMapWhy}
use Rattle.url.specs.Parts.{Parts}

-- it is read, and its map is refused
pub read_why : (Reads : MayRead) (number : ℕ) (path bytes : List ℕ) (base : Option Parts) (k : ℕ) → Reads number path (Ok bytes)
    → (report : Report) → OrMemory (ReportsRead (IsRefused bytes path true) (record_of bytes base k) Never) report
    → OrMemory (ReportsMapWhy Reads true number path base k Never) report
read_why Reads number path bytes base k reads report (inl no_memory) = inl no_memory
read_why Reads number path bytes base k reads report (inr refused) = inr (inr (bytes, reads, refused))

-- what is reported where nothing is reported a map is reported whatever is reported a map
module _ (Reads : MayRead) (explain : Bool) (number : ℕ) (path : List ℕ) (base : Option Parts) (k : ℕ) (Reports : MapRecord → Report → Type 0) (report : Report) where
  refused_read : (Refuses : MapRefusal → Report → Type 0) (read : Result MapRecord MapRefusal) → ReportsRead Refuses read Never report
      → ReportsRead Refuses read Reports report
  refused_read Refuses (Err refused) reported = reported
  refused_read Refuses (Ok stated) (inl url) = inl url
  refused_read Refuses (Ok stated) (inr never) = absurd never

  pub refused_why : OrMemory (ReportsMapWhy Reads explain number path base k Never) report → OrMemory (ReportsMapWhy Reads explain number path base k Reports) report
  refused_why (inl no_memory) = inl no_memory
  refused_why (inr (inl unread)) = inr (inl unread)
  refused_why (inr (inr (bytes, reads, refused))) =
      inr (inr (bytes, reads, refused_read (IsRefused bytes path explain) (record_of bytes base k) refused))
