-- What rewriting the places of a text does to its devices, where a function gives what is found under each URL: its map, or that and
-- what names the functions of its program.
use Rattle.std.specs.Prelude.{◌≡◌, ◌≤◌, ℕ, List, Option, filter, length}
use Rattle.std.specs.Io.KnownBytes.{IsAtEnd}
use Rattle.smap_io.specs.Device.{Gives, Takes}
use Rattle.smap_lines.specs.Editing.{DevicesSeen}
use Rattle.smap_lines.specs.Lines.{lines_with_ends}
use Rattle.smap_record.specs.Record.{MapRecord}
use Rattle.smap_trace.specs.Rewriting.{counts_seen}
use Rattle.smap_trace.specs.declared.outcome.Summary.{Summary}
use Rattle.smap_anywhere.specs.Parts.{Part}
use Rattle.smap_anywhere.specs.Replaced.{Replacing, by_maps, is_place, is_replaced_by, parts_text_by}

-- all that the input had, which is at most so many bytes, was read, and what its parts become was written, and nothing else;
-- and its lines, its places and those that are replaced were counted
pub record RewritesAnywhereUnder {F : Type 0} (by : Replacing F) (under : List ℕ → F) (parts : List ℕ → List Part) (most_bytes : ℕ)
    (before after : DevicesSeen) (summary : Summary) : Type 0 where
  pub bytes : List ℕ
  pub read : Gives before.input.left after.input.left bytes
  pub ended : IsAtEnd after.input.left
  pub fits : length bytes ≤ most_bytes
  pub written : Takes before.output.taken after.output.taken (parts_text_by by under (parts bytes))
  pub counted : counts_seen summary ≡ record {
    lines = length (lines_with_ends bytes);
    frames = length (filter is_place (parts bytes));
    mapped = length (filter (is_replaced_by by under) (parts bytes));
    hidden = 0;
  }

-- where functions keep their names
abbrev pub RewritesAnywhereBy : (maps : List ℕ → Option MapRecord) → (parts : List ℕ → List Part) → (most_bytes : ℕ) → (before after : DevicesSeen)
    → Summary → Type 0
RewritesAnywhereBy = RewritesAnywhereUnder by_maps
