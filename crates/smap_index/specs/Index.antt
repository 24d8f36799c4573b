-- What an index is: its parts, its interval, its checkpoints and its counts.
use Rattle.std.specs.Prelude.{◌≡◌, ℕ, ◌+◌, ◌*◌, ◌≤◌, List, None, false, length}
use Rattle.std.specs.List.{list_any}
use Rattle.smap_mappings.specs.Order.{IsInOrder}
use Rattle.smap_index.specs.Parts.{joined, bytes_in}
use Rattle.smap_index.specs.Faults.{build_fault}
use Rattle.smap_mappings.specs.Range.{is_mapping_past_limit}
use Rattle.smap_index.specs.Marks.{AreCheckpointsOf, used_lines_in}
use Rattle.smap_index.specs.declared.part.Part.{Part}
use Rattle.smap_index.specs.declared.checkpoint.Checkpoint.{Checkpoint}

-- what callers see of an index
pub record IndexContents : Type 0 where
  pub parts : List Part
  pub k : ℕ
  pub checkpoints : List Checkpoint
  pub segments : ℕ
  pub used_lines : ℕ

-- the index is of these parts at this interval: its table has, in order, one checkpoint for each mark and no other,
-- its counts are right, twice its segments are at most the bytes and the number of the texts, and its mappings are in
-- order and not past the limit
pub record IsIndexOf (index : IndexContents) (parts : List Part) (interval : ℕ) : Type 0 where
  pub parts_are : index.parts ≡ parts
  pub k_is : index.k ≡ interval
  pub marked : AreCheckpointsOf parts interval index.checkpoints
  pub segments_are : index.segments ≡ length (joined parts)
  pub used_lines_are : index.used_lines ≡ used_lines_in parts
  pub few : 2 * length (joined parts) ≤ bytes_in parts + length parts
  pub ordered : IsInOrder (joined parts)
  pub in_range : list_any is_mapping_past_limit (joined parts) ≡ false

-- what every index meets: its parts have no fault at its interval
pub record IsIndex (index : IndexContents) : Type 0 where
  pub sound : build_fault index.parts index.k ≡ None
  pub holds : IsIndexOf index index.parts index.k
