-- Which segments have a checkpoint, and what a checkpoint is of.
use Rattle.std.specs.Prelude.{◌≡◌, ℕ, ◌+◌, ◌/◌, ◌%◌, ◌≤◌, List, [], ◌∷◌, ◌++◌, Some, Bool, false, ◌==◌, ◌&&◌, if◌then◌else◌, length, map, filter}
use Rattle.std.specs.Prelude.{slice_get}
use Rattle.std.specs.List.{AllZip, sum_by}
use Rattle.std.specs.Option.{option_map_or}
use Rattle.smap_mappings.specs.Counts.{used_lines_of}
use Rattle.smap_mappings.specs.State.{IsAfter}
use Rattle.smap_mappings.specs.declared.mapping.Mapping.{Mapping}
use Rattle.smap_index.specs.declared.part.Part.{Part}
use Rattle.smap_index.specs.declared.checkpoint.Checkpoint.{Checkpoint}
use Rattle.smap_index.specs.Checkpoint.{mapping_of, state_of}
use Rattle.smap_index.specs.Parts.{placed}

-- a segment, by the number of its part and its own number in that part, both from 0
pub record Mark : Type 0 where
  pub part : ℕ
  pub segment : ℕ

abbrev pub mark_in : ℕ → ℕ → Mark
mark_in part segment = record { part = part; segment = segment }

-- how many of these mappings stand on this line
abbrev pub count_on_line : ℕ → List Mapping → ℕ
count_on_line line mappings = length (filter (λ mapping. mapping.line == line) mappings)

-- the number of a mapping on its line, from 0, where these stand before it in its part
abbrev pub number_on_line : List Mapping → Mapping → ℕ
number_on_line before mapping = count_on_line mapping.line before

-- of some mappings of a part, where the others stand before them, the segment numbers of those whose number on their
-- line is a multiple of the interval
abbrev pub marked_segments : ℕ → List Mapping → List Mapping → List ℕ
marked_segments interval before [] = []
marked_segments interval before (mapping ∷ mappings) =
    let after = marked_segments interval (before ++ mapping ∷ []) mappings in
    if number_on_line before mapping % interval == 0 then length before ∷ after else after

-- the marks of these parts, the first of which has this number
abbrev pub marks_from : ℕ → List Part → ℕ → List Mark
marks_from i [] interval = []
marks_from i (part ∷ parts) interval = map (mark_in i) (marked_segments interval [] (placed part)) ++ marks_from (i + 1) parts interval

-- in order, the segments whose number on their part's line is a multiple of the interval
abbrev pub marks : List Part → ℕ → List Mark
marks parts interval = marks_from 0 parts interval

-- the mark is of a segment on this line of this part, which has this number
abbrev pub is_mark_on_line : Part → ℕ → ℕ → Mark → Bool
is_mark_on_line part number line mark =
    mark.part == number && option_map_or (λ mapping. mapping.line == line) (slice_get (placed part) mark.segment) false

-- on a line of a part there are at most as many marks as its segments divided by the interval, rounded down, and one
abbrev pub HasFewMarksOnEachLine : List Part → ℕ → Type 0
HasFewMarksOnEachLine parts interval = (number line : ℕ) (part : Part) → slice_get parts number ≡ Some part
    → length (filter (is_mark_on_line part number line) (marks parts interval)) ≤ count_on_line line (placed part) / interval + 1

-- the checkpoint is of this segment of the part that has this number: its mapping is the segment's, at its place, and
-- its state is the one after the segment
pub record IsCheckpointIn (part : Part) (number segment : ℕ) (checkpoint : Checkpoint) : Type 0 where
  pub number_is : checkpoint.part ≡ number
  pub mapping_is : slice_get (placed part) segment ≡ Some (mapping_of checkpoint)
  pub state_is : IsAfter part.text (segment + 1) (state_of part checkpoint)

-- the checkpoint is of this mark
pub record IsCheckpointOf (parts : List Part) (mark : Mark) (checkpoint : Checkpoint) : Type 0 where
  pub part : Part
  pub part_is : slice_get parts mark.part ≡ Some part
  pub inside : IsCheckpointIn part mark.part mark.segment checkpoint

-- the table has, in order, one checkpoint for each mark and no other
abbrev pub AreCheckpointsOf : List Part → ℕ → List Checkpoint → Type 0
AreCheckpointsOf parts interval checkpoints = AllZip (IsCheckpointOf parts) (marks parts interval) checkpoints

-- how many lines hold a mapping, each part's lines counted by themselves
abbrev pub used_lines_in : List Part → ℕ
used_lines_in parts = sum_by (λ part. used_lines_of part.text) parts
