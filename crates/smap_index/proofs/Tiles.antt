-- How the checkpoints of a table lie on a list of mappings: each has the mappings up to the next one after it, which
-- stand on its line in its part, and are fewer than the interval.
use Rattle.std.proofs.Common.{◌≡◌, ℕ, ◌+◌, ◌<◌, List, [], ◌∷◌, ◌++◌, Some, length, drop}
use Rattle.std.specs.List.{AllByRecursion, slice_get}
use Rattle.smap_mappings.specs.State.{IsAfter}
use Rattle.smap_mappings.specs.declared.mapping.Mapping.{Mapping}
use Rattle.smap_index.specs.Checkpoint.{mapping_of, state_of}
use Rattle.smap_index.specs.Parts.{placed}
use Rattle.smap_index.specs.declared.part.Part.{Part}
use Rattle.smap_index.specs.declared.checkpoint.Checkpoint.{Checkpoint}

-- the list begins with this checkpoint's mapping, after which stand those up to the next checkpoint, and then the rest
pub record IsTile (parts : List Part) (interval : ℕ) (list : List Mapping) (checkpoint : Checkpoint) (rest : List Mapping) : Type 0 where
  pub part : Part
  pub segment : ℕ
  pub part_is : slice_get parts checkpoint.part ≡ Some part
  pub mapping_is : slice_get (placed part) segment ≡ Some (mapping_of checkpoint)
  pub state_is : IsAfter part.text (segment + 1) (state_of part checkpoint)
  pub after : List Mapping
  pub few : length after < interval
  pub on_line : AllByRecursion (λ (m : Mapping). m.line ≡ (mapping_of checkpoint).line) after
  pub list_is : list ≡ mapping_of checkpoint ∷ after ++ rest
  -- what the part holds after them begins the rest
  pub part_rest : List Mapping
  pub later : List Mapping
  pub part_after : drop (segment + 1) (placed part) ≡ after ++ part_rest
  pub rest_is : rest ≡ part_rest ++ later

-- the tiles of a table's checkpoints are, one after the other, the list
abbrev pub IsTiled : List Part → ℕ → List Mapping → List Checkpoint → Type 0
IsTiled parts interval list [] = list ≡ []
IsTiled parts interval list (checkpoint ∷ checkpoints) =
    (rest : List Mapping) × IsTile parts interval list checkpoint rest × IsTiled parts interval rest checkpoints
