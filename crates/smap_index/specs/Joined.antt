-- What is left of a walk through the mappings of parts.
use Rattle.std.specs.Prelude.{◌≡◌, ℕ, List, [], ◌∷◌, ◌++◌, false, drop}
use Rattle.std.specs.List.{list_any}
use Rattle.smap_mappings.specs.Range.{is_mapping_past_limit}
use Rattle.smap_mappings.specs.State.{IsAfter}
use Rattle.smap_mappings.specs.declared.cursor.Cursor.{Cursor}
use Rattle.smap_mappings.specs.declared.mapping.Mapping.{Mapping}
use Rattle.smap_index.specs.declared.part.Part.{Part}
use Rattle.smap_index.specs.Parts.{placed, joined}

-- the mappings of these parts that are left after this many of the first part
abbrev pub left_of : List Part → ℕ → List Mapping
left_of [] n = []
left_of (part ∷ parts) n = drop n (placed part) ++ joined parts

-- this is the state after so many segments of the first part, where there is one
abbrev pub IsAtFront : List Part → ℕ → Cursor → Type 0
IsAtFront [] n state = Unit {0}
IsAtFront (part ∷ parts) n state = IsAfter part.text n state

-- a walk is there, and no mapping of these parts is past the limit
pub record IsWalkThrough (parts : List Part) (n : ℕ) (state : Cursor) : Type 0 where
  pub there : IsAtFront parts n state
  pub in_range : list_any is_mapping_past_limit (joined parts) ≡ false
