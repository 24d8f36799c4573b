-- A regular map that no file was read for.
use Rattle.std.specs.Prelude.{ℕ, List, [], ◌∷◌, Option}
use Rattle.smap_index.specs.Parts.{whole_text}
use Rattle.smap_record.specs.MapFile.{Map}
use Rattle.smap_record.specs.Sources.{StatedSource}

-- the map with these sources, these names, this generated file and this mappings text, and checkpoints at this interval
abbrev pub regular_map : List StatedSource → List (List ℕ) → Option (List ℕ) → (mappings : List ℕ) → (k : ℕ) → Map
regular_map sources names file mappings k = record {
  stated = record { parts = whole_text mappings ∷ []; sources = sources; names = names; file = file };
  k = k;
}
