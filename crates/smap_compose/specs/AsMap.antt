-- A composed map as a map that is looked up, and composed on.
use Rattle.std.specs.Prelude.{ℕ}
use Rattle.smap_mappings.specs.Canonical.{canonical_text}
use Rattle.smap_record.specs.MapFile.{Map}
use Rattle.smap_record.specs.Regular.{regular_map}
use Rattle.smap_compose.specs.Composition.{Composition}

-- the map of its mappings, sources and names, with checkpoints at this interval
abbrev pub as_map : Composition → (k : ℕ) → Map
as_map composed k = regular_map composed.sources composed.names composed.file (canonical_text composed.mappings) k
