use Rattle.std.proofs.Common.{◌≡◌, ◌++◌, ℕ, length, map}
use Rattle.std.specs.Prelude.{All}
use Rattle.smap_index.specs.Parts.{joined}
use Rattle.smap_mappings.specs.Within.{IsWithin}
use Rattle.smap_originals.specs.Originals.{from_source, of_source, place_of}
use Rattle.smap_originals.proofs.gather.gather.Given as goal

-- the places so far and those of the mappings that are left are all
abbrev pub invariant-loop-mapping : goal.invariant-loop-mapping
invariant-loop-mapping l =
    let sources = length l.fn.file.stated.sources in
    let all = joined l.fn.file.stated.parts in
    record {
      can : (goal.iterator-loop-mapping).can_next l.mapping-iterator;
      finite : (goal.iterator-loop-mapping).is_finite l.mapping-iterator;
      many : length l.gathered.items ≡ sources;
      within : All (IsWithin sources (length l.fn.file.stated.names)) l.mapping-iterator;
      each : (source : ℕ) → of_source l.gathered.items source ++ map place_of (from_source source l.mapping-iterator) ≡ map place_of (from_source source all);
    }
