-- What is known of an index that is not built (ECMA-426, Index source map), by the parts that it should have been built of.
use Rattle.std.specs.Prelude.{ℕ, ◌+◌, zero, suc, List, Option, Some, None, option_map, option_and_then, slice_get}
use Rattle.std.specs.List.{find}
use Rattle.smap_mappings.specs.Range.{is_mapping_past_limit}
use Rattle.smap_mappings.specs.declared.mapping.Mapping.{Mapping}
use Rattle.smap_index.specs.Faults.{is_after_offset}
use Rattle.smap_index.specs.Parts.{placed}
use Rattle.smap_index.specs.Position.{offset_of, position_of_mapping}
use Rattle.smap_index.specs.declared.part.Part.{Part}
use Rattle.smap_index.specs.declared.refusal.BuildRefusal.{BuildRefusal}
use Rattle.smap_index.specs.declared.refusal.BuildRefusal.TheVariants.{Interval, SectionOrder, SectionOverlap, PositionRange, Memory}
use Rattle.smap_explain.specs.declared.explanation.BuildFacts.{BuildFacts}
use Rattle.smap_explain.specs.declared.explanation.PrintedPlace.{PrintedPlace}

-- where a mapping stands, from 1
abbrev pub place_of : Mapping → PrintedPlace
place_of mapping = record { line = mapping.line + 1; column = mapping.column + 1 }

-- where a part begins, from 1
abbrev pub offset_place : Part → PrintedPlace
offset_place part = place_of (offset_of part)

-- the part before the one with this number, if there is one
abbrev pub part_before : List Part → ℕ → Option Part
part_before parts zero = None
part_before parts (suc section) = slice_get parts section

-- the part before the one with this number, and that one
abbrev pub adjacent_at : List Part → ℕ → Option (Part × Part)
adjacent_at parts section =
    option_and_then (λ part. option_map (λ before. (before, part)) (part_before parts section)) (slice_get parts section)

-- a part begins before the one before it
abbrev pub order_facts : ℕ → Part × Part → BuildFacts
order_facts section (before, part) =
    record { section = section; offset = offset_place part; offset_before = Some (offset_place before); mapping = None }

-- the first mapping of a part that stands after the next part's offset
abbrev pub overlap_facts : ℕ → Part × Part → BuildFacts
overlap_facts section (before, part) = record {
  section = section;
  offset = offset_place part;
  offset_before = None;
  mapping = option_map place_of (option_map position_of_mapping (find (is_after_offset part) (placed before)));
}

-- the first mapping of a part of which a number at its place is past the limit
abbrev pub range_facts : ℕ → Part → BuildFacts
range_facts section part = record {
  section = section;
  offset = offset_place part;
  offset_before = None;
  mapping = option_map place_of (option_map position_of_mapping (find is_mapping_past_limit (placed part)));
}

-- what is known of an index that is not built of these parts; nothing where the refusal is of none of them
abbrev pub build_facts : List Part → BuildRefusal → Option BuildFacts
build_facts parts Interval = None
build_facts parts (SectionOrder section) = option_map (order_facts section) (adjacent_at parts section)
build_facts parts (SectionOverlap section) = option_map (overlap_facts section) (adjacent_at parts section)
build_facts parts (PositionRange section) = option_map (range_facts section) (slice_get parts section)
build_facts parts Memory = None
