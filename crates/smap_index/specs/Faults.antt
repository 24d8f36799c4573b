-- Why an index is not built, and why its mappings are not encoded (ECMA-426, Index source map): the sections stand in the
-- order of their offsets, and none reaches past the next one's offset. This project's own are: that a mapping may stand at
-- the next offset, the limit 2147483647 for all that is placed, the order of the refusals, and that one of them refuses all
-- parts. The numbers of parts count from 0.
use Rattle.std.specs.Prelude.{ℕ, List, [], ◌∷◌, Option, Some, None, Bool, ◌&&◌, ◌||◌, nat_le, if◌then◌else◌, option_map}
use Rattle.std.specs.List.{list_any, position_from}
use Rattle.std.specs.Option.{option_or}
use Rattle.smap_mappings.specs.declared.mapping.Mapping.{Mapping}
use Rattle.smap_mappings.specs.Encode.{is_text_too_long}
use Rattle.smap_mappings.specs.Range.{is_number_past_limit, is_mapping_past_limit, stands_before}
use Rattle.smap_index.specs.declared.part.Part.{Part}
use Rattle.smap_index.specs.declared.refusal.BuildRefusal.{BuildRefusal}
use Rattle.smap_index.specs.declared.refusal.BuildRefusal.TheVariants.{Interval, SectionOrder, SectionOverlap, PositionRange}
use Rattle.smap_index.specs.declared.refusal.EncodeAllRefusal.{EncodeAllRefusal}
use Rattle.smap_index.specs.declared.refusal.EncodeAllRefusal.TheVariants.{TooLong}
use Rattle.smap_index.specs.Parts.{placed}
use Rattle.smap_index.specs.Position.{offset_of}

-- each part with the one after it
abbrev pub adjacent : List Part → List (Part × Part)
adjacent [] = []
adjacent (part ∷ []) = []
adjacent (part ∷ next ∷ parts) = (part, next) ∷ adjacent (next ∷ parts)

-- ---- the order of the offsets

-- the offset of the second stands before that of the first
abbrev pub is_out_of_order : Part × Part → Bool
is_out_of_order (part, next) = stands_before (offset_of next) (offset_of part)

-- the number of the first part whose offset stands before that of the part before it
unfoldable pub order_fault : List Part → Option ℕ
order_fault parts = position_from is_out_of_order 1 (adjacent parts)

-- ---- what reaches past an offset

-- the mapping stands after the part's offset
abbrev pub is_after_offset : Part → Mapping → Bool
is_after_offset part mapping = stands_before (offset_of part) mapping

-- a mapping of the first, at its place, stands after the offset of the second
abbrev pub is_overlapping : Part × Part → Bool
is_overlapping (part, next) = list_any (is_after_offset next) (placed part)

-- the number of the first part after whose offset a mapping of the part before it stands
unfoldable pub overlap_fault : List Part → Option ℕ
overlap_fault parts = position_from is_overlapping 1 (adjacent parts)

-- ---- what is past the limit

-- the part's offset is past the limit, or a number of a mapping of it at its place
abbrev pub is_part_past_limit : Part → Bool
is_part_past_limit part = is_number_past_limit part.line || is_number_past_limit part.column || list_any is_mapping_past_limit (placed part)

-- the number of the first such part
unfoldable pub range_fault : List Part → Option ℕ
range_fault parts = position_from is_part_past_limit 0 parts

-- ---- the refusal

-- the first refusal of these parts, if there is one: all parts are asked for the first fault before any is for the next
unfoldable pub part_fault : List Part → Option BuildRefusal
part_fault parts =
    option_or (option_map SectionOrder (order_fault parts))
    (option_or (option_map SectionOverlap (overlap_fault parts))
    (option_map PositionRange (range_fault parts)))

-- the greatest interval at which checkpoints may stand
abbrev pub most_interval : ℕ
most_interval = 4096

-- checkpoints may stand at this interval
abbrev pub is_interval : ℕ → Bool
is_interval interval = nat_le 1 interval && nat_le interval most_interval

-- the first refusal of these parts at this interval, if there is one
unfoldable pub build_fault : List Part → ℕ → Option BuildRefusal
build_fault parts interval = if is_interval interval then part_fault parts else Some Interval

-- ---- encoding

-- the refusal of an index's mappings, which are in order and not past the limit
abbrev pub encode_all_fault : List Mapping → Option EncodeAllRefusal
encode_all_fault mappings = if is_text_too_long mappings then Some TooLong else None
