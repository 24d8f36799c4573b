-- Mappings that are given as numbers, as they are handed out, and why they have no text.
use Rattle.std.specs.Prelude.{ℕ, ◌==◌, None, Some, if◌then◌else◌}
use Rattle.smap_mappings.specs.Codes.{encode_code}
use Rattle.smap_mappings.specs.declared.canonical.EncodeRefusal.{EncodeRefusal}
use Rattle.smap_mappings.specs.declared.canonical.EncodeRefusal.TheVariants.{NotSorted, OutOfRange, TooLong, Memory}
use Rattle.smap_mappings.specs.declared.mapping.Mapping.{Mapping}
use Rattle.smap_mappings.specs.declared.mapping.Origin.{Origin}
use Rattle.smap_c.specs.Codes.{code_number}
use Rattle.smap_c.specs.declared.encoding.EncodeNumbers.{EncodeNumbers}
use Rattle.smap_c.specs.declared.encoding.MappingNumbers.{MappingNumbers}

-- the original of a mapping, with its name where it has one
abbrev pub origin_in : MappingNumbers → Origin
origin_in numbers = record {
  source = numbers.source;
  line = numbers.original_line;
  column = numbers.original_column;
  name = if numbers.named == 0 then None else Some numbers.name;
}

-- the mapping, which has an original where its kind is 2
abbrev pub mapping_in : MappingNumbers → Mapping
mapping_in numbers = record {
  line = numbers.line;
  column = numbers.column;
  origin = if numbers.kind == 2 then Some (origin_in numbers) else None;
}

-- the mapping that is refused, and 0 where it is none alone
abbrev pub refused_mapping : EncodeRefusal → ℕ
refused_mapping (NotSorted mapping) = mapping
refused_mapping (OutOfRange mapping) = mapping
refused_mapping TooLong = 0
refused_mapping Memory = 0

-- the numbers of a refusal: that of its code, and that of the mapping
abbrev pub encode_numbers : EncodeRefusal → EncodeNumbers
encode_numbers refusal = record { code = code_number (encode_code refusal); mapping = refused_mapping refusal }
