-- What is said of each source of a map: how many segments it has, and how much of the generated text it makes.
use Rattle.std.specs.Prelude.{◌≡◌, ℕ, ◌-◌, Bool, true, false, List, Option, Some, None, count_by, map, option_map, unwrap_or}
use Rattle.std.specs.Ordering.{nat_cmp}
use Rattle.std.specs.List.{range_with_len}
use Rattle.std.specs.List.Sorted.{IsNonDecreasingBy, IsPermutation, IsStableByKey}
use Rattle.smap_mappings.specs.declared.mapping.Mapping.{Mapping}
use Rattle.smap_fit.specs.Shares.{has_source, source_bytes, unmapped_bytes}
use Rattle.smap_fit.specs.declared.rows.SourceRow.{SourceRow}

-- the row of a source, with its bytes where there is a generated text
abbrev pub row_of : List Mapping → (generated : Option (List ℕ)) → ℕ → SourceRow
row_of mappings generated source = record {
  source = source;
  segments = count_by (has_source source) mappings;
  bytes = option_map (λ text. source_bytes mappings text source) generated;
}

-- those of so many sources, by their indices
abbrev pub rows_of : List Mapping → (generated : Option (List ℕ)) → (sources : ℕ) → List SourceRow
rows_of mappings generated sources = map (row_of mappings generated) (range_with_len 0 sources)

-- a number that is the less the more bytes a row has
abbrev pub rest_of : SourceRow → ℕ
rest_of row = 18446744073709551615 - unwrap_or row.bytes 0

-- the rows stay as they are or, by their bytes, those with more come first, and of those with as many the former
pub record IsByBytes (rows printed : List SourceRow) : Type 0 where
  pub same : IsPermutation rows printed
  pub ordered : IsNonDecreasingBy rest_of printed
  pub stable : IsStableByKey rest_of nat_cmp rows printed

abbrev pub IsOrderedRows : (by_bytes : Bool) → (rows printed : List SourceRow) → Type 0
IsOrderedRows false rows printed = printed ≡ rows
IsOrderedRows true rows printed = IsByBytes rows printed

-- the bytes that come from no source
abbrev pub unmapped_in : List Mapping → (generated : Option (List ℕ)) → ℕ
unmapped_in mappings None = 0
unmapped_in mappings (Some text) = unmapped_bytes mappings text
