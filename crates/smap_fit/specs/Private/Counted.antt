-- The row of a source with counts by source.
use Rattle.std.specs.Prelude.{ℕ, List, Option, option_map, slice_index}
use Rattle.smap_fit.specs.declared.rows.SourceRow.{SourceRow}

abbrev pub counted_row : (segments : List ℕ) (bytes : Option (List ℕ)) → ℕ → SourceRow
counted_row segments bytes source = record {
  source = source;
  segments = slice_index segments source;
  bytes = option_map (λ counts. slice_index counts source) bytes;
}
