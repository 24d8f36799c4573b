-- The rows of sources, by counts of them all.
use Rattle.std.proofs.Common.{◌≡◌, ◌<◌, ◌+◌, ℕ, zero, suc, List, ◌∷◌, length, Some, None, refl, ap, ◌∙◌, arith}
use Rattle.std.specs.Prelude.{map, slice_index}
use Rattle.std.specs.List.{range_with_len}
use Rattle.smap_mappings.specs.declared.mapping.Mapping.{Mapping}
use Rattle.smap_fit.specs.Private.Counted.{counted_row}
use Rattle.smap_fit.specs.Rows.{row_of, rows_of}
use Rattle.smap_fit.specs.Shares.{IsBytesBySource, IsSegmentsBySource}
use Rattle.smap_fit.specs.declared.rows.SourceRow.{SourceRow}

-- two functions that agree on some numbers from one on make the same of them
same_on : (f g : ℕ → SourceRow) (a n : ℕ) → ((s : ℕ) → s < a + n → f s ≡ g s) → map f (range_with_len a n) ≡ map g (range_with_len a n)
same_on f g a zero same = refl
same_on f g a (suc n) same = ap (λ r. r ∷ map f (range_with_len (a + 1) n)) (same a (omega arith)) ∙ ap (λ l. g a ∷ l) (same_on f g (a + 1) n (λ s below. same s (omega arith)))

bare_row : (mappings : List Mapping) (sources : ℕ) (segments : List ℕ) (s : ℕ) → s < sources → IsSegmentsBySource sources mappings segments
    → counted_row segments None s ≡ row_of mappings None s
bare_row mappings sources segments s within counted = ap (λ n. record { source = s; segments = n; bytes = None }) (counted.each s within)

pub bare_rows : (mappings : List Mapping) (sources : ℕ) (segments : List ℕ) → IsSegmentsBySource sources mappings segments
    → map (counted_row segments None) (range_with_len 0 (length segments)) ≡ rows_of mappings None sources
bare_rows mappings sources segments counted =
    ap (λ n. map (counted_row segments None) (range_with_len 0 n)) counted.all
    ∙ same_on (counted_row segments None) (row_of mappings None) 0 sources (λ s below. bare_row mappings sources segments s (omega arith) counted)

full_row : (mappings : List Mapping) (sources : ℕ) (segments text counts : List ℕ) (unmapped s : ℕ) → s < sources → IsSegmentsBySource sources mappings segments
    → IsBytesBySource sources mappings text counts unmapped → counted_row segments (Some counts) s ≡ row_of mappings (Some text) s
full_row mappings sources segments text counts unmapped s within counted shares =
    ap (λ n. record { source = s; segments = n; bytes = Some (slice_index counts s) }) (counted.each s within)
    ∙ ap (λ n. record (row_of mappings (Some text) s) { bytes = Some n }) (shares.each s within)

pub full_rows : (mappings : List Mapping) (sources : ℕ) (segments text counts : List ℕ) (unmapped : ℕ) → IsSegmentsBySource sources mappings segments
    → IsBytesBySource sources mappings text counts unmapped
    → map (counted_row segments (Some counts)) (range_with_len 0 (length segments)) ≡ rows_of mappings (Some text) sources
full_rows mappings sources segments text counts unmapped counted shares =
    ap (λ n. map (counted_row segments (Some counts)) (range_with_len 0 n)) counted.all
    ∙ same_on (counted_row segments (Some counts)) (row_of mappings (Some text)) 0 sources
    (λ s below. full_row mappings sources segments text counts unmapped s (omega arith) counted shares)
