use Rattle.std.proofs.Common.{◌≡◌, ◌≤◌, ◌+◌, ◌<◌, ℕ, length}
use Rattle.std.specs.Prelude.{All, count_by, slice_index, sum}
use Rattle.smap_index.specs.Parts.{joined}
use Rattle.smap_mappings.specs.Within.{IsWithin}
use Rattle.smap_fit.specs.Shares.{has_source}
use Rattle.smap_fit.proofs.segments.segments_by_source.Given as goal

-- the mappings so far and those that are left are all
abbrev pub invariant-loop-mapping : goal.invariant-loop-mapping
invariant-loop-mapping l =
    let sources = length l.fn.map.stated.sources in
    let all = joined l.fn.map.stated.parts in
    record {
      can : (goal.iterator-loop-mapping).can_next l.mapping-iterator;
      finite : (goal.iterator-loop-mapping).is_finite l.mapping-iterator;
      many : length l.counts.items ≡ sources;
      within : All (IsWithin sources (length l.fn.map.stated.names)) l.mapping-iterator;
      each : (source : ℕ) → source < sources → slice_index l.counts.items source + count_by (has_source source) l.mapping-iterator ≡ count_by (has_source source) all;
      few : sum l.counts.items + length l.mapping-iterator ≤ length all;
    }
