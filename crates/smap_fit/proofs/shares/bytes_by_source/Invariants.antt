use Rattle.std.proofs.Common.{◌≡◌, ◌≤◌, ◌+◌, ◌<◌, ◌∷◌, [], ℕ, length, Some, None}
use Rattle.std.specs.Prelude.{All, IfNone, slice_index, sum}
use Rattle.std.specs.Str.{IsUtf8, chars}
use Rattle.std.specs.Str.Iter.{chars_rest}
use Rattle.smap_index.specs.Parts.{joined}
use Rattle.smap_mappings.specs.Order.{IsAtOrBefore, IsInOrder}
use Rattle.smap_mappings.specs.Range.{position_at}
use Rattle.smap_mappings.specs.Within.{IsWithin}
use Rattle.smap_fit.specs.Owners.{owned_bytes}
use Rattle.smap_fit.specs.Private.Left.{with_next}
use Rattle.smap_fit.specs.Shares.{source_bytes, unmapped_bytes}
use Rattle.smap_fit.proofs.shares.bytes_by_source.Given as goal

-- what was counted and what is owned in the rest are all
abbrev pub invariant-loop-character : goal.invariant-loop-character
invariant-loop-character l =
    let many = length l.map.stated.sources in
    let all = joined l.map.stated.parts in
    let left = l.owners.last ∷ with_next l.owners.next l.owners.rest in
    let following = chars_rest l.rest in
    record {
      text : IsUtf8 following;
      ordered : IsInOrder left;
      last : IsAtOrBefore l.owners.last (position_at l.line l.column);
      done : IfNone l.owners.next (l.owners.rest ≡ []);
      within : All (IsWithin many (length l.map.stated.names)) left;
      places : length l.bytes.sources.items ≡ many;
      each : (source : ℕ) → source < many → slice_index l.bytes.sources.items source + owned_bytes (Some source) left l.line l.column (chars following)
          ≡ source_bytes all l.generated source;
      none : l.bytes.unmapped + owned_bytes None left l.line l.column (chars following) ≡ unmapped_bytes all l.generated;
      total : sum l.bytes.sources.items + l.bytes.unmapped + length following ≡ length l.generated;
      line : l.line + length following ≤ length l.generated;
      column : l.column + length following ≤ length l.generated;
    }

abbrev pub decreases-loop-character : goal.decreases-loop-character
decreases-loop-character l = length (chars_rest l.rest)
