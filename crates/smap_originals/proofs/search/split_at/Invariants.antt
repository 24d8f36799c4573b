use Rattle.std.proofs.Common.{ℕ, ◌-◌, ◌≡◌, ◌+◌, ◌^◌, ◌<◌, ◌≤◌, length, Some}
use Rattle.std.specs.List.{AllWithin, slice_get}
use Rattle.std.specs.Option.{MatchOption}
use Rattle.smap_originals.specs.Originals.{original_order}
use Rattle.smap_originals.specs.Private.Run.{bound_of}
use Rattle.smap_originals.proofs.search.split_at.Given as goal

-- the places before `low` stand in front and those from `high` on do not, `last` is the last of the former and `next`
-- the first of the latter, and with each comparison so far the number of places between them came below a power of two that
-- is one lower
abbrev pub invariant-loop-low : goal.invariant-loop-low
invariant-loop-low l = record {
  low : l.low ≤ l.high;
  inside : l.high ≤ length l.places;
  front : AllWithin (λ p. original_order p < bound_of l.direction l.order) l.places 0 l.low;
  back : AllWithin (λ p. bound_of l.direction l.order ≤ original_order p) l.places l.high (length l.places);
  last : MatchOption l.last (l.low ≡ 0) (λ p. (0 < l.low) × (slice_get l.places (l.low - 1) ≡ Some p));
  next : l.next ≡ slice_get l.places l.high;
  few : (b : ℕ) → length l.places < 2 ^ b → (d : ℕ) × (l.meter.comparisons + d ≡ l.fn.meter.comparisons + b) × (l.high - l.low < 2 ^ d);
  none_decoded : l.meter.segments ≡ l.fn.meter.segments;
}

abbrev pub decreases-loop-low : goal.decreases-loop-low
decreases-loop-low l = l.high - l.low
