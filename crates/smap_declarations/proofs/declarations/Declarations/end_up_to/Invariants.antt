use Rattle.std.proofs.Common.{◌≡◌, ◌+◌, ◌-◌, ◌^◌, ◌<◌, ◌≤◌, ℕ, length, true, false}
use Rattle.std.specs.List.{AllWithin}
use Rattle.smap_declarations.specs.Private.Order.{is_up_to}
use Rattle.smap_declarations.proofs.declarations.Declarations.end_up_to.Given as goal

-- those below `low` stand up to the place and those from `high` on do not, and with each comparison so far the number between
-- them came below a power of two that is one lower
abbrev pub invariant-loop-low : goal.invariant-loop-low
invariant-loop-low l = record {
  ends : l.low ≤ l.high;
  inside : l.high ≤ length l.self;
  below : AllWithin (λ named. is_up_to l.name l.place named ≡ true) l.self 0 l.low;
  above : AllWithin (λ named. is_up_to l.name l.place named ≡ false) l.self l.high (length l.self);
  onward : l.fn.meter.comparisons ≤ l.meter.comparisons;
  few : (b : ℕ) → length l.self < 2 ^ b → (d : ℕ) × (l.meter.comparisons + d ≡ l.fn.meter.comparisons + b) × (l.high - l.low < 2 ^ d);
  decoded : l.meter.segments ≡ l.fn.meter.segments;
}

abbrev pub decreases-loop-low : goal.decreases-loop-low
decreases-loop-low l = l.high - l.low
