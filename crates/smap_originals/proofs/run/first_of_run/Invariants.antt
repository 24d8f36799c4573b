use Rattle.std.proofs.Common.{◌≡◌, ◌+◌, ◌≤◌}
use Rattle.std.specs.List.{AllWithin}
use Rattle.smap_originals.specs.Originals.{original_order}
use Rattle.smap_originals.proofs.run.first_of_run.Given as goal

abbrev pub invariant-loop-first : goal.invariant-loop-first
invariant-loop-first l = record {
  front : l.first ≤ l.at;
  run : AllWithin (λ p. original_order p ≡ l.order) l.places l.first (l.at + 1);
  counted : l.meter.comparisons + l.first ≡ l.fn.meter.comparisons + l.at;
  none_decoded : l.meter.segments ≡ l.fn.meter.segments;
}

abbrev pub decreases-loop-first : goal.decreases-loop-first
decreases-loop-first l = l.first
