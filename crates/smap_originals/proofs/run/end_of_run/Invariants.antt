use Rattle.std.proofs.Common.{◌≡◌, ◌+◌, ◌-◌, ◌<◌, ◌≤◌, length}
use Rattle.std.specs.List.{AllWithin}
use Rattle.smap_originals.specs.Originals.{original_order}
use Rattle.smap_originals.proofs.run.end_of_run.Given as goal

abbrev pub invariant-loop-end : goal.invariant-loop-end
invariant-loop-end l = record {
  begun : l.at < l.end;
  within : l.end ≤ length l.places;
  run : AllWithin (λ p. original_order p ≡ l.order) l.places l.at l.end;
  counted : l.meter.comparisons + l.at + 1 ≡ l.fn.meter.comparisons + l.end;
  none_decoded : l.meter.segments ≡ l.fn.meter.segments;
}

abbrev pub decreases-loop-end : goal.decreases-loop-end
decreases-loop-end l = length l.places - l.end
