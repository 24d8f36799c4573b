use Rattle.std.proofs.Common.{◌≡◌, ℕ, [], length}
use Rattle.smap_originals.specs.Originals.{of_source}
use Rattle.smap_originals.proofs.gather.rooms.Given as goal

abbrev pub invariant-loop-count : goal.invariant-loop-count
invariant-loop-count l = record {
  many : length l.rooms.items ≡ l.count-index;
  none : (source : ℕ) → of_source l.rooms.items source ≡ [];
}
