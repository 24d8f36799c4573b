use Rattle.std.proofs.Common.{◌≡◌, ◌<◌, ◌≤◌, ℕ, length}
use Rattle.smap_originals.specs.Originals.{IsByOriginal, of_source}
use Rattle.smap_originals.proofs.gather.sort.Given as goal

abbrev pub invariant-loop-source : goal.invariant-loop-source
invariant-loop-source l = record {
  many : length l.gathered.items ≡ length l.fn.gathered.items;
  sorted : (s : ℕ) → s < l.source → IsByOriginal (of_source l.fn.gathered.items s) (of_source l.gathered.items s);
  left : (s : ℕ) → l.source ≤ s → of_source l.gathered.items s ≡ of_source l.fn.gathered.items s;
}
