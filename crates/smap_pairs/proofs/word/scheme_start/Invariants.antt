use Rattle.std.proofs.Common.{◌≡◌, ◌≤◌, IfSome, None, length, reverse}
use Rattle.smap_pairs.specs.Word.{scheme_start}
use Rattle.smap_pairs.proofs.word.scheme_start.Given as goal

abbrev pub invariant-loop-seen : goal.invariant-loop-seen
invariant-loop-seen l = record {
  same : scheme_start None (reverse l.fn.word) ≡ scheme_start l.letter (reverse l.rest);
  few : length l.rest ≤ length l.fn.word;
  within : IfSome l.letter (λ n. n ≤ length l.fn.word);
}

abbrev pub decreases-loop-seen : goal.decreases-loop-seen
decreases-loop-seen l = length l.rest
