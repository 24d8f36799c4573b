use Rattle.std.proofs.Common.{◌≡◌, ◌≤◌, length, reverse}
use Rattle.smap_pairs.specs.Word.{scheme_end}
use Rattle.smap_pairs.proofs.word.scheme_end.Given as goal

abbrev pub invariant-loop-seen : goal.invariant-loop-seen
invariant-loop-seen l = record {
  same : scheme_end 0 0 (reverse l.fn.word) ≡ scheme_end l.next l.after (reverse l.rest);
  few : length l.rest ≤ length l.fn.word;
}

abbrev pub decreases-loop-seen : goal.decreases-loop-seen
decreases-loop-seen l = length l.rest
