use Rattle.std.proofs.Common.{◌≡◌, ◌+◌, ◌≤◌, length, reverse}
use Rattle.std.specs.Prelude.{slice_range}
use Rattle.smap_pairs.specs.Word.{before_word}
use Rattle.smap_pairs.proofs.word.word_start.Given as goal

abbrev pub invariant-loop-seen : goal.invariant-loop-seen
invariant-loop-seen l = record {
  same : before_word 0 (reverse (slice_range l.fn.line l.fn.low l.fn.end)) ≡ before_word l.within (reverse l.rest);
  few : l.fn.low + length l.rest ≤ l.fn.end;
}

abbrev pub decreases-loop-seen : goal.decreases-loop-seen
decreases-loop-seen l = length l.rest
