use Rattle.std.proofs.Common.{◌≡◌, ◌+◌, ◌-◌, ◌≤◌, drop, length, nat_eq, reverse}
use Rattle.std.specs.List.{common_prefix_len}
use Rattle.smap_text_answers.specs.NearestUrl.{common_ending}
use Rattle.smap_text_answers.proofs.nearest.common_ending.Given as goal

abbrev pub invariant-loop-count : goal.invariant-loop-count
invariant-loop-count l = record {
  within_one : l.count ≤ length l.one;
  within_other : l.count ≤ length l.other;
  shared : l.count + common_prefix_len nat_eq (drop l.count (reverse l.one)) (drop l.count (reverse l.other)) ≡ common_ending l.one l.other;
}

abbrev pub decreases-loop-count : goal.decreases-loop-count
decreases-loop-count l = length l.one - l.count
