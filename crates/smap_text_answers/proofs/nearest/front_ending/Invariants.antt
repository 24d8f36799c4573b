use Rattle.std.proofs.Common.{◌≡◌, ◌-◌, ◌≤◌}
use Rattle.smap_text_answers.specs.NearestUrl.{front_ending}
use Rattle.smap_text_answers.proofs.nearest.front_ending.Given as goal

abbrev pub invariant-loop-count : goal.invariant-loop-count
invariant-loop-count l = record {
  within : l.count ≤ l.most;
  longest : l.longest ≡ front_ending l.url l.prefix l.count;
}

abbrev pub decreases-loop-count : goal.decreases-loop-count
decreases-loop-count l = l.most - l.count
