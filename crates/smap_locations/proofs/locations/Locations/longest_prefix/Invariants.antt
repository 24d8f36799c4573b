use Rattle.std.proofs.Common.{◌≡◌, ◌≤◌, length}
use Rattle.smap_locations.specs.Deciding.{longest_prefix, prefix_within}
use Rattle.smap_locations.proofs.locations.Locations.longest_prefix.Given as goal

-- no longer prefix has a folder
abbrev pub invariant-loop-end : goal.invariant-loop-end
invariant-loop-end l = record {
  within : l.end ≤ length l.url;
  later : longest_prefix l.self.folders l.url ≡ prefix_within l.self.folders l.url l.end;
}

abbrev pub decreases-loop-end : goal.decreases-loop-end
decreases-loop-end l = l.end
