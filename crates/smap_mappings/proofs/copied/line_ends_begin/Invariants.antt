use Rattle.std.proofs.Common.{◌≡◌, ◌≤◌, length, take}
use Rattle.smap_mappings.specs.Needless.{without_line_ends}
use Rattle.smap_mappings.proofs.copied.line_ends_begin.Given as goal

-- only `;` stand behind the end
abbrev pub invariant-loop-end : goal.invariant-loop-end
invariant-loop-end l = record {
  inside : l.end ≤ length l.bytes;
  cut : without_line_ends (take l.end l.bytes) ≡ without_line_ends l.bytes;
}

abbrev pub decreases-loop-end : goal.decreases-loop-end
decreases-loop-end l = l.end
