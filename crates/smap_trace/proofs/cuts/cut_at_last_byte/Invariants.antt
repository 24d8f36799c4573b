use Rattle.std.proofs.Common.{◌≤◌, length, drop}
use Rattle.smap_trace.proofs.CutLaws.{is_without}
use Rattle.smap_trace.proofs.cuts.cut_at_last_byte.Given as goal

abbrev pub invariant-loop-end : goal.invariant-loop-end
invariant-loop-end l = record { within : l.end ≤ length l.text; without : is_without l.byte (drop l.end l.text) }

abbrev pub decreases-loop-end : goal.decreases-loop-end
decreases-loop-end l = l.end
