use Rattle.std.proofs.Common.{◌≡◌, false}
use Rattle.std.specs.Prelude.{slice_range}
use Rattle.std.specs.List.{list_any}
use Rattle.smap_mappings.specs.Vlq.{is_ending}
use Rattle.smap_mappings.proofs.measures.cut_end.Given as goal

-- no byte so far ends the number
abbrev pub invariant-loop-end : goal.invariant-loop-end
invariant-loop-end l = list_any is_ending (slice_range l.segment l.place l.end) ≡ false
