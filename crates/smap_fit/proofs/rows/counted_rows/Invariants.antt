use Rattle.std.proofs.Common.{◌≡◌, map, option_copied}
use Rattle.std.specs.List.{range_with_len}
use Rattle.smap_fit.specs.Private.Counted.{counted_row}
use Rattle.smap_fit.proofs.rows.counted_rows.Given as goal

abbrev pub invariant-loop-source : goal.invariant-loop-source
invariant-loop-source l = l.rows.items ≡ map (counted_row l.segments (option_copied l.bytes)) (range_with_len 0 l.source)
