use Rattle.std.proofs.Common.{◌≡◌, ◌+◌, ◌*◌, ◌≤◌, length, min}
use Rattle.smap_index.specs.LineStarts.{first_starts}
use Rattle.smap_index.specs.Private.Search.{lines_at}
use Rattle.smap_index.proofs.LineStartLaws.{next_line}
use Rattle.smap_index.proofs.line_starts.LineStarts.of.Given as goal

-- the lines up to that of the last checkpoint so far have their starts, but no more than may have one
abbrev pub invariant-loop-i : goal.invariant-loop-i
invariant-loop-i l = record {
  started : l.starts.items ≡ first_starts (lines_at l.table) (length l.starts.items);
  far : length l.starts.items ≡ min (next_line l.i (lines_at l.table)) (4 * length l.table);
  counted : l.meter.comparisons ≡ l.i + 1;
}
