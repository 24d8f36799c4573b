use Rattle.std.proofs.Common.{◌≡◌, ◌+◌, ◌*◌, ◌≤◌, length, take}
use Rattle.smap_mappings.specs.Limits.{most_text_bytes}
use Rattle.smap_index.specs.Parts.{joined, bytes_in}
use Rattle.smap_index.specs.Marks.{used_lines_in}
use Rattle.smap_index.proofs.totals.totals_of.Given as goal

-- the parts so far are counted, and their texts are not too long
abbrev pub invariant-loop-part : goal.invariant-loop-part
invariant-loop-part l = record {
  segments : l.totals.segments ≡ length (joined (take l.part-index l.parts));
  used_lines : l.totals.used_lines ≡ used_lines_in (take l.part-index l.parts);
  few : 2 * l.totals.segments ≤ bytes_in (take l.part-index l.parts) + l.part-index;
  short : bytes_in (take l.part-index l.parts) ≤ most_text_bytes * l.part-index;
  lines : l.totals.used_lines ≤ l.totals.segments;
}
