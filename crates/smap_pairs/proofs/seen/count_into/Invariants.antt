use Rattle.std.proofs.Common.{◌≡◌, ◌+◌, ◌++◌, ◌≤◌, length, vec_capacity}
use Rattle.smap_pairs.specs.Seen.{counted_from}
use Rattle.smap_pairs.specs.Signs.{text_of}
use Rattle.smap_pairs.proofs.seen.count_into.Given as goal

-- what was added, and what the rest of the line gives, is what the line gives; and there is room for that
abbrev pub invariant-loop-behind : goal.invariant-loop-behind
invariant-loop-behind l = record {
  counted : l.seen.items ++ counted_from 0 l.rest ≡ counted_from 0 l.line;
  stands : text_of l.seen.items ++ l.rest ≡ l.line;
  one_a_byte : length l.seen.items + length l.rest ≡ length l.line;
  spare : length l.line ≤ vec_capacity l.seen;
  capacity : vec_capacity l.fn.seen ≤ vec_capacity l.seen;
}

abbrev pub decreases-loop-behind : goal.decreases-loop-behind
decreases-loop-behind l = length l.rest
