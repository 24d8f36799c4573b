use Rattle.std.proofs.Common.{◌≡◌, ◌+◌, ◌++◌, ◌≤◌, length, map, take, vec_capacity}
use Rattle.smap_pairs.specs.Seen.{by_itself}
use Rattle.smap_pairs.proofs.seen.push_run.Given as goal

-- the bytes so far were added, and the room stays
abbrev pub invariant-loop-byte : goal.invariant-loop-byte
invariant-loop-byte l = record {
  added : l.seen.items ≡ l.fn.seen.items ++ map by_itself (take l.byte-index l.run);
  size : length l.seen.items ≡ length l.fn.seen.items + l.byte-index;
  room : vec_capacity l.seen ≡ vec_capacity l.fn.seen;
}
