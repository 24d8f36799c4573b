use Rattle.std.proofs.Common.{◌≡◌, ◌≤◌, ◌+◌, ◌-◌, length, take, drop}
use Rattle.smap_io.specs.Private.Given.{IsGiven, IsNearer}
use Rattle.smap_io.proofs.telling.tell.Given as goal

abbrev pub invariant-loop-count : goal.invariant-loop-count
invariant-loop-count l = record {
  fits : l.count ≤ length l.room;
  within : length l.rest ≤ length l.bytes;
  few : l.count + length l.rest ≤ length l.bytes;
  rest : l.rest ≡ drop (length l.bytes - length l.rest) l.bytes;
  given : IsGiven l.bytes l.fn.most (take l.count l.room) l.rest l.most;
  nearer : l.count ≡ 0 → IsNearer l.bytes l.fn.most l.rest l.most;
}

abbrev pub decreases-loop-count : goal.decreases-loop-count
decreases-loop-count l = length l.rest
