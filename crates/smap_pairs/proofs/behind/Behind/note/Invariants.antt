use Rattle.std.proofs.Common.{◌+◌, ◌≤◌, length}
use Rattle.smap_pairs.specs.Behind.{KeepsRoom}
use Rattle.smap_pairs.specs.Private.Rest.{IsNoting, IsRest}
use Rattle.smap_pairs.proofs.behind.Behind.note.Given as goal

-- what has been read is noted, of each byte at most one query, and the room is there
abbrev pub invariant-loop-rest : goal.invariant-loop-rest
invariant-loop-rest l = record {
  rest : IsRest l.before l.rest;
  noted : IsNoting l.before l.fn.piece l.self l.rest.at;
  few : length l.self.queries.items + l.rest.at ≤ length l.before;
  keeps_room : KeepsRoom l.fn.self l.self;
}

abbrev pub decreases-loop-rest : goal.decreases-loop-rest
decreases-loop-rest l = l.rest.at
