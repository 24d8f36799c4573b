use Rattle.std.proofs.Common.{◌≡◌, true}
use Rattle.smap_compose.specs.Private.Walk.{IsWalkThrough, stands_up_to}
use Rattle.smap_compose.proofs.walk.Walk.origin_at.Given as goal

-- the last mapping that was passed does not stand after the position
abbrev pub invariant-loop : goal.invariant-loop
invariant-loop l = record {
  walk : IsWalkThrough l.map.stated l.self;
  up : stands_up_to l.line l.column l.self.before ≡ true;
}
