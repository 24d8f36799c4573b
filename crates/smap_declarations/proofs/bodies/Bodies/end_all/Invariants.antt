use Rattle.std.proofs.Common.{◌≡◌, [], length}
use Rattle.smap_declarations.specs.Private.Found.{all_named}
use Rattle.smap_declarations.specs.Private.Waiting.{AreWaiting, ended_from}
use Rattle.smap_declarations.proofs.bodies.Bodies.end_all.Given as goal

abbrev pub invariant-loop-last : goal.invariant-loop-last
invariant-loop-last l = record {
  order : AreWaiting l.level (length l.found.items) l.self;
  ended : ended_from l.level l.place [] l.self (all_named l.found.items) ≡ ended_from l.level l.place [] l.fn.self (all_named l.fn.found.items);
}

abbrev pub decreases-loop-last : goal.decreases-loop-last
decreases-loop-last l = length l.self
