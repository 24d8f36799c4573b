use Rattle.std.proofs.Common.{◌≡◌, ◌+◌, ◌*◌, ◌≤◌, ◌++◌, length}
use Rattle.smap_declarations.specs.Declarations.{named_from}
use Rattle.smap_declarations.specs.Private.Found.{all_named}
use Rattle.smap_declarations.specs.Private.Open.{behind_brackets}
use Rattle.smap_declarations.specs.Private.Waiting.{AreWaiting, ended_from}
use Rattle.smap_declarations.specs.Walk.{origin, start}
use Rattle.smap_declarations.proofs.naming.found_in.Given as goal

abbrev pub invariant-loop-byte : goal.invariant-loop-byte
invariant-loop-byte l = record {
  found : ended_from l.level l.walk.place l.walk.rest.now l.bodies (all_named l.found.items)
      ++ named_from l.map.stated l.walk.before l.walk.place l.walk.rest.now
      ≡ named_from l.map.stated start origin l.text;
  order : AreWaiting l.level (length l.found.items) l.bodies;
  brackets : l.brackets ≡ behind_brackets l.walk.rest.now;
  level : l.level + length l.walk.rest.now ≤ length l.text;
  line : l.walk.place.line + length l.walk.rest.now ≤ length l.text;
  column : l.walk.place.column + 2 * length l.walk.rest.now ≤ 2 * length l.text;
}

abbrev pub decreases-loop-byte : goal.decreases-loop-byte
decreases-loop-byte l = length l.walk.rest.now
