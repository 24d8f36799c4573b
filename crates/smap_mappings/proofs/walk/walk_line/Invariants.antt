use Rattle.std.proofs.Common.{◌≡◌, ◌+◌, ◌-◌, ◌<◌, ◌≤◌, length}
use Rattle.std.specs.Prelude.{IfSome}
use Rattle.smap_mappings.specs.TextCheck.{AreOnLine}
use Rattle.smap_mappings.specs.Private.Walk.{WalksUpTo}
use Rattle.smap_mappings.proofs.walk.walk_line.Given as goal

-- some segments stand before the state, none of which has a fault, and those that were passed are on its line
abbrev pub invariant-loop-most : goal.invariant-loop-most
invariant-loop-most l = record {
  walked : WalksUpTo l.bytes l.sources l.names l.walk;
  some : 0 < l.walk.segments;
  onward : l.fn.walk.at.place ≤ l.walk.at.place;
  further : l.fn.walk.segments ≤ l.walk.segments;
  few : IfSome l.most (λ most. l.walk.segments ≤ l.start + most);
  line : l.walk.at.line ≡ l.fn.walk.at.line;
  on_line : AreOnLine l.bytes l.fn.walk.at.line l.fn.walk.segments l.walk.segments;
}

abbrev pub decreases-loop-most : goal.decreases-loop-most
decreases-loop-most l = length l.bytes - l.walk.at.place
