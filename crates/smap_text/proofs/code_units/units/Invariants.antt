use Rattle.std.proofs.Common.{◌≡◌, ◌-◌, ◌≤◌, length}
use Rattle.std.specs.Str.{IsCharBoundary}
use Rattle.smap_text.specs.Units.{units_before}
use Rattle.smap_text.proofs.code_units.units.Given as goal

-- the units before a character
abbrev pub invariant-loop-at : goal.invariant-loop-at
invariant-loop-at l = record {
  begins : IsCharBoundary l.bytes l.at;
  counted : l.units ≡ units_before l.bytes l.at;
  fewer : l.units ≤ l.at;
}

abbrev pub decreases-loop-at : goal.decreases-loop-at
decreases-loop-at l = length l.bytes - l.at
