use Rattle.std.proofs.Common.{◌≡◌, ◌+◌, ◌<◌, length}
use Rattle.smap_pairs.specs.Colours.{colour_behind, colour_from}
use Rattle.smap_pairs.proofs.colours.colour_behind.Given as goal

-- the colour is the one that the rest of the text gives
abbrev pub invariant-loop-many : goal.invariant-loop-many
invariant-loop-many l = record {
  begun : l.fn.size < l.size;
  parts : l.size + length l.rest ≡ l.fn.size + length l.text;
  rest : colour_from l.size l.many l.rest ≡ colour_behind l.fn.size l.text;
}

abbrev pub decreases-loop-many : goal.decreases-loop-many
decreases-loop-many l = l.many
