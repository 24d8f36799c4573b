use Rattle.std.proofs.Common.{◌≡◌, length}
use Rattle.smap_locations.specs.Patterns.{rest_behind, rest_from}
use Rattle.smap_locations.proofs.pieces.rest_behind.Given as goal

-- the text stands at no byte before
abbrev pub invariant-loop-byte : goal.invariant-loop-byte
invariant-loop-byte l = rest_behind l.fn.text l.fn.url ≡ rest_from l.fn.text l.begins l.left

abbrev pub decreases-loop-byte : goal.decreases-loop-byte
decreases-loop-byte l = length l.left
