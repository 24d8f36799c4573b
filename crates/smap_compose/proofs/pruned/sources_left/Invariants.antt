use Rattle.std.proofs.Common.{◌≡◌, map, take, length}
use Rattle.smap_compose.specs.Pruned.{named_source}
use Rattle.smap_compose.specs.Private.Keys.{key_seen}
use Rattle.smap_compose.specs.Private.Listing.{lent_source}
use Rattle.smap_compose.proofs.pruned.sources_left.Given as goal

-- the keys are those of the sources so far
abbrev pub invariant-loop-source : goal.invariant-loop-source
invariant-loop-source l = record {
  many : length l.keys.items ≡ l.source-index;
  keys_are : map key_seen l.keys.items ≡ map named_source (map lent_source (take l.source-index l.sources));
}
