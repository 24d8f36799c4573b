use Rattle.std.proofs.Common.{◌≡◌, ◌++◌, map, take, drop}
use Rattle.smap_compose.specs.Private.Keys.{mapping_moved_to}
use Rattle.smap_compose.proofs.pruned.move_origins.Given as goal

-- the mappings so far have their new origins
abbrev pub invariant-loop-mapping : goal.invariant-loop-mapping
invariant-loop-mapping l =
    l.mapping-items ≡ map (mapping_moved_to l.sources l.names) (take l.mapping-index l.fn.mappings) ++ drop l.mapping-index l.fn.mappings
