use Rattle.std.proofs.Common.{◌≡◌, ◌++◌, map, option_map, take}
use Rattle.std.specs.Prelude.{option_copied}
use Rattle.smap_resolve.specs.SourceName.{name_of}
use Rattle.smap_compose.specs.Composition.{source_from}
use Rattle.smap_compose.specs.Private.Listing.{lent_source}
use Rattle.smap_compose.proofs.listed.add_sources.Given as goal

-- the sources so far are added
abbrev pub invariant-loop-i : goal.invariant-loop-i
invariant-loop-i l =
    map lent_source l.sources.items
    ≡ map lent_source l.initial.sources.items
    ++ map (source_from (option_map name_of (option_copied l.fn.outer))) (take l.i l.map_file.stated.sources)
