use Rattle.std.proofs.Common.{◌≡◌, ◌++◌, map, take}
use Rattle.smap_compose.specs.Private.Listing.{lent_text}
use Rattle.smap_compose.proofs.listed.add_names.Given as goal

-- the names so far are added
abbrev pub invariant-loop-i : goal.invariant-loop-i
invariant-loop-i l = map lent_text l.names.items ≡ map lent_text l.initial.names.items ++ take l.i l.map_file.stated.names
