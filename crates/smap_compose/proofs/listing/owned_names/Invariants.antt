use Rattle.std.proofs.Common.{◌≡◌, map, string_bytes, take}
use Rattle.smap_compose.specs.Private.Listing.{lent_text}
use Rattle.smap_compose.proofs.listing.owned_names.Given as goal

-- the names so far are owned
abbrev pub invariant-loop-name : goal.invariant-loop-name
invariant-loop-name l = map string_bytes l.owned.items ≡ map lent_text (take l.name-index l.names)
