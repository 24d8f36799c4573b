use Rattle.std.proofs.Common.{◌≡◌, take}
use Rattle.smap_compose.specs.Inners.{stated_inners}
use Rattle.smap_c.specs.Inners.{maps_held, stated_maps}
use Rattle.smap_c.proofs.inners.Inners.maps.Given as goal

-- the maps of the places so far
abbrev pub invariant-loop-place : goal.invariant-loop-place
invariant-loop-place l = stated_inners l.maps.items ≡ stated_maps (maps_held (take l.place-index l.place-items))
