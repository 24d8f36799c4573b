use Rattle.std.proofs.Common.{◌≡◌, drop, is_some}
use Rattle.std.specs.List.{list_any}
use Rattle.smap_c.specs.Inners.{maps_held}
use Rattle.smap_c.proofs.steps.is_any_map.Given as goal

-- what is left decides
abbrev pub invariant-loop-place : goal.invariant-loop-place
invariant-loop-place l = list_any is_some (maps_held (drop l.place-index l.places)) ≡ list_any is_some (maps_held l.places)
