use Rattle.std.specs.BTreeMap.{get}
use Rattle.std.specs.Ordering.{eq_by_cmp}
use Rattle.smap_compose.specs.Private.Left.{is_marked}
use Rattle.smap_compose.proofs.LeftLaws.{SomeSeen}
use Rattle.smap_compose.proofs.left.places_left.Given as goal

-- some of the entries so far stay, and the map has their places
abbrev pub invariant-loop-i : goal.invariant-loop-i
invariant-loop-i g l = SomeSeen (eq_by_cmp g.K.Ord.cmp) (is_marked l.used) l.keys l.i (get g.K.Ord.cmp l.found) l.many l.places.items l.stays.items
