-- A hold on a map while it lends the map to be changed.
use Rattle.std.specs.Prelude.{Option}
use Rattle.std.specs.Borrow.{Fml, LendsIf, MutBor}
use Rattle.smap_record.specs.MapFile.{Map}
use Rattle.smap_record.specs.contracts.ready_map.ReadyMap as ready_map
use Rattle.smap_record.specs.contracts.shared_map.SharedMap as shared_map

-- it ends with the last map that stood there; where it lends none, it stays
abbrev pub LendsOnly : MutBor Map → Option (MutBor Map) → Fml
LendsOnly shared lent = LendsIf shared_map.the_row ready_map.the_row shared lent (λ last. last) shared.now
