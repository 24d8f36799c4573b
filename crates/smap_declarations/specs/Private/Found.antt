-- What was found in a text.
use Rattle.std.specs.Prelude.{List, map}
use Rattle.smap_declarations.specs.Declarations.{Named}
use Rattle.smap_declarations.specs.declared.naming.Found.{Found}
use Rattle.smap_declarations.specs.declared.walk.DeclarationPlace.{DeclarationPlace}

abbrev pub named : Found → Named
named found = record { name = found.name.now; place = found.place; until = found.until; given = found.given }

abbrev pub all_named : List Found → List Named
all_named found = map named found

-- with another end
abbrev pub named_until : DeclarationPlace → Found → Named
named_until until found = record (named found) { until = until }
