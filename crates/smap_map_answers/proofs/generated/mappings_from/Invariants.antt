use Rattle.std.proofs.Common.{◌≡◌, take}
use Rattle.smap_index.specs.Parts.{joined}
use Rattle.smap_map_answers.specs.Generated.{mappings_from}
use Rattle.smap_map_answers.proofs.generated.mappings_from.Given as goal

-- the mappings of the sources so far
abbrev pub invariant-loop-source : goal.invariant-loop-source
invariant-loop-source l =
    l.found.items ≡ mappings_from l.asked.line l.asked.column l.asked.after (joined l.map.stated.parts) (take l.source-index l.sources)
