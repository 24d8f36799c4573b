use Rattle.std.proofs.Common.{◌≡◌, map, take}
use Rattle.serde_json.specs.Data.{number, unsigned}
use Rattle.serde_json.specs.View.{view}
use Rattle.smap_record.specs.Sources.{source_of}
use Rattle.smap_record.specs.Written.{ignored_indices}
use Rattle.smap_record.proofs.written.ignored.Given as goal

-- the values are the indices of the ignored ones among the sources so far
abbrev pub invariant-loop-i : goal.invariant-loop-i
invariant-loop-i l = map view l.values.items ≡ map (λ index. number (unsigned index)) (ignored_indices (map source_of (take l.i l.sources)))
