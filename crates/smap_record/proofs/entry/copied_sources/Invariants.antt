use Rattle.std.proofs.Common.{◌≡◌, map, take}
use Rattle.smap_record.specs.Sources.{source_of}
use Rattle.smap_record.proofs.entry.copied_sources.Given as goal

-- the sources so far are copied
abbrev pub invariant-loop-source : goal.invariant-loop-source
invariant-loop-source l = map source_of l.copies.items ≡ map source_of (take l.source-index l.sources)
