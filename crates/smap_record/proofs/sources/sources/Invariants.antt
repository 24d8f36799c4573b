use Rattle.std.proofs.Common.{◌≡◌, ◌++◌, map}
use Rattle.std.specs.Prelude.{flat_map, option_copied}
use Rattle.smap_record.specs.Sources.{source_of, sources_stated}
use Rattle.smap_record.specs.Private.Seen.{sources_seen}
use Rattle.smap_record.proofs.sources.sources.Given as goal

-- the sources of the sections so far are there
abbrev pub invariant-loop-section : goal.invariant-loop-section
invariant-loop-section l = record {
  sections : l.yielded ++ l.section-iterator.rest.items ≡ l.fn.sections.items;
  list : map source_of l.sources.items ≡ flat_map (sources_stated (option_copied l.base)) (map sources_seen l.yielded);
}
