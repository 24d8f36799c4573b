use Rattle.std.proofs.Common.{◌≡◌, ◌++◌, drop, length, map}
use Rattle.std.specs.Prelude.{option_copied}
use Rattle.smap_record.specs.Sources.{source_of, sources_with}
use Rattle.smap_record.specs.Private.Seen.{sources_seen, texts_seen}
use Rattle.smap_record.proofs.sources.add_sources.Given as goal

-- the sources with the texts so far are added, and the contents and flags of the others are to come
abbrev pub invariant-loop-text : goal.invariant-loop-text
invariant-loop-text l = record {
  texts : l.yielded ++ l.text-iterator.rest.items ≡ l.fn.section.texts.items;
  root : l.root ≡ l.fn.section.root;
  contents : l.contents.rest.items ≡ drop (length l.yielded) l.fn.section.contents.items;
  flags : l.flags.rest.items ≡ drop (length l.yielded) l.fn.section.ignored.items;
  list : map source_of l.sources.items ≡ map source_of l.initial.sources.items
      ++ sources_with (option_copied l.base) (sources_seen l.fn.section) (texts_seen l.yielded);
}
