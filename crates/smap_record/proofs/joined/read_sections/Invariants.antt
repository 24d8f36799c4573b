use Rattle.std.proofs.Common.{◌≡◌, ◌≤◌, ◌+◌, length}
use Rattle.std.specs.Prelude.{IfSome}
use Rattle.std.specs.List.{All}
use Rattle.smap_record.specs.IndexMap.{no_sections, sections_after}
use Rattle.smap_record.specs.Limits.{most_listed}
use Rattle.smap_record.specs.Private.Marked.{AreMarksAt}
use Rattle.smap_record.specs.Private.PartWithin.{IsPartWithin}
use Rattle.smap_record.specs.Private.Seen.{entries_seen, sections_seen}
use Rattle.smap_record.proofs.JoinedLaws.{count_of}
use Rattle.smap_record.proofs.joined.read_sections.Given as goal

-- the sections so far are read, those of the entries to come stand after them, the bases of the next are how many sources and
-- names they have, and the checkpoints are those of the parts
abbrev pub invariant-loop-entry : goal.invariant-loop-entry
invariant-loop-entry l = record {
  chain : sections_after (sections_seen l.joined) (entries_seen l.entry-iterator.rest.items) ≡ sections_after no_sections (entries_seen l.fn.entries.items);
  count : length l.joined.parts.items + length l.entry-iterator.rest.items ≡ length l.fn.entries.items;
  source_base : count_of l.joined.sources.items ≡ l.source_base;
  few_sources : l.source_base ≤ most_listed;
  few_names : length l.joined.names.items ≤ most_listed;
  within : All (IsPartWithin l.source_base (length l.joined.names.items)) l.joined.parts.items;
  marked : IfSome l.joined.marks (AreMarksAt l.interval l.joined.parts.items);
}
