use Rattle.std.proofs.Common.{◌≡◌}
use Rattle.serde_json.specs.View.{view}
use Rattle.smap_record.specs.IndexMap.{entry_in}
use Rattle.smap_record.specs.Private.Seen.{entries_seen}
use Rattle.smap_record.specs.Json.{list_of}
use Rattle.smap_record.proofs.EachLaws.{after}
use Rattle.smap_record.proofs.index_map.entry_list.Given as goal

-- the entries so far, and those of the items to come
abbrev pub invariant-loop-item : goal.invariant-loop-item
invariant-loop-item l = after entry_in (entries_seen l.entries.items) l.item-iterator.rest.items ≡ list_of entry_in (view l.fn.value)
