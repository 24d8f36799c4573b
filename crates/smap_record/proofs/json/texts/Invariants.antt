use Rattle.std.proofs.Common.{◌≡◌, map, string_bytes}
use Rattle.serde_json.specs.Find.{as_str}
use Rattle.serde_json.specs.View.{view}
use Rattle.smap_record.specs.Json.{list_of}
use Rattle.smap_record.proofs.EachLaws.{after}
use Rattle.smap_record.proofs.json.texts.Given as goal

-- the texts so far, and those of the items to come
abbrev pub invariant-loop-item : goal.invariant-loop-item
invariant-loop-item l = after as_str (map string_bytes l.texts.items) l.item-iterator.rest.items ≡ list_of as_str (view l.fn.value)
