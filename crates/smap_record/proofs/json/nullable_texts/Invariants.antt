use Rattle.std.proofs.Common.{◌≡◌}
use Rattle.serde_json.specs.View.{view}
use Rattle.smap_record.specs.Private.Seen.{texts_seen}
use Rattle.smap_record.specs.Json.{list_of, text_or_null}
use Rattle.smap_record.proofs.EachLaws.{after}
use Rattle.smap_record.proofs.json.nullable_texts.Given as goal

-- the texts so far, and those of the items to come
abbrev pub invariant-loop-item : goal.invariant-loop-item
invariant-loop-item l = after text_or_null (texts_seen l.texts.items) l.item-iterator.rest.items ≡ list_of text_or_null (view l.fn.value)
