use Rattle.std.proofs.Common.{◌≡◌, ℕ, List, drop}
use Rattle.serde_json.specs.View.{view}
use Rattle.smap_record.specs.Ignored.{ignored_flags}
use Rattle.smap_record.specs.Json.{list_of, number_below}
use Rattle.smap_record.proofs.EachLaws.{after}
use Rattle.smap_record.proofs.ignored.ignored_flags.Given as goal

-- the indices so far have their flags, and those of the items to come stand after them
abbrev pub invariant-loop-item : goal.invariant-loop-item
invariant-loop-item l = (indices : List ℕ)
    × (after (number_below l.sources) indices (drop l.item-index l.item-items) ≡ list_of (number_below l.sources) (view l.fn.value))
    × (l.flags.items ≡ ignored_flags l.sources indices)
