-- What contracts see of the map of a pattern: the pattern's text, and what the map states.
use Rattle.std.specs.Prelude.{ℕ, List}
use Rattle.smap_record.specs.Record.{MapRecord}
use Rattle.smap_store.specs.declared.pattern_map.PatternMap.{PatternMap}

abbrev pub pattern_seen : PatternMap → List ℕ × MapRecord
pattern_seen pattern = (pattern.text.items, pattern.map.stated)
