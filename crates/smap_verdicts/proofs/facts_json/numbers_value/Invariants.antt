-- the values of the numbers so far
use Rattle.std.proofs.Common.{◌≡◌, map, take}
use Rattle.serde_json.specs.View.{view}
use Rattle.smap_verdicts.specs.Facts.{integer}
use Rattle.smap_verdicts.proofs.facts_json.numbers_value.Given as goal

abbrev pub invariant-loop-number : goal.invariant-loop-number
invariant-loop-number l = map view l.values.items ≡ map integer (take l.number-index l.numbers)
