use Rattle.std.proofs.Common.{◌≡◌, ◌++◌, string_bytes}
use Rattle.serde_json.specs.Data.{string}
use Rattle.smap_record.proofs.ValueLaws.{AreValuesOf}
use Rattle.smap_record.proofs.written.texts.Given as goal

-- the values are those of the texts so far
abbrev pub invariant-loop-text : goal.invariant-loop-text
invariant-loop-text l = record {
  texts : l.yielded ++ l.text-iterator.rest.items ≡ l.fn.texts.items;
  values : AreValuesOf string_bytes string l.values.items l.yielded;
}
