use Rattle.std.proofs.Common.{◌≡◌, ◌++◌}
use Rattle.smap_record.specs.Sources.{source_of}
use Rattle.smap_record.specs.Written.{content_of_source, text_of_source, value_of_text}
use Rattle.smap_record.proofs.ValueLaws.{AreValuesOf}
use Rattle.smap_record.proofs.written.source_values.Given as goal

-- the values are those of the sources so far
abbrev pub invariant-loop-source : goal.invariant-loop-source
invariant-loop-source l = record {
  sources : l.yielded ++ l.source-iterator.rest.items ≡ l.fn.sources.items;
  names : AreValuesOf source_of (λ source. value_of_text (text_of_source source)) l.names.items l.yielded;
  contents : AreValuesOf source_of (λ source. value_of_text (content_of_source source)) l.contents.items l.yielded;
}
