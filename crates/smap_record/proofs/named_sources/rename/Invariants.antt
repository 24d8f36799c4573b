use Rattle.std.proofs.Common.{◌≡◌, ◌++◌, length, map, option_map, string_bytes}
use Rattle.smap_record.specs.Private.Renamed.{with_texts}
use Rattle.smap_record.proofs.named_sources.rename.Given as goal

-- the sources so far have their names
abbrev pub invariant-loop-name : goal.invariant-loop-name
invariant-loop-name l = record {
  walked : l.yielded ++ l.name-iterator.rest.items ≡ l.fn.names.items;
  counted : l.i ≡ length l.yielded;
  sources : l.map_file.stated.sources ≡ with_texts (map (option_map string_bytes) l.yielded) l.initial.map_file.stated.sources;
  parts : l.map_file.stated.parts ≡ l.initial.map_file.stated.parts;
  names : l.map_file.stated.names ≡ l.initial.map_file.stated.names;
  file : l.map_file.stated.file ≡ l.initial.map_file.stated.file;
  interval : l.map_file.k ≡ l.initial.map_file.k;
}
