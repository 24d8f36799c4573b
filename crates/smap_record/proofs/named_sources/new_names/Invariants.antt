use Rattle.std.proofs.Common.{◌≡◌, map, option_map, string_bytes, take}
use Rattle.smap_record.specs.Private.Renamed.{name_at, text_of_source}
use Rattle.smap_record.proofs.named_sources.new_names.Given as goal

-- the names of the sources so far
abbrev pub invariant-loop-i : goal.invariant-loop-i
invariant-loop-i l =
    map (option_map string_bytes) l.names.items ≡ map (text_of_source (name_at l.how l.place)) (take l.i l.map_file.stated.sources)
